use Rattle.std.proofs.lemmas.Str.{IsUtf8-from_ascii}
use Rattle.sacn_tell.proofs.spelling.push_ascii.Goals as goal

pub unreachable-requires : goal.unreachable-requires
unreachable-requires c = c.in_default.ensures.cases.0 (IsUtf8-from_ascii c.args.letters.now c.requires)

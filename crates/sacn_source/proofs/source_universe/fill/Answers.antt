use Rattle.std.proofs.Common.{arith}
use Rattle.sacn_source.proofs.Levels.{shown}
use Rattle.sacn_source.proofs.source_universe.fill.Goals as goal

pub returns : goal.returns
returns c = shown c.args.levels.now _ _ _ c.copy_from_slice.ensures.after (c.fill.ensures.after (λ y same. same)) (omega (arith, c.split_at_mut-given.ensures.back_len))

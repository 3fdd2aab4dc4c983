use Rattle.std.proofs.Common.{◌∙◌, string_bytes, subst, sym, arith}
use Rattle.std.specs.Str.{IsUtf8}
use Rattle.sacn_tell.proofs.Digits.{digits_are, digits_are_text, pushed}
use Rattle.sacn_tell.proofs.spelling.push_written.Goals as goal

pub unreachable-requires : goal.unreachable-requires
unreachable-requires c = c.in_default.ensures.cases.0 (subst IsUtf8 (sym c.write_digits.ensures) (digits_are_text c.args.piece.now))

pub returns : goal.returns
returns c =
    pushed c.push_str.result (string_bytes c.args.text.now) (string_bytes c.push_str.new.self) c.in-Ok.letters.now c.args.piece.now c.push_str.ensures.bytes
    (c.in-Ok.ensures.cases.0 ∙ c.write_digits.ensures ∙ digits_are c.args.piece.now (λ i. omega (arith, c.type_inv.piece i)))

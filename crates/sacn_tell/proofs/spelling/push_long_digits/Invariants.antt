use Rattle.std.proofs.Common.{◌≡◌, ◌++◌, drop, string_bytes}
use Rattle.sacn_tell.specs.Spelling.{longs_text}
use Rattle.sacn_tell.proofs.spelling.push_long_digits.Given as goal

-- what is written, and then the numbers that are left, is all
abbrev pub invariant-loop-number : goal.invariant-loop-number
invariant-loop-number l = string_bytes l.text ++ longs_text (drop l.number-index l.numbers) ≡ string_bytes l.fn.text ++ longs_text l.numbers

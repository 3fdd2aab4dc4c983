use Rattle.std.proofs.Common.{◌≡◌, take}
use Rattle.sacn_text.proofs.block.numbers_of.Given as goal

abbrev pub invariant-loop-i : goal.invariant-loop-i
invariant-loop-i l = l.numbers.items ≡ take l.i l.page.numbers

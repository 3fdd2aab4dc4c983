use Rattle.std.proofs.Common.{◌≡◌, ◌++◌, take, drop}
use Rattle.sacn_c.proofs.pages.copy_numbers.Given as goal

abbrev pub invariant-loop-i : goal.invariant-loop-i
invariant-loop-i l = l.universes ≡ take l.i l.page.numbers ++ drop l.i l.fn.universes

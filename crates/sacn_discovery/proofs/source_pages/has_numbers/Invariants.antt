use Rattle.std.proofs.Common.{◌≡◌, take}
use Rattle.sacn_discovery.proofs.source_pages.has_numbers.Given as goal

abbrev pub invariant-loop-i : goal.invariant-loop-i
invariant-loop-i l = take l.i l.numbers ≡ take l.i l.page.numbers

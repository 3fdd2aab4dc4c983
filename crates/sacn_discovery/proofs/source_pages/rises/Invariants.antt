use Rattle.std.proofs.Common.{◌≡◌, ◌↔◌, ◌≤◌, true}
use Rattle.sacn_discovery.proofs.Rising.{RisesBelow}
use Rattle.sacn_discovery.proofs.source_pages.rises.Given as goal

abbrev pub invariant-loop-i : goal.invariant-loop-i
invariant-loop-i l = (1 ≤ l.i) × ((l.rises ≡ true) ↔ RisesBelow l.numbers l.i)

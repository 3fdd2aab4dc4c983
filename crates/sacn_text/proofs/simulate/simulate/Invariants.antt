use Rattle.std.proofs.Common.{◌≡◌, false, drop, List, ℕ}
use Rattle.sacn_edge.specs.Additions.{Adds}
use Rattle.sacn_text.specs.Simulating.{simulated, then_line}
use Rattle.sacn_text.proofs.simulate.simulate.Given as goal

abbrev pub invariant-loop-i : goal.invariant-loop-i
invariant-loop-i g l = record {
  works : g.O.Out.failed l.out ≡ false;
  so_far :
      (told : List ℕ)
      × Adds (g.O.Out.Tells l.fn.out) (g.O.Out.Tells l.out) told
      × (simulated l.fn.world 0 l.events ≡ then_line told (simulated l.world l.i (drop l.i l.events)));
}

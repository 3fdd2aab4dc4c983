use Rattle.std.proofs.Common.{◌≡◌, ◌≤◌, ◌-◌, false, length, take}
use Rattle.sacn_edge.specs.Additions.{Adds}
use Rattle.sacn_edge.proofs.text.write_text.Given as goal

abbrev pub invariant-loop-done : goal.invariant-loop-done
invariant-loop-done g l = record {
  works : g.O.Out.failed l.out ≡ false;
  within : l.done ≤ length l.text;
  told : Adds (g.O.Out.Tells l.fn.out) (g.O.Out.Tells l.out) (take l.done l.text);
}

abbrev pub decreases-loop-done : goal.decreases-loop-done
decreases-loop-done g l = length l.text - l.done

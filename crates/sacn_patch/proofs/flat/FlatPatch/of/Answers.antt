use Rattle.std.proofs.Common.{map, ap, ◌∙◌}
use Rattle.sacn_patch.specs.Flat.{Row, mark_of}
use Rattle.sacn_patch.proofs.Runs.{first_marks}
use Rattle.sacn_patch.proofs.flat.FlatPatch.of.Goals as goal

pub invariant_of-result : goal.invariant_of-result
invariant_of-result c = (
  c.requires,
  c.join_runs.ensures c.args.row.items (first_marks c.args.row.items c.in_ok-marks.marks.items (c.in_ok-marks.ensures ∙ ap (λ (row : Row). map mark_of row) c.deref.ensures.value)),
  rw c.deref-3.ensures.value at c.in_ok-starts.ensures,
  rw c.deref-2.ensures.value at c.reach_of-reach.ensures,
)

use Rattle.std.proofs.Common.{◌≡◌, length}
use Rattle.std.specs.FinMap.{empty}
use Rattle.std.specs.Vec.Iter.{into_iter_items}
use Rattle.sacn_console.specs.ShowReading.{cues_added}
use Rattle.sacn_console.proofs.show.cues.cues_added.Given as goal

abbrev pub invariant-loop-cue : goal.invariant-loop-cue
invariant-loop-cue l = cues_added empty l.fn.cues.items ≡ cues_added l.list (into_iter_items l.rest)

abbrev pub decreases-loop-cue : goal.decreases-loop-cue
decreases-loop-cue l = length (into_iter_items l.rest)

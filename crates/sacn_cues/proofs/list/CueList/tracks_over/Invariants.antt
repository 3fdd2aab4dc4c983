use Rattle.std.proofs.Common.{◌≡◌, ◌++◌}
use Rattle.sacn_cues.proofs.Tracks.{tracks_from}
use Rattle.sacn_cues.proofs.list.CueList.tracks_over.Given as goal

abbrev pub invariant-loop-number : goal.invariant-loop-number
invariant-loop-number l = record {
  told : l.tracks.items ++ tracks_from l.targets l.number-iterator ≡ tracks_from l.initial.targets l.initial.number-iterator;
}

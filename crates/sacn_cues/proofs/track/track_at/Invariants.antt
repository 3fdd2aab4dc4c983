use Rattle.std.proofs.Common.{◌≡◌, drop}
use Rattle.sacn_cues.specs.Tracks.{track_at}
use Rattle.sacn_cues.proofs.track.track_at.Given as goal

abbrev pub invariant-loop-track : goal.invariant-loop-track
invariant-loop-track l = record {
  told : track_at l.number (drop l.track-index l.tracks) ≡ track_at l.number l.tracks;
}

use Rattle.std.proofs.Common.{◌≡◌, ℕ, ◌<◌, ◌≤◌, [], None, length, get_or}
use Rattle.sacn_monitor.specs.Books.{place_of}
use Rattle.sacn_network.proofs.places.stream_places.Given as goal

-- the places for the sources so far, and none after them
abbrev pub invariant-loop-at : goal.invariant-loop-at
invariant-loop-at l = record {
  within : l.at ≤ length l.cids;
  whole : length l.places ≡ 16;
  so_far : (k : ℕ) → k < l.at → get_or l.places k None ≡ place_of l.universe (get_or l.cids k []) l.monitor.streams;
  rest : (k : ℕ) → l.at ≤ k → get_or l.places k None ≡ None;
}

use Rattle.std.proofs.Common.{◌≡◌, ℕ, ◌<◌, None, length, get_or, option_and_then}
use Rattle.sacn_network.proofs.places.places_by.Given as goal

-- the places for the slots so far
abbrev pub invariant-loop-slot : goal.invariant-loop-slot
invariant-loop-slot l = record {
  whole : length l.by_slot ≡ 512;
  so_far : (k : ℕ) → k < l.slot → get_or l.by_slot k None ≡ option_and_then (λ at. get_or l.places at None) (get_or l.of_slots k None);
}

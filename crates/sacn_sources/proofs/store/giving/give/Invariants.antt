use Rattle.std.proofs.Common.{◌≡◌, ℕ, ◌<◌, ◌≤◌, None, length, get_or}
use Rattle.sacn_sources.specs.Givers.{given_to}
use Rattle.sacn_sources.proofs.store.giving.give.Given as goal

-- the slots so far are given, the others as they were
abbrev pub invariant-loop-slot : goal.invariant-loop-slot
invariant-loop-slot l = record {
  whole : length l.places ≡ 512;
  so_far : (k : ℕ) → k < l.slot → get_or l.places k None ≡ given_to l.place (get_or l.slots k 0) (get_or l.levels k 0) (get_or l.initial.places k None);
  rest : (k : ℕ) → l.slot ≤ k → get_or l.places k None ≡ get_or l.initial.places k None;
}

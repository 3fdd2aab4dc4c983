use Rattle.std.proofs.Common.{◌≡◌, ℕ, ◌<◌, None, length, get_or, drop, map}
use Rattle.sacn_sources.specs.Givers.{first_giver, giver_in}
use Rattle.sacn_sources.specs.Storage.{rows_in}
use Rattle.sacn_sources.proofs.store.giving.givers_in.Given as goal

-- the givers, were there the entries from here on alone
abbrev pub invariant-loop-at : goal.invariant-loop-at
invariant-loop-at l = record {
  whole : length l.places ≡ 512;
  so_far : (k : ℕ) → k < 512 → giver_in (map (λ e. e.cid) l.entries) (get_or l.places k None) ≡ first_giver l.top k (get_or l.slots k 0) (rows_in l.frames (drop l.at l.entries));
}

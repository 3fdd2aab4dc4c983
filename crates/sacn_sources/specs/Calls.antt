-- Calls on one table, and the steps that they make of its value. A history is the list of the calls so far, the latest first.
use Rattle.std.specs.Prelude.{◌≡◌, ℕ, ◌≤◌, ◌⊎◌, max, List, [], ◌∷◌, All, Any}
use Rattle.sacn_sources.specs.Rows.{Packet, Taken, answer, after_expire, rows_lost, slots_of}
use Rattle.sacn_sources.specs.LatestMerge.{Kept, new_kept, kept_after_expire, kept_after_take, kept_after_merged}

-- a call, with the moment that it hands in
pub data Call : Type 0 where
  Take : ℕ → Packet → Call
  Expire : ℕ → Call
  Merge : ℕ → Call

-- what a call answers
pub data Answer : Type 0 where
  Took : Taken → Answer
  Expired : ℕ → Answer
  Slots : List ℕ → Answer

abbrev pub moment_of : Call → ℕ
moment_of (Take now x) = now
moment_of (Expire now) = now
moment_of (Merge now) = now

-- what the contracts of the calls say: the value after, and the answer
abbrev pub step : Call → Kept → Kept
step (Take now x) k = kept_after_take now x k
step (Expire now) k = kept_after_expire now k
step (Merge now) k = kept_after_merged now k

abbrev pub answer_to : Call → Kept → Answer
answer_to (Take now x) k = Took (answer now x k.table)
answer_to (Expire now) k = Expired (rows_lost (max k.table.moment now) k.table.rows)
answer_to (Merge now) k = Slots (slots_of (after_expire now k.table).rows)

-- the value that a history leaves, from that of `new`
abbrev pub after_calls : List Call → Kept
after_calls [] = new_kept
after_calls (call ∷ earlier) = step call (after_calls earlier)

-- the moment in use after a history: the greatest that was handed in
abbrev pub moment_in_use : List Call → ℕ
moment_in_use [] = 0
moment_in_use (call ∷ earlier) = max (moment_in_use earlier) (moment_of call)

-- no call handed in a greater moment, and some call this one, or it is 0
pub record IsGreatestMoment (calls : List Call) (moment : ℕ) : Type 0 where
  pub greatest : All (λ call. moment_of call ≤ moment) calls
  pub handed_in : (moment ≡ 0) ⊎ Any (λ call. moment_of call ≡ moment) calls

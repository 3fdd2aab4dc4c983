-- Laws of a table that keeps slot priorities, over every list of calls, the latest first.
use Rattle.std.specs.Prelude.{◌≡◌, ℕ, Bool, false, List, [], ◌∷◌, map}
use Rattle.std.specs.List.{list_any}
use Rattle.sacn_packets.specs.Data.{Data}
use Rattle.sacn_sources.specs.Packets.{packet_of}
use Rattle.sacn_sources.specs.Rows.{answer, slots_of}
use Rattle.sacn_sources.specs.Calls as sources
use Rattle.sacn_slots.specs.SlotMerge.{merge_by_slot, priority_of_slot}
use Rattle.sacn_slots.specs.SlotLaws.{SameMembers}
use Rattle.sacn_slots.specs.SlotTables.{SlotSources, new_sources, after_expire, after_take, gives, members}

-- a call, with the moment that it hands in; a merge is an expiry
pub data Call : Type 0 where
  Take : ℕ → Data → Call
  Expire : ℕ → Call

abbrev pub step : Call → SlotSources → SlotSources
step (Take now d) s = after_take now d s
step (Expire now) s = after_expire now s

-- the value that calls leave, from that of `new`
abbrev pub after_calls : List Call → SlotSources
after_calls [] = new_sources
after_calls (call ∷ earlier) = step call (after_calls earlier)

-- the same call on a table of sources alone
abbrev pub of_sources : Call → sources.Call
of_sources (Take now d) = sources.Take now (packet_of d)
of_sources (Expire now) = sources.Expire now

abbrev pub is_given : Call → Bool
is_given (Take now d) = gives d
is_given (Expire now) = false

-- whatever is given for slots, sources, their numbers and their loss are those of a table of sources, and so is each answer
pub record KeepsTheSources : Type 0 where
  pub table : (calls : List Call) → (after_calls calls).sources.table ≡ (sources.after_calls (map of_sources calls)).table
  pub answers : (now : ℕ) (d : Data) (earlier : List Call) → answer now (packet_of d) (after_expire now (after_calls earlier)).sources.table
      ≡ answer now (packet_of d) (sources.after_calls (map of_sources earlier)).table

-- where no packet gave priorities for slots what is shown is what a table of sources shows
abbrev pub ShowsTheSources : Type 0
ShowsTheSources = (calls : List Call) → list_any is_given calls ≡ false
    → merge_by_slot (members (after_calls calls)) ≡ slots_of (sources.after_calls (map of_sources calls)).table.rows

-- tables that hold the same show the same, and follow the same priorities
pub record ShowsTheHoldings : Type 0 where
  pub levels : (s t : SlotSources) → SameMembers (members s) (members t) → merge_by_slot (members s) ≡ merge_by_slot (members t)
  pub priorities : (s t : SlotSources) → SameMembers (members s) (members t) → (slot : ℕ) → priority_of_slot (members s) slot ≡ priority_of_slot (members t) slot

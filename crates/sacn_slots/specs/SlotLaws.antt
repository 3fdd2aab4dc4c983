-- Laws of the merge by slot.
use Rattle.std.specs.Prelude.{◌≡◌, ℕ, ◌≤◌, ◌<◌, List, [], map, length, slice_index, Contains, Option, Some, None, ◌↔◌}
use Rattle.sacn_packets.specs.declared.universe.TheConstants.{SLOTS}
use Rattle.sacn_sources.specs.Merge.{Shown, top_priority, merge, IsMergedLevel}
use Rattle.sacn_slots.specs.SlotMerge.{Member, priority_at, taking_part, merge_by_slot, priority_of_slot}

-- both have the same sources, in whatever order and however often
abbrev pub SameMembers : List Member → List Member → Type 0
SameMembers xs ys = (m : Member) → Contains xs m ↔ Contains ys m

-- the merge by slot, and the priorities that it follows, are of the set of its sources
pub record MergesTheSetBySlot : Type 0 where
  pub levels : (xs ys : List Member) → SameMembers xs ys → merge_by_slot xs ≡ merge_by_slot ys
  pub priorities : (xs ys : List Member) → SameMembers xs ys → (slot : ℕ) → priority_of_slot xs slot ≡ priority_of_slot ys slot

-- a source that gives no priorities for slots
abbrev pub by_packet : Shown → Member
by_packet shown = record { shown = shown; slot_priorities = None }

-- where no source gives any the merge by slot is that of `sacn_sources`, and each slot follows the greatest priority of a packet
pub record MergesByPacket : Type 0 where
  pub levels : (members : List Shown) → merge_by_slot (map by_packet members) ≡ merge members
  pub priorities : (members : List Shown) (slot : ℕ) → priority_of_slot (map by_packet members) slot ≡ top_priority members

-- this is the priority at which a source takes part in a slot: the packet's, or the one given for the slot, from 1 to 200
abbrev pub IsPriorityAt : ℕ → ℕ → Option (List ℕ) → ℕ → Type 0
IsPriorityAt slot priority None p = p ≡ priority
IsPriorityAt slot priority (Some given) p = (slice_index given slot ≡ p) × (1 ≤ p) × (p ≤ 200)

-- a source takes part in a slot at the priority that the relation says, and at no other
abbrev pub PrioritiesByRelation : Type 0
PrioritiesByRelation = (slot priority : ℕ) (given : Option (List ℕ)) (p : ℕ) → (priority_at slot priority given ≡ Some p) ↔ IsPriorityAt slot priority given p

-- each slot of the merge has the level that the relation says of the sources that take part in it, and no other level is so
abbrev pub MergesBySlotByRelation : Type 0
MergesBySlotByRelation = (members : List Member) (slot merged : ℕ) → slot < SLOTS →
    (slice_index (merge_by_slot members) slot ≡ merged) ↔ IsMergedLevel (taking_part slot members) slot merged

-- the merge has each slot of a universe, and one in which no source takes part is at 0, as is its priority
pub record MergesNoneToZero : Type 0 where
  pub whole : (members : List Member) → length (merge_by_slot members) ≡ SLOTS
  pub level : (members : List Member) (slot : ℕ) → taking_part slot members ≡ [] → slice_index (merge_by_slot members) slot ≡ 0
  pub priority : (members : List Member) (slot : ℕ) → taking_part slot members ≡ [] → priority_of_slot members slot ≡ 0

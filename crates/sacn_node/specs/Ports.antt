-- The ports of a node, and what they show: of each universe the slots that their ranges name (E1.11, null start code; the
-- ranges are profile).
use Rattle.std.specs.Prelude.{ℕ, ◌+◌, ◌-◌, ◌≤◌, Bool, ◌&&◌, ◌==◌, nat_le, nat_lt, if◌then◌else◌, List, map, find, get_or, Option, Some, None}
use Rattle.std.specs.List.{range_with_len}
use Rattle.sacn_packets.specs.declared.universe.TheConstants.{SLOTS, FRAME_OCTETS}
use Rattle.sacn_node.specs.declared.setup.SlotRange.{SlotRange}
use Rattle.sacn_node.specs.Setup.{Port}

-- slots count from 1, and the range ends within its universe and its port
pub record IsShown (r : SlotRange) : Type 0 where
  pub slot : 1 ≤ r.slot
  pub port_slot : 1 ≤ r.port_slot
  pub within : r.slot + r.count ≤ SLOTS + 1
  pub fits : r.port_slot + r.count ≤ SLOTS + 1

abbrev pub port_of : ℕ → List Port → Option Port
port_of number ports = find (λ p. p.number == number) ports

-- ---- the frame of a port, where `slots` gives the merged slots of each universe

-- the port slot i is one of the range's
abbrev pub covers : ℕ → SlotRange → Bool
covers i r = nat_le r.port_slot i && nat_lt i (r.port_slot + r.count)

-- what the range gives at port slot i: slot `slot + i - port_slot` of its universe, where slots count from 1
unfoldable pub level_in : (ℕ → List ℕ) → ℕ → SlotRange → ℕ
level_in slots i r = get_or (slots r.universe) (r.slot - 1 + (i - r.port_slot)) 0

abbrev pub level_by : (ℕ → List ℕ) → ℕ → Option SlotRange → ℕ
level_by slots i None = 0
level_by slots i (Some r) = level_in slots i r

-- octet i of the frame: start code 0, then each port slot by the range that has it, and 0 where none has
abbrev pub octet_at : (ℕ → List ℕ) → List SlotRange → ℕ → ℕ
octet_at slots rs i = if i == 0 then 0 else level_by slots i (find (covers i) rs)

unfoldable pub port_frame : (ℕ → List ℕ) → List SlotRange → List ℕ
port_frame slots rs = map (octet_at slots rs) (range_with_len 0 FRAME_OCTETS)

abbrev pub frame_on : (ℕ → List ℕ) → Option Port → Option (List ℕ)
frame_on slots None = None
frame_on slots (Some p) = Some (port_frame slots p.ranges)

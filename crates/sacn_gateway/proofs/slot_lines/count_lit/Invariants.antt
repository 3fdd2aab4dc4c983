use Rattle.std.proofs.Common.{◌≡◌, ◌+◌, ◌<◌, drop, length}
use Rattle.sacn_gateway.specs.SlotLines.{lit_from, lit_slots}
use Rattle.sacn_gateway.proofs.slot_lines.count_lit.Given as goal

-- what was counted, and the slots that are left, are all; no more were counted than were looked at
abbrev pub invariant-loop-slot : goal.invariant-loop-slot
invariant-loop-slot l = (l.count + length (lit_from l.slot (drop l.slot l.frame)) ≡ length (lit_slots l.frame)) × (l.count < l.slot)

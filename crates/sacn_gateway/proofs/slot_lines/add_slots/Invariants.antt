use Rattle.std.proofs.Common.{◌≡◌, ◌+◌, ◌-◌, ◌≤◌, ◌++◌, drop, length}
use Rattle.sacn_gateway.specs.SlotLines.{kept_for, lit_from, lit_slots, slots_within}
use Rattle.sacn_gateway.proofs.slot_lines.add_slots.Given as goal

-- what is written, and then what finds room of the slots that are left, is all; there is room for the mark; so many are left
abbrev pub invariant-loop-slot : goal.invariant-loop-slot
invariant-loop-slot l =
    (l.line.items ++ slots_within (l.places - length l.line.items) (lit_from l.slot (drop l.slot l.frame)) ≡ l.fn.line.items ++ slots_within (l.places - length l.fn.line.items) (lit_slots l.frame))
    × (length l.line.items + kept_for (lit_from l.slot (drop l.slot l.frame)) ≤ l.places)
    × (l.left ≡ length (lit_from l.slot (drop l.slot l.frame)))

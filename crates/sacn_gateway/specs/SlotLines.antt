-- A port's frame as a line for people: how many of its slots are lit, and which, each with its level, as many as find room.
use Rattle.std.specs.Prelude.{ℕ, ◌+◌, ◌-◌, ◌==◌, nat_le, min, max, List, [], ◌∷◌, ◌++◌, length, drop, codes, decimal, if◌then◌else◌}
use Rattle.sacn_gateway.specs.declared.slot_lines.LitSlot.{LitSlot}
use Rattle.sacn_gateway.specs.declared.slot_lines.TheConstants.{LEAST_WIDTH, MOST_WIDTH}

-- the slots that aren't 0 among these levels, of which the first is that of the slot n
abbrev pub lit_from : ℕ → List ℕ → List LitSlot
lit_from n [] = []
lit_from n (l ∷ ls) = if l == 0 then lit_from (n + 1) ls else record { slot = n; level = l } ∷ lit_from (n + 1) ls

-- those of a frame, ascending; its start code is no slot
abbrev pub lit_slots : List ℕ → List LitSlot
lit_slots frame = lit_from 1 (drop 1 frame)

-- a slot and its level
unfoldable pub slot_word : LitSlot → List ℕ
slot_word s = codes " " ++ (decimal s.slot ++ (codes "@" ++ decimal s.level))

-- the places that are kept behind a slot, for the mark that others follow
abbrev pub kept_for : List LitSlot → ℕ
kept_for [] = 0
kept_for (s ∷ ss) = 3

-- as many of these slots as find room, and where that isn't all of them the mark
abbrev pub slots_within : ℕ → List LitSlot → List ℕ
slots_within room [] = []
slots_within room (s ∷ ss) =
    if nat_le (length (slot_word s) + kept_for ss) room then slot_word s ++ slots_within (room - length (slot_word s)) ss else codes " .."

-- a port, and how many of its slots are lit
unfoldable pub line_head : ℕ → ℕ → List ℕ
line_head port count = codes "port " ++ (decimal port ++ (codes "  " ++ (decimal count ++ codes " lit ")))

unfoldable pub dark_text : ℕ → List ℕ
dark_text port = codes "port " ++ (decimal port ++ codes "  dark")

-- the places of a line on a terminal of this width: no fewer than its head needs
abbrev pub line_places : ℕ → ℕ
line_places width = min (max width LEAST_WIDTH) MOST_WIDTH

-- of a port whose lit slots are these, in so many places
abbrev pub lit_text : ℕ → ℕ → List LitSlot → List ℕ
lit_text places port [] = dark_text port
lit_text places port (s ∷ ss) = line_head port (length (s ∷ ss)) ++ slots_within (places - length (line_head port (length (s ∷ ss)))) (s ∷ ss)

-- of a port that shows a frame, on a terminal of this width
abbrev pub slots_text : ℕ → ℕ → List ℕ → List ℕ
slots_text width port frame = lit_text (line_places width) port (lit_slots frame)

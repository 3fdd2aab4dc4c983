-- The line that a look prints.
use Rattle.std.specs.Prelude.{ℕ, ◌+◌, List, [], ◌∷◌, ◌++◌, codes, drop, ◌==◌, Option, Some, None, if◌then◌else◌}
use Rattle.std.specs.Fmt.{decimal}

-- a slot with its level after a space; a dark one says nothing
abbrev pub slot_words : ℕ → ℕ → List ℕ
slot_words slot level = if level == 0 then [] else codes " " ++ (decimal slot ++ (codes "@" ++ decimal level))

-- the slots from this number on, in their order
abbrev pub slots_words : ℕ → List ℕ → List ℕ
slots_words slot [] = []
slots_words slot (level ∷ levels) = slot_words slot level ++ slots_words (slot + 1) levels

abbrev pub or_dark : List ℕ → List ℕ
or_dark [] = codes " dark"
or_dark (octet ∷ words) = octet ∷ words

-- a frame's lit slots, counted from 1 behind the start code, or that it is dark
abbrev pub frame_words : List ℕ → List ℕ
frame_words frame = or_dark (slots_words 1 (drop 1 frame))

-- what a port shows, where the node has it
abbrev pub shown_words : Option (List ℕ) → List ℕ
shown_words None = codes " noport"
shown_words (Some frame) = frame_words frame

abbrev pub look_top : ℕ → ℕ → ℕ → List ℕ
look_top node port moment = decimal node ++ (codes " " ++ (decimal port ++ (codes " " ++ decimal moment)))

-- node, port, moment, and what is shown
abbrev pub look_line : ℕ → ℕ → ℕ → List ℕ → List ℕ
look_line node port moment words = look_top node port moment ++ words ++ codes "\n"

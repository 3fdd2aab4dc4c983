-- What a terminal is written for the rows of a page.
use Rattle.std.specs.Prelude.{ℕ, ◌+◌, ◌%◌, Bool, true, false, List, [], ◌∷◌, ◌++◌, codes, decimal, encode_utf8, nat_le, nat_lt, ◌&&◌, ◌||◌, ◌==◌, if◌then◌else◌}
use Rattle.sacn_watch.specs.declared.page.Cell.{Cell}
use Rattle.sacn_watch.specs.declared.page.Ink.{Ink}
use Rattle.sacn_watch.specs.declared.page.Ink.TheVariants.{Plain, Heading, Alarm, Source}
use Rattle.sacn_watch.specs.Pages.{Line}

-- an order to the terminal: ESC and `[` (ECMA-48's CSI), and what follows
abbrev pub order : List ℕ → List ℕ
order rest = 27 ∷ 91 ∷ rest

-- the order that each ink is
abbrev pub ink_code : Ink → List ℕ
ink_code Plain = order (codes "0m")
ink_code Heading = order (codes "0;1m")
ink_code Alarm = order (codes "0;1;31m")
ink_code (Source place) = order (codes "0;") ++ (decimal (31 + place % 6) ++ codes "m")

abbrev pub is_same : Ink → Ink → Bool
is_same Plain Plain = true
is_same Plain Heading = false
is_same Plain Alarm = false
is_same Plain (Source b) = false
is_same Heading Plain = false
is_same Heading Heading = true
is_same Heading Alarm = false
is_same Heading (Source b) = false
is_same Alarm Plain = false
is_same Alarm Heading = false
is_same Alarm Alarm = true
is_same Alarm (Source b) = false
is_same (Source a) Plain = false
is_same (Source a) Heading = false
is_same (Source a) Alarm = false
is_same (Source a) (Source b) = a == b

-- nothing where the ink stays
abbrev pub change_code : Ink → Ink → List ℕ
change_code before after = if is_same before after then [] else ink_code after

-- a letter in UTF-8; nothing of a number that is none
abbrev pub letter_of : ℕ → List ℕ
letter_of code = if nat_lt code 0xD800 || (nat_le 0xE000 code && nat_le code 0x10_FFFF) then encode_utf8 code else []

-- letters behind one of an ink, each in its own or all plain, and at the end plain again
abbrev pub inked : Bool → Ink → List Cell → List ℕ
inked colours before [] = change_code before Plain
inked colours before (cell ∷ cells) =
    let ink = if colours then cell.ink else Plain in
    change_code before ink ++ (letter_of cell.code ++ inked colours ink cells)

-- the place at the left of a row: its number and column 1
abbrev pub place_code : ℕ → List ℕ
place_code number = order (decimal number ++ codes ";1H")

-- a row at its place, and nothing right of it
abbrev pub placed_row : Bool → ℕ → Line → List ℕ
placed_row colours number row = place_code number ++ (inked colours Plain row.cells ++ order (codes "K"))

-- nothing on the lines from this one on
abbrev pub cleared_from : ℕ → ℕ → List ℕ
cleared_from height number = if nat_le number height then place_code number ++ order (codes "J") else []

-- rows from this number on, and below them nothing
abbrev pub placed_from : Bool → ℕ → ℕ → List Line → List ℕ
placed_from colours height number [] = cleared_from height number
placed_from colours height number (row ∷ rows) = placed_row colours number row ++ placed_from colours height (number + 1) rows

-- the rows of a page from the terminal's first line on
abbrev pub page_text : Bool → ℕ → List Line → List ℕ
page_text colours height rows = placed_from colours height 1 rows

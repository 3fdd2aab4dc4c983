-- What a row of a screen may hold.
use Rattle.std.specs.Prelude.{◌≡◌, ◌≤◌, ℕ, Bool, List, [], ◌∷◌, ◌++◌, length, map, take, chars, All, nat_le, nat_lt, ◌&&◌, ◌||◌, not, ◌==◌, if◌then◌else◌}
use Rattle.sacn_watch.specs.declared.page.Cell.{Cell}
use Rattle.sacn_watch.specs.declared.page.Ink.{Ink}
use Rattle.sacn_watch.specs.declared.page.Size.{Size}

-- a letter that takes one column and steers no terminal: ASCII from the space to the tilde, and the letters of Latin 1, A and B
abbrev pub is_shown : ℕ → Bool
is_shown code = (nat_le 32 code && nat_le code 126) || ((nat_le 161 code && nat_le code 591) && not (code == 173))

-- the letter, or a question mark (63) in the place of one that isn't shown
abbrev pub shown_as : ℕ → ℕ
shown_as code = if is_shown code then code else 63

-- a row with room for so many columns, and what stands there
pub record Line : Type 0 where
  pub width : ℕ
  pub cells : List Cell

-- a letter more, where there is room for it behind the others
abbrev pub with_cell : Cell → Line → Line
with_cell cell row = if nat_lt (length row.cells) row.width then record row { cells = row.cells ++ cell ∷ [] } else row

-- the letters of a text in one ink, each as it is shown
abbrev pub cells_of : Ink → List ℕ → List Cell
cells_of ink letters = map (λ (letter : ℕ). record { code = shown_as letter; ink = ink }) letters

-- a text behind what stands in a row, cut at the row's edge
abbrev pub with_text : Ink → List ℕ → Line → Line
with_text ink text row = record row { cells = take row.width (row.cells ++ cells_of ink (chars text)) }

-- a row of a text alone
abbrev pub row_of : ℕ → Ink → List ℕ → Line
row_of width ink text = record { width = width; cells = take width (cells_of ink (chars text)) }

-- a row more, where there is room for it below the others
abbrev pub with_row : ℕ → Line → List Line → List Line
with_row height row rows = if nat_lt (length rows) height then rows ++ row ∷ [] else rows

-- rows of a screen: no more than it has, and each as wide as it is
abbrev pub FitsOn : Size → List Line → Type 0
FitsOn size rows = (length rows ≤ size.height) × All (λ (row : Line). row.width ≡ size.width) rows

-- The letters of a text in a row.
use Rattle.std.proofs.Common.{◌≡◌, ◌≤◌, ℕ, List, [], ◌++◌, length, map, take, chars, sym, ap, ◌∙◌, append-nil}
use Rattle.std.proofs.lemmas.List.{map-id, take_all}
use Rattle.sacn_watch.specs.declared.page.Cell.{Cell}
use Rattle.sacn_watch.specs.declared.page.Ink.{Ink}
use Rattle.sacn_watch.specs.Pages.{Line, cells_of, with_text}

-- before the first letter
pub none_put : (row : Line) → length row.cells ≤ row.width → row ≡ record row { cells = take row.width (row.cells ++ []) }
none_put row few = ap (λ (cells : List Cell). record row { cells = cells }) (sym (ap (take row.width) (append-nil row.cells) ∙ take_all row.width row.cells few))

-- after the last
pub all_put : (row new : Line) (ink : Ink) (letters text : List ℕ) → new ≡ record row { cells = take row.width (row.cells ++ cells_of ink letters) } → map (λ (letter : ℕ). letter) letters ≡ chars text
    → new ≡ with_text ink text row
all_put row new ink letters text is same =
    is ∙ ap (λ (ls : List ℕ). record row { cells = take row.width (row.cells ++ cells_of ink ls) }) (sym (map-id letters) ∙ same)

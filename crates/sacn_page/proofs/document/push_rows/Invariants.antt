use Rattle.std.proofs.Common.{◌≡◌, ◌<◌, true, false, ◌++◌, length, drop, codes, string_bytes}
use Rattle.sacn_page.specs.Documents.{more_rows, row_list}
use Rattle.sacn_page.proofs.document.push_rows.Given as goal

-- where nothing was given: nothing is written yet, or what is written, and then the sources that are left, is all
abbrev pub invariant-loop-place : goal.invariant-loop-place
invariant-loop-place l = length l.fn.given.items ≡ 0 → (length l.given.items ≡ l.place)
    × (l.place ≡ 0 → (l.is_first ≡ true) × (string_bytes l.text ≡ string_bytes l.fn.text))
    × (0 < l.place → (l.is_first ≡ false) × (string_bytes l.text ++ more_rows l.moment l.place (drop l.place l.streams)
    ≡ string_bytes l.fn.text ++ (codes ",\"sources\":[" ++ row_list l.moment l.streams)))

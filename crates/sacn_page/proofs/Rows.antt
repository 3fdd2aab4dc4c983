-- The sources of a document that gives all.
use Rattle.std.proofs.Common.{◌≡◌, ℕ, suc, zero, ◌+◌, ◌<◌, ◌≤◌, Bool, true, false, List, [], ◌∷◌, ◌++◌, length, drop, get_or, codes, refl, sym, ◌∙◌, append_assoc, true≢false, arith}
use Rattle.std.proofs.lemmas.List.{drop_more}
use Rattle.sacn_monitor.specs.declared.stream.Stream.{Stream}
use Rattle.sacn_page.specs.Documents.{before_row, more_rows, row_list, row_object}

-- one more source is written
pub one_more_row : (moment place : ℕ) (streams : List Stream) (s : Stream) (is_first : Bool) (start old new : List ℕ) → place < length streams
    → (place ≡ 0 → (is_first ≡ true) × (old ≡ start))
    → (0 < place → (is_first ≡ false) × (old ++ more_rows moment place (drop place streams) ≡ start ++ (codes ",\"sources\":[" ++ row_list moment streams)))
    → new ≡ old ++ (before_row is_first ++ row_object moment place (get_or streams place s))
    → new ++ more_rows moment (place + 1) (drop (place + 1) streams) ≡ start ++ (codes ",\"sources\":[" ++ row_list moment streams)
one_more_row moment zero [] s is_first start old new within before after is = absurd (omega (arith, within))
one_more_row moment zero (x ∷ xs) s is_first start old new within before after is =
    let first = before refl in
    rw (is, first.0, first.1) (append_assoc start _ _)
one_more_row moment (suc place) streams s is_first start old new within before after is =
    let others = after (omega arith) in
    rw (is, others.0) (append_assoc old _ _ ∙ rw (drop_more streams (suc place) s within) at others.1)

-- nothing is written where there is none
pub no_row : (moment place : ℕ) (streams : List Stream) (is_first : Bool) (start old : List ℕ) (T : Type 0) → length streams ≤ place → is_first ≡ true
    → (place ≡ 0 → (is_first ≡ true) × (old ≡ start)) → (0 < place → (is_first ≡ false) × T) → (row_list moment streams ≡ []) × (old ≡ start)
no_row moment zero [] is_first start old T end first before after = (refl, (before refl).1)
no_row moment zero (x ∷ xs) is_first start old T end first before after = absurd (omega (arith, end))
no_row moment (suc place) streams is_first start old T end first before after = absurd (true≢false (sym first ∙ (after (omega arith)).0))

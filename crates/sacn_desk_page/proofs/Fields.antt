-- Tests and counts of fields over what is made of each header.
use Rattle.std.proofs.Common.{◌≡◌, ℕ, ◌+◌, Bool, cond, ◌&&◌, ◌==◌, List, [], ◌∷◌, map, count_by, refl, ap, sym, ◌∙◌}
use Rattle.std.proofs.lemmas.List.Folds.{fold-map}
use Rattle.std.specs.List.{list_all}
use Rattle.httparse.specs.declared.borrowed.Header.{Header}
use Rattle.httparse.specs.Borrowed.{header_parts}
use Rattle.sacn_desk_page.specs.Guards.{is_named, says, has_one}

all_mapped : {X Y : Type 0} (p : Y → Bool) (h : X → Y) (xs : List X) → list_all (λ x. p (h x)) xs ≡ list_all p (map h xs)
all_mapped p h [] = refl
all_mapped p h (x ∷ xs) = ap (λ b. p (h x) && b) (all_mapped p h xs)

count_mapped : {X Y : Type 0} (p : Y → Bool) (h : X → Y) (xs : List X) → count_by (λ x. p (h x)) xs ≡ count_by p (map h xs)
count_mapped p h xs = sym (fold-map (λ a y. a + cond (p y) 1 0) h 0 xs)

-- the test of one field, made of a count and a test of headers
pub one_is : (name : List ℕ) (passes : List ℕ → Bool) (hs : List Header) (count : ℕ) (all : Bool)
    → count ≡ count_by (λ f. is_named name (header_parts f)) hs → all ≡ list_all (λ f. says name passes (header_parts f)) hs
    → ((count == 1) && all) ≡ has_one name passes (map header_parts hs)
one_is name passes hs count all counted tested =
    ap (λ n. (n == 1) && all) (counted ∙ count_mapped (λ f. is_named name f) header_parts hs)
    ∙ ap (λ b. (count_by (λ f. is_named name f) (map header_parts hs) == 1) && b) (tested ∙ all_mapped (λ f. says name passes f) header_parts hs)

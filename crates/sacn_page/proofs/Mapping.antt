-- Tests and counts over what is made of each item.
use Rattle.std.proofs.Common.{◌≡◌, ℕ, ◌+◌, Bool, cond, ◌&&◌, ◌||◌, ◌==◌, List, [], ◌∷◌, map, count_by, refl, ap, sym, ◌∙◌}
use Rattle.std.proofs.lemmas.List.Folds.{fold-map}
use Rattle.std.specs.List.{list_all, list_any}
use Rattle.httparse.specs.declared.borrowed.Header.{Header}
use Rattle.httparse.specs.Borrowed.{header_parts}
use Rattle.sacn_page.specs.Requests.{is_word, is_among, is_host, says_own, is_own}

pub any_mapped : {X Y : Type 0} (p : Y → Bool) (h : X → Y) (xs : List X) → list_any (λ x. p (h x)) xs ≡ list_any p (map h xs)
any_mapped p h [] = refl
any_mapped p h (x ∷ xs) = ap (λ b. p (h x) || b) (any_mapped p h xs)

pub all_mapped : {X Y : Type 0} (p : Y → Bool) (h : X → Y) (xs : List X) → list_all (λ x. p (h x)) xs ≡ list_all p (map h xs)
all_mapped p h [] = refl
all_mapped p h (x ∷ xs) = ap (λ b. p (h x) && b) (all_mapped p h xs)

pub count_mapped : {X Y : Type 0} (p : Y → Bool) (h : X → Y) (xs : List X) → count_by (λ x. p (h x)) xs ≡ count_by p (map h xs)
count_mapped p h xs = sym (fold-map (λ a y. a + cond (p y) 1 0) h 0 xs)

-- a text is among names that are made of each item
pub among_is : {X : Type 0} (h : X → List ℕ) (own : List X) (names : List (List ℕ)) (name : List ℕ) (result : Bool)
    → names ≡ map h own → result ≡ list_any (λ o. is_word (h o) name) own → result ≡ is_among names name
among_is h own names name result made found =
    found ∙ any_mapped (λ n. is_word n name) h own ∙ ap (λ ns. is_among ns name) (sym made)

-- the test of fields, made of a count and a test of headers
pub own_is : (names : List (List ℕ)) (hs : List Header) (count : ℕ) (all : Bool)
    → count ≡ count_by (λ f. is_host (header_parts f)) hs → all ≡ list_all (λ f. says_own names (header_parts f)) hs
    → ((count == 1) && all) ≡ is_own names (map header_parts hs)
own_is names hs count all counted tested =
    ap (λ n. (n == 1) && all) (counted ∙ count_mapped is_host header_parts hs)
    ∙ ap (λ b. (count_by is_host (map header_parts hs) == 1) && b) (tested ∙ all_mapped (says_own names) header_parts hs)

-- The rows of a table, one after another.
use Rattle.std.proofs.Common.{◌≡◌, ℕ, zero, suc, ◌+◌, ◌<◌, ◌==◌, Bool, true, false, cond, not, ◌||◌, List, [], ◌∷◌, ◌++◌, filter, get_or, length, map, take, refl, subst, sym, ap, ◌∙◌, append_assoc, append-nil}
use Rattle.std.proofs.lemmas.List.Elements.{filter-append}
use Rattle.std.specs.List.{flat_map, list_any}
use Rattle.std.proofs.lemmas.List.{take_more}
use Rattle.std.proofs.lemmas.Grind.{flat_map-append}
use Rattle.sacn_tell.specs.Tables.{each_once}

-- a number that isn't there yet stands at the end
kept : (e b : Bool) (u : ℕ) (p : ℕ → Bool) → p u ≡ not e → filter p (cond b [] (u ∷ [])) ≡ cond (e || b) [] (u ∷ [])
kept true true u p is = refl
kept false true u p is = refl
kept true false u p is = ap (λ (t : Bool). cond t (u ∷ []) []) is
kept false false u p is = ap (λ (t : Bool). cond t (u ∷ []) []) is

each_once_more : (us : List ℕ) (u : ℕ) → each_once (us ++ u ∷ []) ≡ each_once us ++ cond (list_any (λ v. v == u) us) [] (u ∷ [])
each_once_more [] u = refl
each_once_more (x ∷ us) u =
    ap (λ (l : List ℕ). x ∷ filter (λ v. not (x == v)) l) (each_once_more us u)
    ∙ ap (λ (l : List ℕ). x ∷ l) (filter-append (λ v. not (x == v)) (each_once us) (cond (list_any (λ v. v == u) us) [] (u ∷ [])))
    ∙ ap (λ (l : List ℕ). x ∷ (filter (λ v. not (x == v)) (each_once us) ++ l)) (kept (x == u) (list_any (λ v. v == u) us) u (λ v. not (x == v)) refl)

one_or_none : (f : ℕ → List ℕ) (b : Bool) (u : ℕ) → cond b [] (f u) ≡ flat_map f (cond b [] (u ∷ []))
one_or_none f true u = refl
one_or_none f false u = sym (append-nil (f u))

any_map : {X : Type 0} (p : ℕ → Bool) (h : X → ℕ) (xs : List X) → list_any (λ x. p (h x)) xs ≡ list_any p (map h xs)
any_map p h [] = refl
any_map p h (x ∷ xs) = ap (λ (b : Bool). p (h x) || b) (any_map p h xs)

map_take : {X : Type 0} (h : X → ℕ) (i : ℕ) (xs : List X) → map h (take i xs) ≡ take i (map h xs)
map_take h zero xs = refl
map_take h (suc i) [] = refl
map_take h (suc i) (x ∷ xs) = ap (λ (l : List ℕ). h x ∷ l) (map_take h i xs)

length_map : {X : Type 0} (h : X → ℕ) (xs : List X) → length (map h xs) ≡ length xs
length_map h [] = refl
length_map h (x ∷ xs) = ap (λ (n : ℕ). suc n) (length_map h xs)

number_more : {X : Type 0} (h : X → ℕ) (xs : List X) (i : ℕ) → i < length xs → map h (take (i + 1) xs) ≡ map h (take i xs) ++ get_or (map h xs) i 0 ∷ []
number_more h xs i below =
    map_take h (i + 1) xs
    ∙ take_more (map h xs) i 0 (subst (λ (n : ℕ). i < n) (sym (length_map h xs)) below)
    ∙ ap (λ (l : List ℕ). l ++ get_or (map h xs) i 0 ∷ []) (sym (map_take h i xs))

-- the text of one more, where it is the first with its number
pub one_more_number : {X : Type 0} (f : ℕ → List ℕ) (h : X → ℕ) (head : List ℕ) (xs : List X) (i : ℕ) → i < length xs
    → (head ++ flat_map f (each_once (map h (take i xs)))) ++ cond (list_any (λ x. h x == get_or (map h xs) i 0) (take i xs)) [] (f (get_or (map h xs) i 0))
    ≡ head ++ flat_map f (each_once (map h (take (i + 1) xs)))
one_more_number {X = X} f h head xs i below =
    let n = get_or (map h xs) i 0 in
    let before = map h (take i xs) in
    append_assoc head (flat_map f (each_once before)) (cond (list_any (λ x. h x == n) (take i xs)) [] (f n))
    ∙ ap (λ (b : Bool). head ++ (flat_map f (each_once before) ++ cond b [] (f n))) (any_map (λ m. m == n) h (take i xs))
    ∙ ap (λ (t : List ℕ). head ++ (flat_map f (each_once before) ++ t)) (one_or_none f (list_any (λ m. m == n) before) n)
    ∙ ap (λ (t : List ℕ). head ++ t) (sym (flat_map-append f (each_once before) (cond (list_any (λ m. m == n) before) [] (n ∷ []))))
    ∙ ap (λ (l : List ℕ). head ++ flat_map f l) (sym (each_once_more before n))
    ∙ ap (λ (l : List ℕ). head ++ flat_map f (each_once l)) (sym (number_more h xs i below))

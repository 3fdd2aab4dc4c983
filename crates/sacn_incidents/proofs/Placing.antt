-- A deed is put at the place of the first incident that takes it, or behind all.
use Rattle.std.proofs.Common.{◌≡◌, ◌+◌, ◌<◌, ◌≤◌, ℕ, zero, not, ltb, nat_lt, drop, ◌&&◌, ◌||◌, None, Some, suc, Bool, true, false, cond, List, [], ◌∷◌, ◌++◌, length, get_or, set, refl, sym, ap, ◌∙◌, inl, inr, arith}
use Rattle.std.specs.List.{list_any, position, position_or_len}
use Rattle.std.proofs.lemmas.Bool.{cases_Bool, lt-ltb, ltb-true, or_parts, true≢false}
use Rattle.std.specs.Option.{is_some}
use Rattle.std.proofs.lemmas.Bool.Decides.{nat_tests}
use Rattle.sacn_incidents.specs.declared.deed.Deed.{Deed}
use Rattle.sacn_incidents.specs.declared.incident.Incident.{Incident}
use Rattle.sacn_incidents.specs.declared.limits.TheConstants.{MAX_OPEN}
use Rattle.sacn_incidents.specs.Gathering.{begun, joined, lacks_room, left_for, takes, with_deed}

taken : (d : Deed) (i : Incident) (is : List Incident) → takes d i ≡ true → with_deed d (i ∷ is) ≡ joined d i ∷ is
taken d i is t = ap (λ (b : Bool). cond b (joined d i ∷ is) (i ∷ with_deed d is)) t

passed_by : (d : Deed) (i : Incident) (is : List Incident) → takes d i ≡ false → with_deed d (i ∷ is) ≡ i ∷ with_deed d is
passed_by d i is t = ap (λ (b : Bool). cond b (joined d i ∷ is) (i ∷ with_deed d is)) t

pub at_place : (d : Deed) (is : List Incident) (place : ℕ) (e : Incident) → place < length is → takes d (get_or is place e) ≡ true
    → ((k : ℕ) → k < place → takes d (get_or is k e) ≡ false) → with_deed d is ≡ set is place (joined d (get_or is place e))
at_place d [] place e within t before = absurd (omega (arith, within))
at_place d (i ∷ is) zero e within t before = taken d i is t
at_place d (i ∷ is) (suc place) e within t before =
    passed_by d i is (before 0 (omega arith))
    ∙ ap (λ (more : List Incident). i ∷ more) (at_place d is place e (omega (arith, within)) t (λ k below. before (suc k) (omega (arith, below))))

pub behind_all : (d : Deed) (is : List Incident) → list_any (takes d) is ≡ false → with_deed d is ≡ is ++ begun d ∷ []
behind_all d [] none = refl
behind_all d (i ∷ is) none =
    let parts = or_parts (takes d i) (list_any (takes d) is) none in
    passed_by d i is parts.0 ∙ ap (λ (more : List Incident). i ∷ more) (behind_all d is parts.1)

-- a deed that no incident takes has room where it doesn't lack it
room_by : (any : Bool) (n : ℕ) → (not any && not (ltb n MAX_OPEN)) ≡ false → any ≡ false → n < MAX_OPEN
room_by true n has none = absurd cc
room_by false n has none = elim (cases_Bool (ltb n MAX_OPEN)) [
  | inl low ↦ ltb-true n MAX_OPEN low
  | inr high ↦ absurd (true≢false (sym (ap not high) ∙ has))
]

pub room_at : (d : Deed) (is : List Incident) → lacks_room d is ≡ false → list_any (takes d) is ≡ false → length is < MAX_OPEN
room_at d is has none = room_by (list_any (takes d) is) (length is) has none

-- without the oldest there is room
has_room : (any : Bool) (n : ℕ) → n < MAX_OPEN → (not any && not (ltb n MAX_OPEN)) ≡ false
has_room true n low = refl
has_room false n low = ap not (lt-ltb n MAX_OPEN low)

room_left_by : (d : Deed) (is : List Incident) → length is ≤ MAX_OPEN → (b : Bool) → lacks_room d is ≡ b → lacks_room d (cond b (drop 1 is) is) ≡ false
room_left_by d [] short true lacks = has_room false 0 (omega arith)
room_left_by d (i ∷ is) short true lacks = has_room (list_any (takes d) is) (length is) (omega (arith, short))
room_left_by d is short false lacks = lacks

pub room_left : (d : Deed) (is : List Incident) → length is ≤ MAX_OPEN → lacks_room d (left_for d is) ≡ false
room_left d is short = room_left_by d is short (lacks_room d is) refl

-- ---- the first place that passes a test

some_within : (n m : ℕ) → is_some (cond (nat_lt n m) (Some n) None) ≡ nat_lt n m
some_within n m = elim (nat_lt n m) as (λ t. is_some (cond t (Some n) None) ≡ t) [ true ↦ refl | false ↦ refl ]

next_test : (n m : ℕ) → nat_lt n m ≡ nat_lt (1 + n) (suc m)
next_test n m = grind (arith, nat_tests)

first_test : (m : ℕ) → true ≡ nat_lt 0 (suc m)
first_test m = grind (arith, nat_tests)

any_within : {X : Type 0} → (p : X → Bool) (xs : List X) → nat_lt (position_or_len p xs) (length xs) ≡ list_any p xs
any_within p [] = refl
any_within p (x ∷ xs) = elim (p x) as (λ b. nat_lt (cond (not b) (1 + position_or_len p xs) 0) (length (x ∷ xs)) ≡ (b || list_any p xs)) [
  | true ↦ sym (first_test (length xs))
  | false ↦ sym (next_test (position_or_len p xs) (length xs)) ∙ any_within p xs
]

-- where there is none, none passes
pub none_passes : {X : Type 0} → (p : X → Bool) (xs : List X) → position p xs ≡ None → list_any p xs ≡ false
none_passes p xs none = sym (some_within (position_or_len p xs) (length xs) ∙ any_within p xs) ∙ ap is_some none

-- The greatest of a list, and the merge that is made of it.
use Rattle.std.proofs.Common.{◌≡◌, ℕ, suc, ◌≤◌, ◌<◌, ◌⊎◌, ◌==◌, max, Bool, true, false, List, [], ◌∷◌, map, filter, fold, length, get_or, cond, All, Any, refl, sym, ap, subst, ◌∙◌, arith, inl, inr, eq-eqb}
use Rattle.std.specs.List.{range_with_len}
use Rattle.std.proofs.lemmas.List.{get_or_past}
use Rattle.std.proofs.lemmas.List.FromFn.{fill_by_all, get_or-map-range_with_len, length-map-range_with_len}
use Rattle.std.proofs.lemmas.List.Elements.{All-nil, All-cons, All-head, All-tail, All-contains, Contains-get_or}
use Rattle.std.proofs.lemmas.Bool.{cases_lt, eqb-true}
use Rattle.sacn_sources.specs.Merge.{Shown, level, top_priority, merged_level, merge, IsFollowed, IsMergedLevel, SameMembers, MergesTheSet, MergesByRelation, MergesNothingToZeros, MergesOneToItself}

module _ {X : Type 0} (P : X → Type 0) where
  any_here : (x : X) (xs : List X) → P x → Any P (x ∷ xs)
  any_here x xs p = (0, x, omega arith, refl, p)

  any_later : (x : X) (xs : List X) → Any P xs → Any P (x ∷ xs)
  any_later x xs (k, y, within, at, p) = (suc k, y, omega arith, at, p)

module _ {X : Type 0} (h : X → ℕ) where
  -- the greatest of a and what h gives at each member
  abbrev pub greatest : ℕ → List X → ℕ
  greatest a xs = fold (λ high x. max high (h x)) a xs

  pub greatest_above : (a : ℕ) (xs : List X) → a ≤ greatest a xs
  greatest_above a [] = omega arith
  greatest_above a (x ∷ xs) = omega (arith, greatest_above (max a (h x)) xs)

  module _ (p : X → Bool) where
    -- it is no less than what h gives at a member that passes
    pub greatest_bounds : (a : ℕ) (xs : List X) → All (λ x. p x ≡ true → h x ≤ greatest a (filter p xs)) xs
    greatest_bounds a [] = All-nil (λ x. p x ≡ true → h x ≤ a)
    greatest_bounds a (x ∷ xs) =
        elim (p x) as (λ b. p x ≡ b → All (λ y. p y ≡ true → h y ≤ greatest a (cond b (x ∷ filter p xs) (filter p xs))) (x ∷ xs)) [
          | true ↦ λ is. All-cons (λ y. p y ≡ true → h y ≤ greatest (max a (h x)) (filter p xs)) x xs (λ _. omega (arith, greatest_above (max a (h x)) (filter p xs))) (greatest_bounds (max a (h x)) xs)
          | false ↦ λ is. All-cons (λ y. p y ≡ true → h y ≤ greatest a (filter p xs)) x xs (λ passes. cc) (greatest_bounds a xs)
        ] refl

    -- and it is a, or h gives it at a member that passes
    pub greatest_reached : (a : ℕ) (xs : List X) → (greatest a (filter p xs) ≡ a) ⊎ Any (λ x. (p x ≡ true) × (h x ≡ greatest a (filter p xs))) xs
    greatest_reached a [] = inl refl
    greatest_reached a (x ∷ xs) =
        let Reached : List X → Type 0 = λ ys. (greatest a ys ≡ a) ⊎ Any (λ y. (p y ≡ true) × (h y ≡ greatest a ys)) (x ∷ xs) in
        elim (p x) as (λ b. p x ≡ b → Reached (cond b (x ∷ filter p xs) (filter p xs))) [
          | true ↦ λ is. let high = greatest (max a (h x)) (filter p xs) in elim (greatest_reached (max a (h x)) xs) [
            | inl e ↦ elim (cases_lt a (h x)) [
              | inl above ↦ inr (any_here (λ y. (p y ≡ true) × (h y ≡ high)) x xs (is, omega arith))
              | inr not_above ↦ inl (omega arith)
            ]
            | inr reached ↦ inr (any_later (λ y. (p y ≡ true) × (h y ≡ high)) x xs reached)
          ]
          | false ↦ λ is. elim (greatest_reached a xs) [
            | inl e ↦ inl e
            | inr reached ↦ inr (any_later (λ y. (p y ≡ true) × (h y ≡ greatest a (filter p xs))) x xs reached)
          ]
        ] refl

  -- it is no more than any bound of all that it is made of
  pub greatest_least : (a b : ℕ) (xs : List X) → a ≤ b → All (λ x. h x ≤ b) xs → greatest a xs ≤ b
  greatest_least a b [] le all = le
  greatest_least a b (x ∷ xs) le all =
      let first : h x ≤ b = All-head (λ y. h y ≤ b) x xs all in
      greatest_least (max a (h x)) b xs (omega arith) (All-tail (λ y. h y ≤ b) x xs all)

  pub greatest_bounds_all : (a : ℕ) (xs : List X) → All (λ x. h x ≤ greatest a xs) xs
  greatest_bounds_all a [] = All-nil (λ x. h x ≤ a)
  greatest_bounds_all a (x ∷ xs) = All-cons (λ y. h y ≤ greatest (max a (h x)) xs) x xs (omega (arith, greatest_above (max a (h x)) xs)) (greatest_bounds_all (max a (h x)) xs)

module _ (members : List Shown) where
  -- the members of the top priority are those that are followed
  followed_top : (m : Shown) → IsFollowed members m → m.priority ≤ top_priority members → (m.priority == top_priority members) ≡ true
  followed_top m followed le =
      let least : top_priority members ≤ m.priority = greatest_least (λ m. m.priority) 0 m.priority members (omega arith) followed in
      let same : m.priority ≡ top_priority members = omega arith in
      eq-eqb m.priority (top_priority members) same

  top_followed : (m : Shown) → (m.priority == top_priority members) ≡ true → IsFollowed members m
  top_followed m top k d within =
      let same : m.priority ≡ top_priority members = eqb-true m.priority (top_priority members) top in
      omega (arith, greatest_bounds_all (λ m. m.priority) 0 members k d within)

-- the merged level is the one of the relation
pub merged_level_is : (members : List Shown) (slot : ℕ) → IsMergedLevel members slot (merged_level members slot)
merged_level_is members slot =
    let top : Shown → Bool = λ m. m.priority == top_priority members in
    record {
      highest = λ k d within followed. greatest_bounds (level slot) top 0 members k d within (followed_top members (get_or members k d) followed (greatest_bounds_all (λ m. m.priority) 0 members k d within));
      shown = elim (greatest_reached (level slot) top 0 members) [
        | inl none ↦ inl none
        | inr (k, m, within, at, reached) ↦ inr (k, m, within, at, (top_followed members m reached.0, reached.1))
      ];
    }

-- only one level is
pub merged_level_one : (members : List Shown) (slot a b : ℕ) → IsMergedLevel members slot a → IsMergedLevel members slot b → a ≡ b
merged_level_one members slot a b p q = omega (arith, no_higher a b p q, no_higher b a q p)
  where
    no_higher : (a b : ℕ) → IsMergedLevel members slot a → IsMergedLevel members slot b → a ≤ b
    no_higher a b p q = elim p.shown [
      | inl zero ↦ omega arith
      | inr (k, m, within, at, reached) ↦
          let bound : level slot m ≤ b = subst (λ x. IsFollowed members x → level slot x ≤ b) at (q.highest k m within) reached.0 in
          omega (arith, reached.1)
    ]

pub merge_is : (members : List Shown) (slots : List ℕ) → length slots ≡ 512 → ((k : ℕ) → k < 512 → get_or slots k 0 ≡ merged_level members k) → slots ≡ merge members
unfolding merge
merge_is members slots whole each = fill_by_all (merged_level members) slots 512 0 whole each

-- slots that are all at the merged level are so by the relation too
pub merged_levels_are : (members : List Shown) (slots : List ℕ) → length slots ≡ 512 → ((k : ℕ) → k < 512 → get_or slots k 0 ≡ merged_level members k) → (k : ℕ) → k < length slots → IsMergedLevel members k (get_or slots k 0)
merged_levels_are members slots whole each k within = subst (IsMergedLevel members k) (sym (each k (omega (arith, whole, within)))) (merged_level_is members k)

pub get_or-merge : (members : List Shown) (slot : ℕ) → slot < 512 → get_or (merge members) slot 0 ≡ merged_level members slot
unfolding merge
get_or-merge members slot lt = get_or-map-range_with_len (merged_level members) 0 512 slot slot 0 lt (omega arith)

-- what is followed in a set is followed in the same set
followed_along : (xs ys : List Shown) → SameMembers xs ys → (m : Shown) → IsFollowed xs m → IsFollowed ys m
followed_along xs ys same m followed k d within = All-contains (λ other. other.priority ≤ m.priority) xs (get_or ys k d) followed ((same (get_or ys k d)).1 (Contains-get_or ys k d within))

level_along : (xs ys : List Shown) → SameMembers xs ys → (slot merged : ℕ) → IsMergedLevel xs slot merged → IsMergedLevel ys slot merged
level_along xs ys same slot merged is = record {
  highest = λ k d within followed. All-contains (λ m. IsFollowed xs m → level slot m ≤ merged) xs (get_or ys k d) is.highest ((same (get_or ys k d)).1 (Contains-get_or ys k d within)) (followed_along ys xs (λ m. ((same m).1, (same m).0)) (get_or ys k d) followed);
  shown = elim is.shown [
    | inl none ↦ inl none
    | inr (k, m, within, at, reached) ↦
        let there = (same m).0 (k, within, at) in
        inr (there.0, m, there.1, there.2, (followed_along xs ys same m reached.0, reached.1))
  ];
}

pub merges_the_set : MergesTheSet
unfolding merge
merges_the_set xs ys same = ap (λ f. map f (range_with_len 0 512)) (λ i k. merged_level_one ys k (merged_level xs k) (merged_level ys k) (level_along xs ys same k (merged_level xs k) (merged_level_is xs k)) (merged_level_is ys k) i)

pub merges_by_relation : MergesByRelation
merges_by_relation members slot merged lt = (
  λ is. subst (IsMergedLevel members slot) (sym (get_or-merge members slot lt) ∙ is) (merged_level_is members slot),
  λ is. get_or-merge members slot lt ∙ merged_level_one members slot (merged_level members slot) merged (merged_level_is members slot) is,
)

length-merge : (members : List Shown) → length (merge members) ≡ 512
unfolding merge
length-merge members = length-map-range_with_len (merged_level members) 0 512

pub merges_nothing_to_zeros : MergesNothingToZeros
merges_nothing_to_zeros = record {
  whole = length-merge;
  zeros = λ slot. elim (cases_lt slot 512) [
    | inl lt ↦ get_or-merge [] slot lt
    | inr past ↦ get_or_past (merge []) slot 0 (omega (arith, length-merge []))
  ];
}

pub merges_one_to_itself : MergesOneToItself
merges_one_to_itself shown slot lt =
    let top : (shown.priority == max 0 shown.priority) ≡ true = eq-eqb shown.priority (max 0 shown.priority) (omega arith) in
    let same : max 0 (level slot shown) ≡ level slot shown = omega arith in
    get_or-merge (shown ∷ []) slot lt ∙ ap (λ b. fold (λ high m. max high (level slot m)) 0 (cond b (shown ∷ []) [])) top ∙ same

-- The merge by slot, by that of the sources that take part in each slot.
use Rattle.std.proofs.Common.{◌≡◌, ℕ, zero, suc, ◌<◌, ◌≤◌, ◌↔◌, ◌||◌, ◌==◌, nat_lt, max, cond, List, [], ◌∷◌, map, filter_map, fold, length, get_or, All, Contains, Option, Some, None, refl, sym, ap, subst, ◌∙◌, arith, inl, inr}
use Rattle.std.specs.List.{range_with_len, cons_option}
use Rattle.std.proofs.lemmas.Bool.{cases_lt}
use Rattle.std.proofs.lemmas.Bool.Decides.{nat_tests}
use Rattle.std.proofs.lemmas.List.{get_or_past}
use Rattle.std.proofs.lemmas.List.FromFn.{fill_by_all, get_or-map-range_with_len, length-map-range_with_len}
use Rattle.std.proofs.lemmas.List.Elements.{All-nil, All-cons, All-head, All-tail, All-contains, Contains-get_or}
use Rattle.sacn_sources.specs.Merge.{Shown, level, top_priority, merged_level, merge, IsMergedLevel, MergesTheSet, MergesByRelation}
use Rattle.sacn_sources.specs.Merge as sources
use Rattle.sacn_slots.specs.SlotMerge.{Member, shown_at, taking_part, merge_by_slot}
use Rattle.sacn_slots.specs.SlotLaws.{SameMembers, MergesTheSetBySlot, by_packet, MergesByPacket, PrioritiesByRelation, MergesBySlotByRelation, MergesNoneToZero}

-- ---- each slot is that of a merge

get_or-merge : (members : List Shown) (slot : ℕ) → slot < 512 → get_or (merge members) slot 0 ≡ merged_level members slot
unfolding merge
get_or-merge members slot lt = get_or-map-range_with_len (merged_level members) 0 512 slot slot 0 lt (omega arith)

get_or-merge_by_slot : (members : List Member) (slot : ℕ) → slot < 512 → get_or (merge_by_slot members) slot 0 ≡ merged_level (taking_part slot members) slot
unfolding merge_by_slot
get_or-merge_by_slot members slot lt = get_or-map-range_with_len (λ k. merged_level (taking_part k members) k) 0 512 slot slot 0 lt (omega arith)

length-merge_by_slot : (members : List Member) → length (merge_by_slot members) ≡ 512
unfolding merge_by_slot
length-merge_by_slot members = length-map-range_with_len (λ k. merged_level (taking_part k members) k) 0 512

pub merge_by_slot_is : (members : List Member) (slots : List ℕ) → length slots ≡ 512 → ((k : ℕ) → k < 512 → get_or slots k 0 ≡ merged_level (taking_part k members) k) → slots ≡ merge_by_slot members
unfolding merge_by_slot
merge_by_slot_is members slots whole each = fill_by_all (λ k. merged_level (taking_part k members) k) slots 512 0 whole each

-- ---- who takes part

module _ {X Y : Type 0} (h : X → Option Y) where
  in_filter_map : (xs : List X) (x : X) (y : Y) → Contains xs x → h x ≡ Some y → Contains (filter_map h xs) y
  in_filter_map [] x y (k, within, at) is = absurd (omega arith)
  in_filter_map (z ∷ xs) x y (zero, within, at) is = subst (λ o. Contains (cons_option o (filter_map h xs)) y) (sym (ap h at ∙ is)) (0, omega arith, refl)
  in_filter_map (z ∷ xs) x y (suc k, within, at) is = later (h z) (in_filter_map xs x y (k, omega arith, at) is)
    where
      later : (o : Option Y) → Contains (filter_map h xs) y → Contains (cons_option o (filter_map h xs)) y
      later None there = there
      later (Some w) (j, before, there) = (suc j, omega arith, there)

  from_filter_map : (xs : List X) (y : Y) → Contains (filter_map h xs) y → (x : X) × Contains xs x × (h x ≡ Some y)
  from_filter_map [] y (k, within, at) = absurd (omega arith)
  from_filter_map (z ∷ xs) y there = by (λ l. from_filter_map xs y l) (h z) refl there
    where
      later : (x : X) × Contains xs x × (h x ≡ Some y) → (x : X) × Contains (z ∷ xs) x × (h x ≡ Some y)
      later (x, (k, within, at), is) = (x, (suc k, omega arith, at), is)

      by : (Contains (filter_map h xs) y → (x : X) × Contains xs x × (h x ≡ Some y)) → (o : Option Y) → h z ≡ o → Contains (cons_option o (filter_map h xs)) y → (x : X) × Contains (z ∷ xs) x × (h x ≡ Some y)
      by rest None is there = later (rest there)
      by rest (Some w) is (zero, within, at) = (z, (0, omega arith, refl), is ∙ ap Some at)
      by rest (Some w) is (suc k, within, at) = later (rest (k, omega arith, at))

part_along : (xs ys : List Member) → SameMembers xs ys → (slot : ℕ) (shown : Shown) → Contains (taking_part slot xs) shown → Contains (taking_part slot ys) shown
part_along xs ys same slot shown there =
    let from = from_filter_map (shown_at slot) xs shown there in
    in_filter_map (shown_at slot) ys from.0 shown ((same from.0).0 from.1) from.2

same_parts : (xs ys : List Member) → SameMembers xs ys → (slot : ℕ) → sources.SameMembers (taking_part slot xs) (taking_part slot ys)
same_parts xs ys same slot shown = (part_along xs ys same slot shown, part_along ys xs (λ m. ((same m).1, (same m).0)) slot shown)

-- ---- the set

module _ (merges : MergesTheSet) (xs ys : List Member) (same : SameMembers xs ys) where
  same_level : (k : ℕ) → k < 512 → get_or (merge_by_slot xs) k 0 ≡ merged_level (taking_part k ys) k
  same_level k lt =
      get_or-merge_by_slot xs k lt
      ∙ sym (get_or-merge (taking_part k xs) k lt)
      ∙ ap (λ l. get_or l k 0) (merges (taking_part k xs) (taking_part k ys) (same_parts xs ys same k))
      ∙ get_or-merge (taking_part k ys) k lt

  same_merge : merge_by_slot xs ≡ merge_by_slot ys
  same_merge = merge_by_slot_is ys (merge_by_slot xs) (length-merge_by_slot xs) same_level

abbrev top_from : ℕ → List Shown → ℕ
top_from a members = fold (λ top m. max top m.priority) a members

pub top_above : (a : ℕ) (members : List Shown) → a ≤ top_from a members
top_above a [] = omega arith
top_above a (m ∷ members) = omega (arith, top_above (max a m.priority) members)

top_bounds : (a : ℕ) (members : List Shown) → All (λ m. m.priority ≤ top_from a members) members
top_bounds a [] = All-nil (λ m. m.priority ≤ a)
top_bounds a (m ∷ members) = All-cons (λ m'. m'.priority ≤ top_from (max a m.priority) members) m members (omega (arith, top_above (max a m.priority) members)) (top_bounds (max a m.priority) members)

top_least : (a b : ℕ) (members : List Shown) → a ≤ b → All (λ m. m.priority ≤ b) members → top_from a members ≤ b
top_least a b [] le all = le
top_least a b (m ∷ members) le all =
    let first : m.priority ≤ b = All-head (λ m'. m'.priority ≤ b) m members all in
    top_least (max a m.priority) b members (omega arith) (All-tail (λ m'. m'.priority ≤ b) m members all)

no_higher : (xs ys : List Shown) → sources.SameMembers xs ys → top_priority xs ≤ top_priority ys
no_higher xs ys same = top_least 0 (top_priority ys) xs (omega arith) (λ k d within. All-contains (λ m. m.priority ≤ top_priority ys) ys (get_or xs k d) (top_bounds 0 ys) ((same (get_or xs k d)).0 (Contains-get_or xs k d within)))

same_top : (xs ys : List Shown) → sources.SameMembers xs ys → top_priority xs ≡ top_priority ys
same_top xs ys same = omega (arith, no_higher xs ys same, no_higher ys xs (λ m. ((same m).1, (same m).0)))

pub merges_the_set_by_slot : MergesTheSet → MergesTheSetBySlot
merges_the_set_by_slot merges = record {
  levels = same_merge merges;
  priorities = λ xs ys same slot. same_top (taking_part slot xs) (taking_part slot ys) (same_parts xs ys same slot);
}

-- ---- no priorities for slots

all_take_part : (slot : ℕ) (members : List Shown) → taking_part slot (map by_packet members) ≡ members
all_take_part slot [] = refl
all_take_part slot (m ∷ members) = ap (λ l. m ∷ l) (all_take_part slot members)

pub merges_by_packet : MergesByPacket
unfolding merge merge_by_slot
merges_by_packet = record {
  levels = λ members. ap (λ f. map f (range_with_len 0 512)) (λ i k. merged_level (all_take_part k members i) k);
  priorities = λ members slot. ap top_priority (all_take_part slot members);
}

-- ---- by relations

counted_is : (q p : ℕ) → (cond ((q == 0) || nat_lt 200 q) None (Some q) ≡ Some p) ↔ (q ≡ p) × (1 ≤ p) × (p ≤ 200)
counted_is q p = grind (arith, nat_tests)

pub priorities_by_relation : PrioritiesByRelation
priorities_by_relation slot priority None p = (λ is. cc, λ is. ap Some (sym is))
priorities_by_relation slot priority (Some given) p = counted_is (get_or given slot 0) p

pub merges_by_slot_by_relation : MergesByRelation → MergesBySlotByRelation
merges_by_slot_by_relation by members slot merged lt =
    let there : get_or (merge (taking_part slot members)) slot 0 ≡ get_or (merge_by_slot members) slot 0 = get_or-merge (taking_part slot members) slot lt ∙ sym (get_or-merge_by_slot members slot lt) in
    let is = by (taking_part slot members) slot merged lt in
    (λ same. is.0 (there ∙ same), λ merged_there. sym there ∙ is.1 merged_there)

-- ---- no source

pub merges_none_to_zero : MergesNoneToZero
merges_none_to_zero = record {
  whole = length-merge_by_slot;
  level = λ members slot none. elim (cases_lt slot 512) [
    | inl lt ↦ get_or-merge_by_slot members slot lt ∙ ap (λ l. merged_level l slot) none
    | inr past ↦ get_or_past (merge_by_slot members) slot 0 (omega (arith, length-merge_by_slot members))
  ];
  priority = λ members slot none. ap top_priority none;
}

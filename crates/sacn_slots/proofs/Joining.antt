-- What one source more changes in a slot.
use Rattle.std.proofs.Common.{◌≡◌, ℕ, ◌+◌, ◌<◌, ◌==◌, max, Bool, false, cond, List, [], ◌∷◌, ◌++◌, map, filter, fold, take, length, get_or, Option, Some, None, refl, sym, ap, ◌∙◌, arith, inl, inr, append-nil, ne_eqb, eq-eqb}
use Rattle.std.specs.List.{cons_option}
use Rattle.std.proofs.lemmas.Bool.{cases_lt}
use Rattle.std.proofs.lemmas.Bool.Decides.{nat_tests}
use Rattle.std.proofs.lemmas.List.{map_more}
use Rattle.std.proofs.lemmas.List.Elements.{filter_map-append, filter-append}
use Rattle.std.proofs.lemmas.List.Sums.{fold-append}
use Rattle.sacn_sources.specs.Merge.{Shown, level, top_priority, highest_at, merged_level}
use Rattle.sacn_sources.specs.HeldViews.{priority_shown}
use Rattle.sacn_slots.specs.SlotMerge.{Member, shown_at, taking_part, priority_of_slot}
use Rattle.sacn_slots.specs.Following.{level_shown, level_followed}
use Rattle.sacn_slots.specs.declared.layer.SlotLayer.{SlotLayer}
use Rattle.sacn_slots.specs.SlotLayers.{member_of}
use Rattle.sacn_slots.proofs.SetMerging.{top_above}

-- ---- which is followed of two

followed_less : (p level q other : ℕ) → p < q → level_followed p level q other ≡ other
followed_less p level q other lt = grind (arith, nat_tests)

followed_more : (p level q other : ℕ) → q < p → level_followed p level q other ≡ level
followed_more p level q other lt = grind (arith, nat_tests)

followed_same : (p level q other : ℕ) → q ≡ p → level_followed p level q other ≡ max level other
followed_same p level q other same = grind (arith, nat_tests)

pub followed_along : {p p' level level' q q' other other' : ℕ} → p ≡ p' → level ≡ level' → q ≡ q' → other ≡ other' → level_followed p level q other ≡ level_followed p' level' q' other'
followed_along a b c d = λ i. level_followed (a i) (b i) (c i) (d i)

-- ---- one shown more

abbrev has : ℕ → Shown → Bool
has p m = m.priority == p

-- no member has a priority above the greatest
none_above : (a p : ℕ) (ms : List Shown) → fold (λ top m. max top m.priority) a ms < p → filter (has p) ms ≡ []
none_above a p [] lt = refl
none_above a p (m ∷ ms) lt =
    let rest : filter (has p) ms ≡ [] = none_above (max a m.priority) p ms lt in
    let differs : has p m ≡ false = ne_eqb m.priority p (λ same. absurd (omega (arith, same, lt, top_above (max a m.priority) ms))) in
    rw (differs, rest) refl

module _ (ms : List Shown) (m : Shown) (slot : ℕ) where
  pub top_more : top_priority (ms ++ m ∷ []) ≡ max (top_priority ms) m.priority
  top_more = fold-append (λ top m. max top m.priority) 0 ms (m ∷ [])

  -- the highest at a priority, by whether this one has it
  highest_more : (p : ℕ) → highest_at p (ms ++ m ∷ []) slot ≡ fold (λ high x. max high (level slot x)) (highest_at p ms slot) (cond (has p m) (m ∷ []) [])
  highest_more p = ap (λ l. fold (λ high x. max high (level slot x)) 0 l) (filter-append (has p) ms (m ∷ [])) ∙ fold-append (λ high x. max high (level slot x)) 0 (filter (has p) ms) (filter (has p) (m ∷ []))

  abbrev top : ℕ
  top = top_priority ms

  abbrev q : ℕ
  q = m.priority

  abbrev own : ℕ
  own = level slot m

  abbrev from : ℕ → Bool → ℕ
  from high b = fold (λ high x. max high (level slot x)) high (cond b (m ∷ []) [])

  at_top : (p : ℕ) → max top q ≡ p → merged_level (ms ++ m ∷ []) slot ≡ from (highest_at p ms slot) (has p m)
  at_top p is = ap (λ p. highest_at p (ms ++ m ∷ []) slot) (top_more ∙ is) ∙ highest_more p

  pub merged_more : merged_level (ms ++ m ∷ []) slot ≡ level_followed (top_priority ms) (merged_level ms slot) m.priority (level slot m)
  merged_more = elim (cases_lt top q) [
    | inl less ↦
        let first : max top q ≡ q = omega arith in
        let last : max 0 own ≡ own = omega arith in
        at_top q first ∙ ap (from (highest_at q ms slot)) (eq-eqb q q refl) ∙ ap (λ l. max (fold (λ high x. max high (level slot x)) 0 l) own) (none_above 0 q ms less) ∙ last ∙ sym (followed_less top (merged_level ms slot) q own less)
    | inr no_less ↦ elim (cases_lt q top) [
      | inl more ↦
          let first : max top q ≡ top = omega arith in
          at_top top first ∙ ap (from (highest_at top ms slot)) (ne_eqb q top (λ same. absurd (omega arith))) ∙ sym (followed_more top (merged_level ms slot) q own more)
      | inr no_more ↦
          let same : q ≡ top = omega arith in
          let first : max top q ≡ top = omega arith in
          at_top top first ∙ ap (from (highest_at top ms slot)) (eq-eqb q top same) ∙ sym (followed_same top (merged_level ms slot) q own same)
    ]
  ]

-- ---- one source more

module _ (slot : ℕ) (members : List Member) (m : Member) where
  abbrev pub joined : Option Shown → List Shown
  joined o = taking_part slot members ++ cons_option o []

  taking_more : taking_part slot (members ++ m ∷ []) ≡ joined (shown_at slot m)
  taking_more = filter_map-append (shown_at slot) members (m ∷ [])

  pub priority_more : priority_of_slot (members ++ m ∷ []) slot ≡ max (priority_of_slot members slot) (priority_shown (shown_at slot m))
  priority_more = ap top_priority taking_more ∙ by (shown_at slot m)
    where
      by : (o : Option Shown) → top_priority (joined o) ≡ max (priority_of_slot members slot) (priority_shown o)
      by None = ap top_priority (append-nil (taking_part slot members)) ∙ omega arith
      by (Some shown) = top_more (taking_part slot members) shown slot

  pub level_more : merged_level (taking_part slot (members ++ m ∷ [])) slot ≡ level_followed (priority_of_slot members slot) (merged_level (taking_part slot members) slot) (priority_shown (shown_at slot m)) (level_shown slot (shown_at slot m))
  level_more = ap (λ l. merged_level l slot) taking_more ∙ by (shown_at slot m)
    where
      unchanged : (p l : ℕ) → l ≡ level_followed p l 0 0
      unchanged p l = grind (arith, nat_tests)

      by : (o : Option Shown) → merged_level (joined o) slot ≡ level_followed (priority_of_slot members slot) (merged_level (taking_part slot members) slot) (priority_shown o) (level_shown slot o)
      by None = ap (λ l. merged_level l slot) (append-nil (taking_part slot members)) ∙ unchanged (priority_of_slot members slot) (merged_level (taking_part slot members) slot)
      by (Some shown) = merged_more (taking_part slot members) shown slot

pub members_more : (layers : List SlotLayer) (i : ℕ) (layer : SlotLayer) → i < length layers → layer ≡ get_or layers i layer → map member_of (take (i + 1) layers) ≡ map member_of (take i layers) ++ member_of layer ∷ []
members_more layers i layer within is = map_more member_of layers i layer within ∙ ap (λ l. map member_of (take i layers) ++ member_of l ∷ []) (sym is)

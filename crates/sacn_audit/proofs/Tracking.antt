-- What is kept of one element of a register is what its own packets give.
use Rattle.std.proofs.Common.{◌≡◌, ℕ, ◌<◌, ◌≤◌, ◌⊎◌, inl, inr, cond, ltb, Bool, true, false, List, [], ◌∷◌, ◌++◌, length, set, Option, Some, None, refl, sym, ap, subst, ◌∙◌, arith}
use Rattle.std.specs.Prelude.{find, position, slice_get}
use Rattle.std.specs.Option.{option_map, option_or}
use Rattle.std.specs.List.{position_or_len}
use Rattle.std.proofs.lemmas.Bool.{ltb-false, ltb-true}
use Rattle.std.proofs.lemmas.List.{length-set, length-append}
use Rattle.std.proofs.lemmas.List.Folds.{find_at, find-set, find_past, find-append}
use Rattle.std.proofs.lemmas.List.Quantifiers.{position-Some}
use Rattle.std.proofs.lemmas.Option.{slice_get_past, slice_get_within, slice_get_cases, get_or_from_slice_get}
use Rattle.sacn_audit.specs.Registers.{changed, heard_within}
use Rattle.sacn_audit.proofs.Keys.{chosen, placed, refused}

clash : {A : Type 0} (a : A) (o : Option A) → o ≡ None → o ≡ Some a → ⊥
clash a o none some = let bad : ⊥ = cc in bad

or_none : {A : Type 0} (o : Option A) → option_or o None ≡ o
or_none None = refl
or_none (Some s) = refl

-- ---- places

module _ {S : Type 0} (p : S → Bool) (ss : List S) where
  find_none : position p ss ≡ None → find p ss ≡ None
  find_none e =
      let past = ltb-false (position_or_len p ss) (length ss) (refused (ltb (position_or_len p ss) (length ss)) (position_or_len p ss) e) in
      find_at p ss ∙ slice_get_past ss (position_or_len p ss) past

  -- at a place there is one
  missing : (i : ℕ) → position p ss ≡ Some i → slice_get ss i ≡ None → ⊥
  missing i place none =
      let at : position_or_len p ss ≡ i = chosen (ltb (position_or_len p ss) (length ss)) (position_or_len p ss) i place in
      let within : position_or_len p ss < length ss = ltb-true (position_or_len p ss) (length ss) (placed (ltb (position_or_len p ss) (length ss)) (position_or_len p ss) i place) in
      elim (slice_get_cases ss i).1 [
        | inl there ↦ clash there.0 (slice_get ss i) none there.2
        | inr past ↦ absurd (omega (arith, at, within, past.0))
      ]

  length_changed : (f : S → S) (i : ℕ) (o : Option S) → length (changed f i ss o) ≡ length ss
  length_changed f i None = refl
  length_changed f i (Some s) = length-set ss i (f s)

module _ {S : Type 0} (p : S → Bool) (f : S → S) (ss : List S) (i : ℕ) (place : position p ss ≡ Some i) where
  here : position_or_len p ss ≡ i
  here = chosen (ltb (position_or_len p ss) (length ss)) (position_or_len p ss) i place

  found : find p ss ≡ slice_get ss i
  found = find_at p ss ∙ ap (slice_get ss) here

  passes : (s : S) → slice_get ss i ≡ Some s → p s ≡ true
  passes s e = subst (λ (x : S). p x ≡ true) (get_or_from_slice_get ss i s s e) (position-Some p ss i s place).1

  by_same : ((s : S) → p (f s) ≡ p s) → (s : S) → slice_get ss i ≡ Some s → find p (set ss i (f s)) ≡ Some (f s)
  by_same keeps s e = find-set p ss i (f s) (sym here) (slice_get_within ss i s e) (keeps s ∙ passes s e)

  by_other : (q : S → Bool) → ((s : S) → q (f s) ≡ q s) → ((s : S) → p s ≡ true → q s ≡ false) → (o : Option S) → slice_get ss i ≡ o → find q (changed f i ss o) ≡ find q ss
  by_other q keeps apart None e = refl
  by_other q keeps apart (Some s) e =
      let other : q s ≡ false = apart s (passes s e) in
      find_past q ss i (f s) s (ap q (get_or_from_slice_get ss i s s e) ∙ other) (keeps s ∙ other)

-- ---- one element, by what is kept of it

module _ {S A : Type 0} (most : ℕ) (audit : S → A) (q : S → Bool) where
  abbrev kept : List S → Option A
  kept ss = option_map audit (find q ss)

  abbrev pub Tracks : List S → Option A → Type 0
  Tracks ss o = (kept ss ≡ o) ⊎ ((kept ss ≡ None) × (most ≤ length ss))

  -- what doesn't touch it and drops none keeps it tracked
  untouched : (ss after : List S) (o : Option A) → kept after ≡ kept ss → length ss ≤ length after → Tracks ss o → Tracks after o
  untouched ss after o same more (inl e) = inl (same ∙ e)
  untouched ss after o same more (inr e) = inr (same ∙ e.0, omega (arith, e.1, more))

  module _ (f : S → S) (begun : S) (keeps : (s : S) → q (f s) ≡ q s) (ss : List S) (o : Option A) where
    abbrev opened : List S
    opened = ss ++ begun ∷ []

    find_opened : (b : Bool) → q begun ≡ b → find q opened ≡ option_or (find q ss) (cond b (Some begun) None)
    find_opened b e = find-append q ss (begun ∷ []) ∙ ap (λ (k : Bool). option_or (find q ss) (cond k (Some begun) None)) e

    -- a packet of its own
    module _ (next : Option A → A) (ours : q begun ≡ true) (heard : (s : S) → audit (f s) ≡ next (Some (audit s))) (first : audit begun ≡ next None) where
      heard_by : (i : ℕ) → position q ss ≡ Some i → (g : Option S) → slice_get ss i ≡ g → Tracks ss o → Tracks (changed f i ss g) (Some (next o))
      heard_by i place None e known = absurd (missing q ss i place e)
      heard_by i place (Some s) e (inl known) =
          let same : kept ss ≡ Some (audit s) = ap (option_map audit) (found q f ss i place ∙ e) in
          let after : kept (set ss i (f s)) ≡ Some (audit (f s)) = ap (option_map audit) (by_same q f ss i place keeps s e) in
          inl (after ∙ ap (λ (a : A). Some a) (heard s) ∙ ap (λ (a : Option A). Some (next a)) (sym same ∙ known))
      heard_by i place (Some s) e (inr full) =
          let same : kept ss ≡ Some (audit s) = ap (option_map audit) (found q f ss i place ∙ e) in
          absurd (clash (audit s) (kept ss) full.0 same)

      opened_by : position q ss ≡ None → length ss < most → Tracks ss o → Tracks opened (Some (next o))
      opened_by place room (inl known) =
          let none : find q ss ≡ None = find_none q ss place in
          let before : o ≡ None = sym known ∙ ap (option_map audit) none in
          inl (ap (option_map audit) (find_opened true ours) ∙ ap (λ (g : Option S). option_map audit (option_or g (Some begun))) none ∙ ap (λ (a : A). Some a) first ∙ ap (λ (a : Option A). Some (next a)) (sym before))
      opened_by place room (inr full) = absurd (omega (arith, full.1, room))

      new_by : position q ss ≡ None → (r : Bool) → ltb (length ss) most ≡ r → Tracks ss o → Tracks (cond r opened ss) (Some (next o))
      new_by place true room tracks = opened_by place (ltb-true (length ss) most room) tracks
      new_by place false room tracks = inr (ap (option_map audit) (find_none q ss place), ltb-false (length ss) most room)

      pub tracks_own : (m : Option ℕ) → position q ss ≡ m → Tracks ss o → Tracks (heard_within most f begun ss m) (Some (next o))
      tracks_own None place tracks = new_by place (ltb (length ss) most) refl tracks
      tracks_own (Some i) place tracks = heard_by i place (slice_get ss i) refl tracks

    -- a packet of another one, which p looks for
    module _ (p : S → Bool) (apart : (s : S) → p s ≡ true → q s ≡ false) (other : q begun ≡ false) where
      beside_by : (r : Bool) → Tracks ss o → Tracks (cond r opened ss) o
      beside_by true tracks = untouched ss opened o (ap (option_map audit) (find_opened false other ∙ or_none (find q ss))) (omega (arith, length-append ss (begun ∷ []))) tracks
      beside_by false tracks = tracks

      pub tracks_other : (m : Option ℕ) → position p ss ≡ m → Tracks ss o → Tracks (heard_within most f begun ss m) o
      tracks_other None place tracks = beside_by (ltb (length ss) most) tracks
      tracks_other (Some i) place tracks =
          untouched ss (changed f i ss (slice_get ss i)) o (ap (option_map audit) (by_other p f ss i place q keeps apart (slice_get ss i) refl)) (omega (arith, length_changed p ss f i (slice_get ss i))) tracks

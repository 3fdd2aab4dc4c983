-- Lists in which no two elements have one key.
use Rattle.std.proofs.Common.{◌≡◌, ◌≢◌, ℕ, ◌<◌, ◌≤◌, ◌==◌, Bool, true, false, cond, ltb, nat_lt, List, [], ◌∷◌, ◌++◌, length, get_or, slice_set, Some, None, refl, sym, ap, subst, ◌∙◌, arith}
use Rattle.std.specs.List.{AllPairs, position, position_or_len}
use Rattle.std.proofs.lemmas.Bool.{lt-ltb, ltb-false}
use Rattle.std.proofs.lemmas.Bool.Decides.{nat_tests}
use Rattle.std.proofs.lemmas.Grind.{get_or-set_at}
use Rattle.std.proofs.lemmas.List.{get_or-set_other, length-set}
use Rattle.std.proofs.lemmas.List.Sums.{fails_before_first, position_or_len_is}
use Rattle.std.proofs.lemmas.List.Quantifiers.{all_pairs_push}

pub chosen : (b : Bool) (n i : ℕ) → cond b (Some n) None ≡ Some i → n ≡ i
chosen true n i e = cc
chosen false n i e = absurd cc

pub placed : (b : Bool) (n i : ℕ) → cond b (Some n) None ≡ Some i → b ≡ true
placed true n i e = refl
placed false n i e = absurd cc

pub refused : (b : Bool) (n : ℕ) → cond b (Some n) None ≡ None → b ≡ false
refused true n e = absurd cc
refused false n e = refl

equal_at : (i j : ℕ) → (i == j) ≡ true → j ≡ i
equal_at i j h = grind (arith, nat_tests)

other_at : (i j : ℕ) → (i == j) ≡ false → j ≢ i
other_at i j h = λ e. absurd (grind (arith, nat_tests))

module _ {S : Type 0} (same : S → S → Bool) where
  abbrev Apart : List S → Type 0
  Apart ss = AllPairs (λ earlier later. same later earlier ≡ false) ss

  -- the one that is found is the first
  pub found_first : (p : S → Bool) (ss : List S) (place : ℕ) (s : S) → Apart ss → place < length ss → s ≡ get_or ss place s → p s ≡ true → ((x : S) → p x ≡ same s x) → position p ss ≡ Some place
  found_first p ss place s apart low here e like =
      let first : position_or_len p ss ≡ place =
      position_or_len_is p ss place s (omega (arith, low)) (λ k below. like (get_or ss k s) ∙ ap (λ (t : S). same t (get_or ss k s)) here ∙ apart k place s below low) (λ inside. ap p (sym here) ∙ e) in
      ap (λ (n : ℕ). cond (nat_lt n (length ss)) (Some n) None) first ∙ ap (λ (b : Bool). cond b (Some place) None) (lt-ltb place (length ss) low)

  -- one more, which has a key of its own
  pub admitted_apart : (ss after : List S) (s : S) → Apart ss → position (same s) ss ≡ None → after ≡ ss ++ s ∷ [] → Apart after
  admitted_apart ss after s apart unknown e =
      let past : length ss ≤ position_or_len (same s) ss = ltb-false (position_or_len (same s) ss) (length ss) (refused (ltb (position_or_len (same s) ss) (length ss)) (position_or_len (same s) ss) unknown) in
      subst Apart (sym e) (all_pairs_push (λ (earlier later : S). same later earlier ≡ false) ss s apart (λ k d below. fails_before_first (same s) ss k d (omega (arith, below, past))))

  -- one that changes, and keeps its key
  changed_at : (ss : List S) (at : ℕ) (s : S) → Apart ss → at < length ss → ((x d : S) → same x s ≡ same x (get_or ss at d)) → ((x d : S) → same s x ≡ same (get_or ss at d) x) → (i j : ℕ) (d : S) → i < j → j < length ss → (a b : Bool) → (at == i) ≡ a → (at == j) ≡ b → same (get_or (slice_set ss at s) j d) (get_or (slice_set ss at s) i d) ≡ false
  changed_at ss at s apart low met meets i j d before inside true true earlier later =
      let e : i ≡ at = equal_at at i earlier in
      let f : j ≡ at = equal_at at j later in
      absurd (omega (arith, before, e, f))
  changed_at ss at s apart low met meets i j d before inside true false earlier later =
      let e : i ≡ at = equal_at at i earlier in
      rw (get_or-set_at ss at i s d e low, get_or-set_other ss at j s d (other_at at j later)) (met (get_or ss j d) d ∙ apart at j d (omega (arith, before, e)) inside)
  changed_at ss at s apart low met meets i j d before inside false true earlier later =
      let f : j ≡ at = equal_at at j later in
      rw (get_or-set_at ss at j s d f low, get_or-set_other ss at i s d (other_at at i earlier)) (meets (get_or ss i d) d ∙ apart i at d (omega (arith, before, f)) low)
  changed_at ss at s apart low met meets i j d before inside false false earlier later =
      rw (get_or-set_other ss at j s d (other_at at j later), get_or-set_other ss at i s d (other_at at i earlier)) (apart i j d before inside)

  pub changed_apart : (ss : List S) (at : ℕ) (s : S) → Apart ss → at < length ss → ((x d : S) → same x s ≡ same x (get_or ss at d)) → ((x d : S) → same s x ≡ same (get_or ss at d) x) → Apart (slice_set ss at s)
  changed_apart ss at s apart low met meets i j d before inside =
      changed_at ss at s apart low met meets i j d before (omega (arith, inside, length-set ss at s)) (at == i) (at == j) refl refl

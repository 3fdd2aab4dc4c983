-- No two universes of a list go out under one number.
use Rattle.std.proofs.Common.{◌≡◌, ℕ, Bool, true, false, not, ◌||◌, cond, eqb, nat_le, List, [], ◌∷◌, ◌++◌, length, None, Some, refl, sym, ap, ◌∙◌}
use Rattle.std.specs.Prelude.{⊤}
use Rattle.std.specs.List.{list_any}
use Rattle.std.proofs.lemmas.Bool.{eqb-true, eq-eqb, or_parts, true≢false}
use Rattle.sacn_replay.specs.declared.fault.ReplayFault.TheVariants.{MappedTwice, SameTarget, TooMany, Universe}
use Rattle.sacn_replay.specs.declared.universes.Mapping.{Mapping}
use Rattle.sacn_replay.specs.declared.universes.TheConstants.{MAX_MAPPED}
use Rattle.sacn_replay.specs.Maps.{NumbersAreApart, all_added, carries_data, is_listed, mapped, with_mapping_by}

-- a mapping goes to a number
abbrev goes_to : ℕ → List Mapping → Bool
goes_to number ps = list_any (λ p. eqb p.to number) ps

-- no two go to one number
abbrev AreApart : List Mapping → Type 0
AreApart [] = ⊤
AreApart (p ∷ ps) = (goes_to p.to ps ≡ false) × AreApart ps

same_false : (a b : ℕ) → eqb a b ≡ false → eqb b a ≡ false
same_false a b differ = by (eqb b a) refl
  where
    by : (t : Bool) → eqb b a ≡ t → t ≡ false
    by true is = absurd (true≢false (sym (eq-eqb a b (sym (eqb-true b a is))) ∙ differ))
    by false is = refl

goes_more : (p q : Mapping) (ps : List Mapping) → goes_to q.to ps ≡ false → eqb p.to q.to ≡ false → goes_to q.to (ps ++ p ∷ []) ≡ false
goes_more p q [] none differ = ap (λ (b : Bool). b || false) differ
goes_more p q (r ∷ rs) none differ =
    let parts = or_parts (eqb r.to q.to) (goes_to q.to rs) none in
    (λ i. parts.0 i || goes_to q.to (rs ++ p ∷ [])) ∙ goes_more p q rs parts.1 differ

apart_more : (p : Mapping) (ps : List Mapping) → AreApart ps → goes_to p.to ps ≡ false → AreApart (ps ++ p ∷ [])
apart_more p [] apart none = (refl, tt)
apart_more p (q ∷ ps) apart none =
    let parts = or_parts (eqb q.to p.to) (goes_to p.to ps) none in
    (goes_more p q ps apart.0 (same_false q.to p.to parts.0), apart_more p ps apart.1 parts.1)

-- the mapping that is asked for is refused, or goes to a number of its own
apart_by : (p : Mapping) (ps : List Mapping) → AreApart ps → (u f t m : Bool) → goes_to p.to ps ≡ t
    → AreApart (with_mapping_by (cond u (Some Universe) (cond f (Some MappedTwice) (cond t (Some SameTarget) (cond m (Some TooMany) None)))) p ps)
apart_by p ps apart true f t m is = apart
apart_by p ps apart false true t m is = apart
apart_by p ps apart false false true m is = apart
apart_by p ps apart false false false true is = apart
apart_by p ps apart false false false false is = apart_more p ps apart is

all_apart : (asked : List Mapping) → AreApart (all_added asked)
all_apart [] = tt
all_apart (p ∷ earlier) =
    let ps : List Mapping = all_added earlier in
    apart_by p ps (all_apart earlier) (not (carries_data p.from) || not (carries_data p.to)) (list_any (λ q. eqb q.from p.from) ps) (goes_to p.to ps) (nat_le MAX_MAPPED (length ps)) refl

or_true : (a b : Bool) → b ≡ true → (a || b) ≡ true
or_true true b is = refl
or_true false b is = is

-- what is listed goes to its number
mapped_there : (ps : List Mapping) (a : ℕ) → is_listed a ps ≡ true → goes_to (mapped ps a) ps ≡ true
mapped_there [] a listed = absurd (true≢false (sym listed))
mapped_there (p ∷ ps) a listed = by (mapped_there ps a) (eqb p.from a) refl
  where
    by : (is_listed a ps ≡ true → goes_to (mapped ps a) ps ≡ true) → (t : Bool) → eqb p.from a ≡ t → (eqb p.to (cond t p.to (mapped ps a)) || goes_to (cond t p.to (mapped ps a)) ps) ≡ true
    by rest true is = ap (λ (b : Bool). b || goes_to p.to ps) (eq-eqb p.to p.to refl)
    by rest false is = or_true (eqb p.to (mapped ps a)) (goes_to (mapped ps a) ps) (rest ((λ i. sym is i || is_listed a ps) ∙ listed))

-- of two of which one is the first, the other goes elsewhere
first_alone : (p : Mapping) (ps : List Mapping) (a : ℕ) → goes_to p.to ps ≡ false → is_listed a ps ≡ true → p.to ≡ mapped ps a → true ≡ false
first_alone p ps a none listed same = sym (mapped_there ps a listed) ∙ ap (λ (number : ℕ). goes_to number ps) (sym same) ∙ none

apart_numbers : (ps : List Mapping) (a b : ℕ) → AreApart ps → is_listed a ps ≡ true → is_listed b ps ≡ true → mapped ps a ≡ mapped ps b → a ≡ b
apart_numbers [] a b apart here there same = absurd (true≢false (sym here))
apart_numbers (p ∷ ps) a b apart here there same = by (apart_numbers ps a b apart.1) (eqb p.from a) (eqb p.from b) refl refl here there same
  where
    by : (is_listed a ps ≡ true → is_listed b ps ≡ true → mapped ps a ≡ mapped ps b → a ≡ b) → (s t : Bool) → eqb p.from a ≡ s → eqb p.from b ≡ t → (s || is_listed a ps) ≡ true → (t || is_listed b ps) ≡ true → cond s p.to (mapped ps a) ≡ cond t p.to (mapped ps b) → a ≡ b
    by rest true true is_a is_b la lb e = sym (eqb-true p.from a is_a) ∙ eqb-true p.from b is_b
    by rest true false is_a is_b la lb e = absurd (true≢false (first_alone p ps b apart.0 lb e))
    by rest false true is_a is_b la lb e = absurd (true≢false (first_alone p ps a apart.0 la (sym e)))
    by rest false false is_a is_b la lb e = rest la lb e

pub numbers_apart : NumbersAreApart
numbers_apart asked a b here there same = apart_numbers (all_added asked) a b (all_apart asked) here there same

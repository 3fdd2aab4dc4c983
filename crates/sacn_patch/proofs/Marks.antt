-- A universe's frame by the marks of its entries.
use Rattle.std.proofs.Common.{◌≡◌, ℕ, suc, zero, ◌+◌, ◌-◌, ◌<◌, ◌≤◌, Bool, true, false, ◌&&◌, ◌==◌, nat_le, List, [], ◌∷◌, ◌++◌, length, set, get_or, drop, refl, sym, ap, subst, ◌∙◌, arith, inl, inr}
use Rattle.std.proofs.lemmas.Bool.{cases_eq}
use Rattle.std.proofs.lemmas.Bool.Decides.{nat_tests}
use Rattle.std.proofs.lemmas.List.{length-append, get_or_append_left, get_or-append_right}
use Rattle.sacn_patch.specs.declared.part.Part.{Part}
use Rattle.sacn_patch.specs.declared.part.LevelByte.TheVariants.{High}
use Rattle.sacn_patch.specs.Parts.{AreOctets, octet_place}
use Rattle.sacn_patch.specs.Patch.{Place}
use Rattle.sacn_patch.specs.Flat.{Row, AllBelow, AllFrom, IsStart, AreStarts}
use Rattle.sacn_patch.proofs.Fills.{written, of_universe}
use Rattle.sacn_patch.proofs.Rows.{step_taken, step_skipped, skipped, outside, higher_out}

abbrev pub no_entry : Place × Part
no_entry = ((0, 0), record { channel = 0; byte = High })

in_it : (v u s : ℕ) → v ≡ u → (nat_le 1 s && nat_le s 512) ≡ true → (v == u && (nat_le 1 s && nat_le s 512)) ≡ true
in_it v u s same inside = let e : (v == u) ≡ true = grind (arith, nat_tests) in rw (e, inside) refl

never_both : (b : Bool) → (b && false) ≡ false
never_both true = refl
never_both false = refl

module _ (level : ℕ → ℕ) (octets slots : List ℕ) (u place : ℕ) (row : Row) (d : Place × Part) (slot octet : ℕ) (lt : place < length row) (is : ((get_or row place d).0.1 ≡ slot) × (octet_place (get_or row place d).1 ≡ octet)) where
  abbrev here : Place × Part
  here = get_or row place d

  -- a slot of the universe shows the octet at its place
  pub entry_taken : AreOctets level octets → here.0.0 ≡ u → (nat_le 1 slot && nat_le slot 512) ≡ true → written level (of_universe u (drop (place + 1) row)) (set slots (slot - 1) (get_or octets octet 0)) ≡ written level (of_universe u (drop place row)) slots
  entry_taken are same inside =
      ap (λ (s : ℕ). written level (of_universe u (drop (place + 1) row)) (set slots (s - 1) (get_or octets octet 0))) (sym is.0)
      ∙ ap (λ (n : ℕ). written level (of_universe u (drop (place + 1) row)) (set slots (here.0.1 - 1) (get_or octets n 0))) (sym is.1)
      ∙ ap (λ (n : ℕ). written level (of_universe u (drop (place + 1) row)) (set slots (here.0.1 - 1) n)) (are here.1)
      ∙ sym (ap (λ (es : Row). written level es slots) (step_taken u place row d lt (in_it here.0.0 u here.0.1 same (ap (λ (s : ℕ). nat_le 1 s && nat_le s 512) is.0 ∙ inside))))

  -- no other number is a slot
  pub entry_skipped : (nat_le 1 slot && nat_le slot 512) ≡ false → written level (of_universe u (drop (place + 1) row)) slots ≡ written level (of_universe u (drop place row)) slots
  entry_skipped out = ap (λ (es : Row). written level es slots) (step_skipped u place row d lt (ap (λ (b : Bool). here.0.0 == u && b) (ap (λ (s : ℕ). nat_le 1 s && nat_le s 512) is.0 ∙ out) ∙ never_both (here.0.0 == u)))

-- between the starts of a universe and of the next one all entries are the universe's
pub between : (u start end place : ℕ) (row : Row) (d : Place × Part) → AllFrom u row start → AllBelow (u + 1) row end → end ≤ length row → start ≤ place → place < end → (get_or row place d).0.0 ≡ u
between u start end place row d from below bound least lt =
    let low : u ≤ (get_or row place d).0.0 = from place d least (omega (arith, bound, lt)) in
    let high : (get_or row place d).0.0 < u + 1 = below place d lt (omega (arith, bound, lt)) in
    omega (arith, low, high)

-- from the start of the next universe on there is none of this one
pub none_from : (u place : ℕ) (row : Row) → AllFrom (u + 1) row place → of_universe u (drop place row) ≡ []
none_from u zero [] from = refl
none_from u (suc place) [] from = refl
none_from u zero (e ∷ es) from =
    let high : u + 1 ≤ e.0.0 = from 0 e (omega arith) (omega arith) in
    skipped u e es (outside u e.0 (higher_out e.0.0 u (omega (arith, high)))) ∙ none_from u zero es (λ i d le lt. from (suc i) d (omega arith) (omega (arith, lt)))
none_from u (suc place) (e ∷ es) from = none_from u place es (λ i d le lt. from (suc i) d (omega (arith, le)) (omega (arith, lt)))

pub from_later : (u end place : ℕ) (row : Row) → AllFrom u row end → end ≤ place → AllFrom u row place
from_later u end place row from le = λ i d within lt. from i d (omega (arith, le, within)) lt

-- one more start
pub starts_more : (row : Row) (starts : List ℕ) (universe place : ℕ) → length starts ≡ universe → AreStarts row starts → IsStart universe row place → AreStarts row (starts ++ place ∷ [])
starts_more row starts universe place long are is = λ u lt. elim (cases_eq u universe) [
  | inl same ↦
      let here : get_or (starts ++ place ∷ []) u 0 ≡ place = get_or-append_right starts (place ∷ []) universe u 0 long (omega (arith, same)) ∙ (let e : u - universe ≡ 0 = omega (arith, same) in rw e refl) in
      subst (λ (s : ℕ). IsStart u row s) (sym here) (subst (λ (v : ℕ). IsStart v row place) (sym same) is)
  | inr apart ↦
      let wide : length (starts ++ place ∷ []) ≡ length starts + 1 = length-append starts (place ∷ []) in
      let before : u < length starts = omega (arith, wide, long, apart, lt) in
      subst (λ (s : ℕ). IsStart u row s) (sym (get_or_append_left starts (place ∷ []) 0 u before)) (are u before)
]

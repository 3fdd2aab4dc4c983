-- The table of a universe, at its place.
use Rattle.std.proofs.Common.{◌≡◌, ℕ, zero, suc, ◌-◌, ◌<◌, ◌≤◌, ◌==◌, Bool, false, cond, List, [], ◌∷◌, length, map, get_or, set, AllPairs, Some, None, Result, Ok, Err, IfOk, IfErr, refl, sym, ap, ◌∙◌, arith, inl, inr, eq-eqb}
use Rattle.std.specs.List.Sorted.{IsSearchInRange, IsBinarySearchResult, IsNonDecreasingBy}
use Rattle.std.specs.declared.cmp.Ordering.TheVariants.{Less, Equal, Greater}
use Rattle.std.specs.Ordering.{nat_cmp, ordering_index}
use Rattle.std.proofs.lemmas.Bool.{cases_eq}
use Rattle.std.proofs.lemmas.Bool.Decides.{nat_tests}
use Rattle.std.proofs.lemmas.Cmp.{ranked}
use Rattle.std.proofs.lemmas.List.{length-map, get_or-map}
use Rattle.sacn_sources.specs.Rows.{Row, Packet, take_row}
use Rattle.sacn_node.specs.declared.tables.OneUniverse.{OneUniverse}
use Rattle.sacn_node.specs.Cores.{Table, Core, table_of, change_rows, with_taken, core_at, core_after}
use Rattle.sacn_node.specs.Storage.{seen}
use Rattle.sacn_node.proofs.Expiry.{kept_in}

other : (a b : ℕ) → a < b → (a == b) ≡ false
other a b lt = grind (arith, nat_tests)

other_above : (a b : ℕ) → b < a → (a == b) ≡ false
other_above a b lt = grind (arith, nat_tests)

module _ (u : ℕ) (f : List Row → List Row) where
  abbrev changed : Table → List Table → Bool → List Table
  changed g gs b = cond b (record { universe = g.universe; rows = f g.rows } ∷ gs) (g ∷ change_rows u f gs)

  pub table_at : (gs : List Table) (at : ℕ) (d : Table) → at < length gs → ((d : Table) → (get_or gs at d).universe ≡ u) → ((j : ℕ) (d : Table) → j < at → (get_or gs j d).universe < u) → table_of u gs ≡ Some (get_or gs at d)
  table_at [] at d within here before = absurd (omega arith)
  table_at (g ∷ gs) zero d within here before = ap (λ b. cond b (Some g) (table_of u gs)) (eq-eqb g.universe u (here d))
  table_at (g ∷ gs) (suc at) d within here before =
      ap (λ b. cond b (Some g) (table_of u gs)) (other g.universe u (before 0 d (omega arith)))
      ∙ table_at gs at d (omega arith) here (λ j d lt. before (suc j) d (omega arith))

  pub change_at : (gs : List Table) (at : ℕ) (d : Table) → at < length gs → ((d : Table) → (get_or gs at d).universe ≡ u) → ((j : ℕ) (d : Table) → j < at → (get_or gs j d).universe < u) → change_rows u f gs ≡ set gs at (record { universe = (get_or gs at d).universe; rows = f (get_or gs at d).rows })
  change_at [] at d within here before = absurd (omega arith)
  change_at (g ∷ gs) zero d within here before = ap (changed g gs) (eq-eqb g.universe u (here d))
  change_at (g ∷ gs) (suc at) d within here before =
      ap (changed g gs) (other g.universe u (before 0 d (omega arith)))
      ∙ ap (λ l. g ∷ l) (change_at gs at d (omega arith) here (λ j d lt. before (suc j) d (omega arith)))

  abbrev pub Apart : List Table → ℕ → Type 0
  Apart gs at = (j : ℕ) (d : Table) → j < length gs → (j < at → (get_or gs j d).universe < u) × (at ≤ j → u < (get_or gs j d).universe)

  not_here : (g : Table) (gs : List Table) (at : ℕ) → Apart (g ∷ gs) at → (g.universe == u) ≡ false
  not_here g gs zero apart = other_above g.universe u ((apart 0 g (omega arith)).1 (omega arith))
  not_here g gs (suc at) apart = other g.universe u ((apart 0 g (omega arith)).0 (omega arith))

  later : (g : Table) (gs : List Table) (at : ℕ) → Apart (g ∷ gs) at → Apart gs (at - 1)
  later g gs at apart j d lt =
      let there = apart (suc j) d (omega arith) in
      (λ below. there.0 (omega arith), λ above. there.1 (omega arith))

  pub table_absent : (gs : List Table) (at : ℕ) → Apart gs at → table_of u gs ≡ None
  table_absent [] at apart = refl
  table_absent (g ∷ gs) at apart = ap (λ b. cond b (Some g) (table_of u gs)) (not_here g gs at apart) ∙ table_absent gs _ (later g gs at apart)

  pub change_absent : (gs : List Table) (at : ℕ) → Apart gs at → change_rows u f gs ≡ gs
  change_absent [] at apart = refl
  change_absent (g ∷ gs) at apart = ap (changed g gs) (not_here g gs at apart) ∙ ap (λ l. g ∷ l) (change_absent gs _ (later g gs at apart))

-- what the search says
module _ (os : List OneUniverse) (u : ℕ) (rising : AllPairs (λ a b. a.universe < b.universe) os) where
  higher : (a b : ℕ) → a ≤ b → ordering_index (nat_cmp a u) ≤ ordering_index (nat_cmp b u)
  higher a b le = grind (arith, nat_tests)

  not_less : (i j : ℕ) (d : OneUniverse) → i ≤ j → j < length os → (get_or os i d).universe ≤ (get_or os j d).universe
  not_less i j d le within = elim (cases_eq i j) [
    | inl same ↦ let equal : (get_or os i d).universe ≡ (get_or os j d).universe = ap (λ k. (get_or os k d).universe) same in omega arith
    | inr differs ↦ omega (arith, rising i j d (omega arith) within)
  ]

  there : (j : ℕ) (d : Table) (o : OneUniverse) → j < length os → (get_or (map seen os) j d).universe ≡ (get_or os j o).universe
  there j d o lt = ap (λ (g : Table). g.universe) (get_or-map seen os j o d lt)

  pub found : (r : Result ℕ ℕ) → IsSearchInRange r (length os) → IsBinarySearchResult (λ o. nat_cmp o.universe u) os r → OneUniverse
      → IfOk r (λ at. (at < length (map seen os)) × ((d : Table) → (get_or (map seen os) at d).universe ≡ u) × ((j : ℕ) (d : Table) → j < at → (get_or (map seen os) j d).universe < u))
  found (Err at) in_range parted o = tt
  found (Ok at) in_range equal o =
      let here : (get_or os at o).universe ≡ u = ranked (get_or os at o).universe u Equal (sym (equal o)) in (
        omega (arith, length-map os seen),
        (λ d. there at d o in_range ∙ here),
        λ j d lt. omega (arith, there j d o (omega arith), rising j at o lt in_range),
      )

  pub absent : (r : Result ℕ ℕ) → IsSearchInRange r (length os) → IsBinarySearchResult (λ o. nat_cmp o.universe u) os r → OneUniverse
      → IfErr r (λ at. (j : ℕ) (d : Table) → j < length (map seen os) → (j < at → (get_or (map seen os) j d).universe < u) × (at ≤ j → u < (get_or (map seen os) j d).universe))
  absent (Ok at) in_range equal o = tt
  absent (Err at) in_range parted o = λ j d lt.
      let rise : IsNonDecreasingBy (λ (o : OneUniverse). ordering_index (nat_cmp o.universe u)) os = λ i j d le within. higher (get_or os i d).universe (get_or os j d).universe (not_less i j d le within) in
      let in_os : j < length os = omega (arith, length-map os seen) in (
        (λ below. let less : (get_or os j o).universe < u = ranked (get_or os j o).universe u Less (sym ((parted rise).0 j o (omega arith) below)) in omega (arith, there j d o in_os)),
        λ above. let more : u < (get_or os j o).universe = ranked (get_or os j o).universe u Greater (sym ((parted rise).1 j o above in_os)) in omega (arith, there j d o in_os),
      )

-- ---- a packet, after expiry

module _ (n old : Core) (now : ℕ) (expired : n ≡ core_at now old) (u : ℕ) (x : Packet) where
  abbrev after : Core → Core
  after n = record { moment = n.moment; tables = change_rows u (take_row x n.moment) n.tables }

  pub core_taken : (at : ℕ) (d : Table) → at < length n.tables → ((d : Table) → (get_or n.tables at d).universe ≡ u) → ((j : ℕ) (d : Table) → j < at → (get_or n.tables j d).universe < u)
      → (let new : Core = record { moment = n.moment; tables = set n.tables at (with_taken x n.moment (get_or n.tables at d)) } in new ≡ core_after u x now old)
  core_taken at d within here before =
      ap (λ rs. let new : Core = record { moment = n.moment; tables = set n.tables at (record { universe = (get_or n.tables at d).universe; rows = take_row x n.moment rs }) } in new) (kept_in n old now at d expired within)
      ∙ ap (λ gs. let new : Core = record { moment = n.moment; tables = gs } in new) (sym (change_at u (take_row x n.moment) n.tables at d within here before))
      ∙ ap after expired

  pub core_other : (at : ℕ) → Apart u (take_row x n.moment) n.tables at → n ≡ core_after u x now old
  core_other at apart = ap (λ gs. let new : Core = record { moment = n.moment; tables = gs } in new) (sym (change_absent u (take_row x n.moment) n.tables at apart)) ∙ ap after expired

pub in_bounds : (os : List OneUniverse) (r : Result ℕ ℕ) → IsSearchInRange r (length os) → IfErr r (λ at. at ≤ length (map seen os))
in_bounds os (Ok at) within = tt
in_bounds os (Err at) within = omega (arith, length-map os seen)

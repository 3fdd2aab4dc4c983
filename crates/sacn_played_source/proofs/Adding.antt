-- A source to whom universes are added in turn.
use Rattle.std.proofs.Common.{◌≡◌, ℕ, ◌||◌, ◌&&◌, ◌==◌, Bool, true, false, cond, nat_lt, nat_le, nat_eq, List, [], ◌∷◌, length, map, find, Option, Some, None, Result, Ok, Err, refl, arith, ap, sym, ◌∙◌}
use Rattle.std.specs.List.{list_any}
use Rattle.std.specs.Bool.{⊤}
use Rattle.std.specs.Option.{option_map}
use Rattle.std.proofs.lemmas.Bool.Decides.{nat_tests}
use Rattle.sacn_console.specs.declared.line.State.{State}
use Rattle.sacn_console.specs.declared.line.State.TheVariants.{Running}
use Rattle.sacn_source.specs.declared.source_universe.SourceUniverse.{SourceUniverse}
use Rattle.sacn_source.specs.declared.fault.SourceFault.{SourceFault}
use Rattle.sacn_source.specs.declared.fault.SourceFault.TheVariants as fault
use Rattle.sacn_source.specs.Rows.{row_in, new_row, dark, add_answer}
use Rattle.sacn_source.specs.Table.{Table, is_of, with_universe, Add, answer, add_by, room_answer, taken}
use Rattle.sacn_source.specs.Source.{Source, new_source, after_order}
use Rattle.sacn_played_source.specs.Played.{then_add, add_all, after_adds}
use Rattle.sacn_played_source.specs.Laws.{levels_on}
use Rattle.sacn_played_source.proofs.SourceLevels.{levels_in}

-- each runs, and shows nothing yet
abbrev pub Anew : List SourceUniverse → Type 0
Anew [] = ⊤
Anew (r ∷ rs) = ((r.levels ≡ dark) × (r.line.state ≡ Running None)) × Anew rs

abbrev There : ℕ → List SourceUniverse → Type 0
There u rows = (r : SourceUniverse) × (find (is_of u) rows ≡ Some r)

-- each number once
abbrev pub Once : List ℕ → Type 0
Once [] = ⊤
Once (u ∷ us) = (list_any (λ v. v == u) us ≡ false) × Once us

abbrev put : SourceUniverse → SourceUniverse → List SourceUniverse → List SourceUniverse → Bool → Bool → List SourceUniverse
put n r rs rest b c = cond b (row_in (Running None) r ∷ rs) (cond c (n ∷ r ∷ rs) (r ∷ rest))

anew_by : (n r : SourceUniverse) (rs rest : List SourceUniverse) (b c : Bool) → n.levels ≡ dark → n.line.state ≡ Running None → Anew (r ∷ rs) → Anew rest → Anew (put n r rs rest b c)
anew_by n r rs rest true c levels state all more = ((all.0.0, refl), all.1)
anew_by n r rs rest false true levels state all more = ((levels, state), all)
anew_by n r rs rest false false levels state all more = (all.0, more)

anew_with : (n : SourceUniverse) (rows : List SourceUniverse) → n.levels ≡ dark → n.line.state ≡ Running None → Anew rows → Anew (with_universe n rows)
anew_with n [] levels state all = ((levels, state), tt)
anew_with n (r ∷ rs) levels state all = anew_by n r rs (with_universe n rs) (n.line.universe == r.line.universe) (nat_lt n.line.universe r.line.universe) levels state all (anew_with n rs levels state all.1)

-- ---- what is there stays there, and what is added is there

at_front : (u : ℕ) (r : SourceUniverse) (rows : List SourceUniverse) → (r.line.universe == u) ≡ true → There u (r ∷ rows)
at_front u r rows is = (r, ap (λ (b : Bool). cond b (Some r) (find (is_of u) rows)) is)

behind : (u : ℕ) (r : SourceUniverse) (rows : List SourceUniverse) → There u rows → There u (r ∷ rows)
behind u r rows there = by (r.line.universe == u)
  where
    by : (b : Bool) → (s : SourceUniverse) × (cond b (Some r) (find (is_of u) rows) ≡ Some s)
    by true = (r, refl)
    by false = there

-- of a first and others
front_or : (u : ℕ) (r : SourceUniverse) (rs : List SourceUniverse) → There u (r ∷ rs) → (b : Bool) → (r.line.universe == u) ≡ b → cond b ⊤ (There u rs)
front_or u r rs there true is = tt
front_or u r rs there false is = (there.0, sym (ap (λ (b : Bool). cond b (Some r) (find (is_of u) rs)) is) ∙ there.1)

stays_by : (u : ℕ) (n r : SourceUniverse) (rs rest : List SourceUniverse) (b c : Bool) → There u (r ∷ rs) → (There u rs → There u rest) → There u (put n r rs rest b c)
stays_by u n r rs rest true c there later = by (r.line.universe == u) refl
  where
    by : (e : Bool) → (r.line.universe == u) ≡ e → There u (row_in (Running None) r ∷ rs)
    by true is = at_front u (row_in (Running None) r) rs is
    by false is = behind u (row_in (Running None) r) rs (front_or u r rs there false is)
stays_by u n r rs rest false true there later = behind u n (r ∷ rs) there
stays_by u n r rs rest false false there later = by (r.line.universe == u) refl
  where
    by : (e : Bool) → (r.line.universe == u) ≡ e → There u (r ∷ rest)
    by true is = at_front u r rest is
    by false is = behind u r rest (later (front_or u r rs there false is))

stays : (u : ℕ) (n : SourceUniverse) (rows : List SourceUniverse) → There u rows → There u (with_universe n rows)
stays u n [] there = absurd (let e = there.1 in cc)
stays u n (r ∷ rs) there = stays_by u n r rs (with_universe n rs) (n.line.universe == r.line.universe) (nat_lt n.line.universe r.line.universe) there (stays u n rs)

same_twice : (a b : ℕ) → (a == b) ≡ true → (b == a) ≡ true
same_twice a b e = grind (arith, nat_tests)

itself : (a : ℕ) → (a == a) ≡ true
itself a = grind (arith, nat_tests)

comes_by : (n r : SourceUniverse) (rs rest : List SourceUniverse) (b c : Bool) → (n.line.universe == r.line.universe) ≡ b → There n.line.universe rest → There n.line.universe (put n r rs rest b c)
comes_by n r rs rest true c is later = at_front n.line.universe (row_in (Running None) r) rs (same_twice n.line.universe r.line.universe is)
comes_by n r rs rest false true is later = at_front n.line.universe n (r ∷ rs) (itself n.line.universe)
comes_by n r rs rest false false is later = behind n.line.universe r rest later

comes : (n : SourceUniverse) (rows : List SourceUniverse) → There n.line.universe (with_universe n rows)
comes n [] = at_front n.line.universe n [] (itself n.line.universe)
comes n (r ∷ rs) = comes_by n r rs (with_universe n rs) (n.line.universe == r.line.universe) (nat_lt n.line.universe r.line.universe) refl (comes n rs)

-- ---- an accepted universe was not there

runs : (u : ℕ) (rows : List SourceUniverse) (r : SourceUniverse) → Anew rows → find (is_of u) rows ≡ Some r → r.line.state ≡ Running None
runs u [] r all is = absurd (cc)
runs u (s ∷ rs) r all is =
    elim (s.line.universe == u) as (λ b. cond b (Some s) (find (is_of u) rs) ≡ Some r → r.line.state ≡ Running None) [
      | true ↦ λ e. let same : s ≡ r = cc in sym (ap (λ (x : SourceUniverse). x.line.state) same) ∙ all.0.1
      | false ↦ λ e. runs u rs r all.1 e
    ] is

dark_there : (u : ℕ) (rows : List SourceUniverse) → Anew rows → There u rows → levels_in u rows ≡ Some dark
dark_there u [] all there = absurd (let e = there.1 in cc)
dark_there u (s ∷ rs) all there = by (s.line.universe == u) refl (dark_there u rs all.1)
  where
    by : (b : Bool) → (s.line.universe == u) ≡ b → (There u rs → levels_in u rs ≡ Some dark) → option_map (λ (r : SourceUniverse). r.levels) (cond b (Some s) (find (is_of u) rs)) ≡ Some dark
    by true is rest = ap (λ (l : List ℕ). Some l) all.0.0
    by false is rest = rest (front_or u s rs there false is)

refused_there : (t : Table) (in_range : Bool) (r : SourceUniverse) (s : State) → r.line.state ≡ s → s ≡ Running None → cond in_range (add_by t (Some r)) (Err fault.BadUniverse) ≡ Ok tt → ⊥
refused_there t false r s e f ok = absurd (cc)
refused_there t true r s e f ok = absurd (let g : add_answer r.line.state ≡ Err fault.Running = ap add_answer (e ∙ f) in cc)

new_here : (v : ℕ) (t : Table) → Anew t.rows → answer (Add v) t ≡ Ok tt → There v t.rows → ⊥
unfolding answer
new_here v t all ok there =
    refused_there t (nat_le 1 v && nat_le v 63999) there.0 there.0.line.state refl (runs v t.rows there.0 all there.1)
    (sym (ap (λ (o : Option SourceUniverse). cond (nat_le 1 v && nat_le v 63999) (add_by t o) (Err fault.BadUniverse)) there.1) ∙ ok)

accepted : (first : Result (Unit {0}) SourceFault) (later : Result (Unit {0}) SourceFault) → then_add first later ≡ Ok tt → (first ≡ Ok tt) × (later ≡ Ok tt)
accepted (Ok x) later ok = (refl, ok)
accepted (Err e) later ok = absurd (cc)

-- the rows after an accepted universe
after_add : (v : ℕ) (c : Source) → answer (Add v) c.table ≡ Ok tt → (after_order (Add v) c).table.rows ≡ with_universe (new_row c.first c.sender.priority v) c.table.rows
after_add v c ok = ap (λ (a : Result (Unit {0}) SourceFault). (taken c.first c.sender.priority (Add v) a c.table).rows) ok

module _ (v : ℕ) (c : Source) (ok : answer (Add v) c.table ≡ Ok tt) where
  anew_after : Anew c.table.rows → Anew (after_order (Add v) c).table.rows
  anew_after all = rw (after_add v c ok) (anew_with (new_row c.first c.sender.priority v) c.table.rows refl refl all)

  stays_after : (u : ℕ) → There u c.table.rows → There u (after_order (Add v) c).table.rows
  stays_after u there = rw (after_add v c ok) (stays u (new_row c.first c.sender.priority v) c.table.rows there)

  comes_after : There v (after_order (Add v) c).table.rows
  comes_after = rw (after_add v c ok) (comes (new_row c.first c.sender.priority v) c.table.rows)

-- ---- all in turn

same_number : (a b : ℕ) → (a == b) ≡ true → a ≡ b
same_number a b e = grind arith

-- what is there is not added again
not_again : (us : List ℕ) (u : ℕ) (c : Source) → Anew c.table.rows → add_all us c ≡ Ok tt → There u c.table.rows → list_any (λ v. v == u) us ≡ false
not_again [] u c all ok there = refl
not_again (v ∷ us) u c all ok there =
    let both = accepted (answer (Add v) c.table) (add_all us (after_order (Add v) c)) ok in
    by both.0 (v == u) refl (not_again us u (after_order (Add v) c) (anew_after v c both.0 all) both.1 (stays_after v c both.0 u there))
  where
    by : answer (Add v) c.table ≡ Ok tt → (b : Bool) → (v == u) ≡ b → list_any (λ v. v == u) us ≡ false → (b || list_any (λ v. v == u) us) ≡ false
    by ok_first true is rest = absurd (new_here v c.table all ok_first (rw (same_number v u is) there))
    by ok_first false is rest = rest

-- each is named once
pub named_once : (us : List ℕ) (c : Source) → Anew c.table.rows → add_all us c ≡ Ok tt → Once us
named_once [] c all ok = tt
named_once (v ∷ us) c all ok =
    let both = accepted (answer (Add v) c.table) (add_all us (after_order (Add v) c)) ok in (
      not_again us v (after_order (Add v) c) (anew_after v c both.0 all) both.1 (comes_after v c both.0),
      named_once us (after_order (Add v) c) (anew_after v c both.0 all) both.1,
    )

stays_all : (us : List ℕ) (u : ℕ) (c : Source) → add_all us c ≡ Ok tt → There u c.table.rows → There u (after_adds us c).table.rows
stays_all [] u c ok there = there
stays_all (v ∷ us) u c ok there =
    let both = accepted (answer (Add v) c.table) (add_all us (after_order (Add v) c)) ok in
    stays_all us u (after_order (Add v) c) both.1 (stays_after v c both.0 u there)

comes_all : (us : List ℕ) (u : ℕ) (c : Source) → add_all us c ≡ Ok tt → list_any (λ v. v == u) us ≡ true → There u (after_adds us c).table.rows
comes_all [] u c ok named = absurd (cc)
comes_all (v ∷ us) u c ok named =
    let both = accepted (answer (Add v) c.table) (add_all us (after_order (Add v) c)) ok in
    by both.0 both.1 (v == u) refl named (comes_all us u (after_order (Add v) c) both.1)
  where
    by : answer (Add v) c.table ≡ Ok tt → add_all us (after_order (Add v) c) ≡ Ok tt → (b : Bool) → (v == u) ≡ b → (b || list_any (λ v. v == u) us) ≡ true
        → (list_any (λ v. v == u) us ≡ true → There u (after_adds us (after_order (Add v) c)).table.rows) → There u (after_adds us (after_order (Add v) c)).table.rows
    by ok_first later true is h rest = stays_all us u (after_order (Add v) c) later (rw (sym (same_number v u is)) (comes_after v c ok_first))
    by ok_first later false is h rest = rest h

anew_all : (us : List ℕ) (c : Source) → Anew c.table.rows → add_all us c ≡ Ok tt → Anew (after_adds us c).table.rows
anew_all [] c all ok = all
anew_all (v ∷ us) c all ok =
    let both = accepted (answer (Add v) c.table) (add_all us (after_order (Add v) c)) ok in
    anew_all us (after_order (Add v) c) (anew_after v c both.0 all) both.1

-- a universe that was added is dark
pub dark_first : (us : List ℕ) (u : ℕ) (c : Source) → Anew c.table.rows → add_all us c ≡ Ok tt → list_any (λ v. v == u) us ≡ true → levels_on u (after_adds us c) ≡ Some dark
dark_first us u c all ok named = dark_there u (after_adds us c).table.rows (anew_all us c all ok) (comes_all us u c ok named)

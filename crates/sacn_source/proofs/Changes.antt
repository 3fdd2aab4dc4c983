-- A row that changes, where no two have one universe.
use Rattle.std.proofs.Common.{◌≡◌, ℕ, ◌<◌, true, false, ◌==◌, List, [], ◌∷◌, length, get_or, slice_index_or, slice_set, map, find, Some, suc, zero, refl, arith, ap, ◌∙◌}
use Rattle.std.specs.List.{AllByRecursion}
use Rattle.std.proofs.lemmas.List.{get_or_read, length-set}
use Rattle.std.proofs.Math.Seq.{map-set_same}
use Rattle.std.proofs.lemmas.Bool.Decides.{nat_tests}
use Rattle.sacn_packets.specs.Universe.{Rising}
use Rattle.sacn_source.specs.declared.source_universe.SourceUniverse.{SourceUniverse}
use Rattle.sacn_source.specs.Table.{Table, TableOk, RowOk, universes_of, is_of, row_at, no_row, on, changed}

neqb : (a b : ℕ) → a < b → (b == a) ≡ false
neqb a b lt = grind (arith, nat_tests)

pub neqb_above : (a b : ℕ) → a < b → (a == b) ≡ false
neqb_above a b lt = grind (arith, nat_tests)

pub eqb_self : (a : ℕ) → (a == a) ≡ true
eqb_self a = grind (arith, nat_tests)

none_on : (u : ℕ) (f : SourceUniverse → SourceUniverse) (xs : List SourceUniverse) → AllByRecursion (λ y. u < y) (universes_of xs) → map (on u f) xs ≡ xs
none_on u f [] below = refl
none_on u f (x ∷ xs) below = rw (neqb u x.line.universe below.0, none_on u f xs below.1) refl

pub below_all : (x : ℕ) (xs : List SourceUniverse) (i : ℕ) (d : SourceUniverse) → AllByRecursion (λ y. x < y) (universes_of xs) → i < length xs → x < (get_or xs i d).line.universe
below_all x [] i d below lt = absurd (omega arith)
below_all x (y ∷ ys) zero d below lt = below.0
below_all x (y ∷ ys) (suc i) d below lt = below_all x ys i d below.1 (omega arith)

-- one row written is one universe changed
one_on : (f : SourceUniverse → SourceUniverse) (xs : List SourceUniverse) (i : ℕ) (d : SourceUniverse) → Rising (universes_of xs) → i < length xs → slice_set xs i (f (get_or xs i d)) ≡ map (on (get_or xs i d).line.universe f) xs
one_on f [] i d rising lt = absurd (omega arith)
one_on f (x ∷ xs) zero d rising lt = rw (eqb_self x.line.universe, none_on x.line.universe f xs rising.0) refl
one_on f (x ∷ xs) (suc i) d rising lt =
    let above = below_all x.line.universe xs i d rising.0 (omega arith) in
    rw (neqb_above x.line.universe (get_or xs i d).line.universe above, ← one_on f xs i d rising.1 (omega arith)) refl

pub all_at : (P : SourceUniverse → Type 0) (xs : List SourceUniverse) (i : ℕ) (d : SourceUniverse) → AllByRecursion P xs → i < length xs → P (get_or xs i d)
all_at P [] i d all lt = absurd (omega arith)
all_at P (x ∷ xs) zero d all lt = all.0
all_at P (x ∷ xs) (suc i) d all lt = all_at P xs i d all.1 (omega arith)

all_set : (P : SourceUniverse → Type 0) (xs : List SourceUniverse) (i : ℕ) (y : SourceUniverse) → AllByRecursion P xs → P y → AllByRecursion P (slice_set xs i y)
all_set P [] i y all h = tt
all_set P (x ∷ xs) zero y all h = (h, all.1)
all_set P (x ∷ xs) (suc i) y all h = (all.0, all_set P xs i y all.1 h)

-- the table after the row at place i was written: v is what c is seen to be, x the row that was read, y the one written
pub table_changed : (v c : Table) (i : ℕ) (f : SourceUniverse → SourceUniverse) (x y : SourceUniverse) → v ≡ c → TableOk v → i < length c.rows → x ≡ slice_index_or v.rows i x → y ≡ f x →
    record v { rows = slice_set v.rows i y } ≡ changed i f c
table_changed v c i f x y e ok lt is ye =
    let lt2 : i < length v.rows = rw e lt in
    let here : x ≡ row_at v i = get_or_read v.rows i x lt2 is no_row in
    let one = one_on f v.rows i no_row ok.rising lt2 in
    let y2 : y ≡ f (row_at v i) = rw (← here) ye in
    rw (← e, y2) (ap (λ (rs : List SourceUniverse). record v { rows = rs }) one)

pub table_set : (v c : Table) (i : ℕ) (f : SourceUniverse → SourceUniverse) (x y : SourceUniverse) → v ≡ c → i < length c.rows → x ≡ slice_index_or v.rows i x → y ≡ f x →
    record v { rows = slice_set v.rows i y } ≡ record { room = c.room; rows = slice_set c.rows i (f (row_at c i)) }
table_set v c i f x y e lt is ye =
    let lt2 : i < length v.rows = rw e lt in
    let here : x ≡ row_at v i = get_or_read v.rows i x lt2 is no_row in
    rw (← e) (ap (λ (r : SourceUniverse). record v { rows = slice_set v.rows i r }) (ye ∙ ap f here))

-- a row that keeps its universe
pub ok_changed : (v c : Table) (i : ℕ) (x y : SourceUniverse) → v ≡ c → TableOk v → i < length c.rows → x ≡ slice_index_or v.rows i x → y.line.universe ≡ x.line.universe → (RowOk x → RowOk y) → TableOk (record v { rows = slice_set v.rows i y })
ok_changed v c i x y e ok lt is ue h =
    let lt2 : i < length v.rows = rw e lt in
    let u : y.line.universe ≡ (get_or v.rows i x).line.universe = ue ∙ ap (λ (r : SourceUniverse). r.line.universe) is in
    let same : universes_of (slice_set v.rows i y) ≡ universes_of v.rows = map-set_same (λ (r : SourceUniverse). r.line.universe) v.rows i y x u in
    let its : RowOk x = rw is (all_at RowOk v.rows i x ok.all lt2) in
    record {
      rising = rw same ok.rising;
      all = all_set RowOk v.rows i y ok.all (h its);
      few = rw (length-set v.rows i y) ok.few;
      room = ok.room;
    }

-- ---- searches

pub find_at : (u : ℕ) (xs : List SourceUniverse) (i : ℕ) (d : SourceUniverse) → Rising (universes_of xs) → i < length xs → (get_or xs i d).line.universe ≡ u → find (is_of u) xs ≡ Some (get_or xs i d)
find_at u [] i d rising lt e = absurd (omega arith)
find_at u (x ∷ xs) zero d rising lt e = rw (e, eqb_self u) refl
find_at u (x ∷ xs) (suc i) d rising lt e =
    let above : x.line.universe < u = rw e at (below_all x.line.universe xs i d rising.0 (omega arith)) in
    rw (neqb_above x.line.universe u above) (find_at u xs i d rising.1 (omega arith) e)

-- Where a universe is among rising ones, or where it would go.
use Rattle.std.proofs.Common.{◌≡◌, ℕ, ◌-◌, ◌+◌, ◌<◌, ◌≤◌, Bool, true, false, ◌==◌, nat_lt, if◌then◌else◌, List, [], ◌∷◌, length, get_or, find, None, Some, slice_index_or, Result, Ok, Err, IfOk, IfErr, suc, zero, refl, arith, ap, sym}
use Rattle.std.specs.List.{insert, AllByRecursion}
use Rattle.std.specs.List.Sorted.{IsSearchInRange, IsBinarySearchResult, IsNonDecreasingBy}
use Rattle.std.specs.declared.cmp.Ordering.TheVariants.{Less, Equal, Greater}
use Rattle.std.specs.Ordering.{nat_cmp, ordering_index}
use Rattle.std.proofs.lemmas.Bool.Decides.{nat_tests}
use Rattle.std.proofs.lemmas.Cmp.{ranked}
use Rattle.std.proofs.lemmas.List.{get_or_read}
use Rattle.sacn_packets.specs.Universe.{Rising}
use Rattle.sacn_console.specs.declared.line.State.TheVariants.{Running}
use Rattle.sacn_source.specs.declared.source_universe.SourceUniverse.{SourceUniverse}
use Rattle.sacn_source.specs.Rows.{row_in}
use Rattle.sacn_source.specs.Table.{Table, TableOk, RowOk, universes_of, is_of, row_at, no_row, with_universe}
use Rattle.sacn_source.proofs.Changes.{below_all, find_at}
use Rattle.sacn_source.proofs.RowLemmas.{in_ok}

other : (a b : ℕ) → a < b → (a == b) ≡ false
other a b lt = grind (arith, nat_tests)

other_above : (a b : ℕ) → b < a → (a == b) ≡ false
other_above a b lt = grind (arith, nat_tests)

lt_true : (a b : ℕ) → a < b → nat_lt a b ≡ true
lt_true a b lt = grind (arith, nat_tests)

lt_false : (a b : ℕ) → b < a → nat_lt a b ≡ false
lt_false a b lt = grind (arith, nat_tests)

is_lt : (a b : ℕ) → nat_lt a b ≡ true → a < b
is_lt a b h = grind (arith, nat_tests)

is_above : (a b : ℕ) → (a == b) ≡ false → nat_lt a b ≡ false → b < a
is_above a b h g = grind (arith, nat_tests)

-- the rows before place i are of lower universes, and those from it on of higher ones
abbrev pub Apart : ℕ → List SourceUniverse → ℕ → Type 0
Apart u rs i = (j : ℕ) (d : SourceUniverse) → j < length rs → (j < i → (get_or rs j d).line.universe < u) × (i ≤ j → u < (get_or rs j d).line.universe)

not_here : (u : ℕ) (r : SourceUniverse) (rs : List SourceUniverse) (i : ℕ) → Apart u (r ∷ rs) i → (r.line.universe == u) ≡ false
not_here u r rs zero apart = other_above r.line.universe u ((apart 0 r (omega arith)).1 (omega arith))
not_here u r rs (suc i) apart = other r.line.universe u ((apart 0 r (omega arith)).0 (omega arith))

later : (u : ℕ) (r : SourceUniverse) (rs : List SourceUniverse) (i : ℕ) → Apart u (r ∷ rs) i → Apart u rs (i - 1)
later u r rs i apart j d lt =
    let there = apart (suc j) d (omega (arith, lt)) in
    (λ below. there.0 (omega (arith, below)), λ above. there.1 (omega (arith, above)))

later_of : (u : ℕ) (r : SourceUniverse) (rs : List SourceUniverse) (i : ℕ) → Apart u (r ∷ rs) (suc i) → Apart u rs i
later_of u r rs i apart j d lt =
    let there = apart (suc j) d (omega (arith, lt)) in
    (λ below. there.0 (omega (arith, below)), λ above. there.1 (omega (arith, above)))

none_of : (u : ℕ) (rs : List SourceUniverse) (i : ℕ) → Apart u rs i → find (is_of u) rs ≡ None
none_of u [] i apart = refl
none_of u (r ∷ rs) i apart = rw (not_here u r rs i apart) (none_of u rs (i - 1) (later u r rs i apart))

gap_of : (u : ℕ) (rs : List SourceUniverse) (i : ℕ) (n : SourceUniverse) → Apart u rs i → i ≤ length rs → n.line.universe ≡ u → insert rs i n ≡ with_universe n rs
gap_of u [] zero n apart le e = refl
gap_of u [] (suc i) n apart le e = absurd (omega (arith, le))
gap_of u (r ∷ rs) zero n apart le e =
    let more : n.line.universe < r.line.universe = (let h = (apart 0 r (omega arith)).1 (omega arith) in omega (arith, e, h)) in
    rw (other n.line.universe r.line.universe more, lt_true n.line.universe r.line.universe more) refl
gap_of u (r ∷ rs) (suc i) n apart le e =
    let less : r.line.universe < n.line.universe = (let h = (apart 0 r (omega arith)).0 (omega arith) in omega (arith, e, h)) in
    rw (other_above n.line.universe r.line.universe less, lt_false n.line.universe r.line.universe less) (ap (λ (xs : List SourceUniverse). r ∷ xs) (gap_of u rs i n (later_of u r rs i apart) (omega (arith, le)) e))

not_less : (rs : List SourceUniverse) → Rising (universes_of rs) → (i j : ℕ) (d : SourceUniverse) → i ≤ j → j < length rs → (get_or rs i d).line.universe ≤ (get_or rs j d).line.universe
not_less [] rising i j d le lt = absurd (omega (arith, lt))
not_less (r ∷ rs) rising zero zero d le lt = omega arith
not_less (r ∷ rs) rising zero (suc j) d le lt = let b = below_all r.line.universe rs j d rising.0 (omega (arith, lt)) in omega (arith, b)
not_less (r ∷ rs) rising (suc i) zero d le lt = absurd (omega (arith, le))
not_less (r ∷ rs) rising (suc i) (suc j) d le lt = not_less rs rising.1 i j d (omega (arith, le)) (omega (arith, lt))

higher : (u a b : ℕ) → a ≤ b → ordering_index (nat_cmp a u) ≤ ordering_index (nat_cmp b u)
higher u a b le = grind (arith, nat_tests)

-- what a binary search says
pub found : (rs : List SourceUniverse) (u : ℕ) → Rising (universes_of rs) → (r : Result ℕ ℕ) → IsSearchInRange r (length rs) → IsBinarySearchResult (λ (x : SourceUniverse). nat_cmp x.line.universe u) rs r →
    IfOk r (λ i. (i < length rs) × (find (is_of u) rs ≡ Some (get_or rs i no_row)) × ((get_or rs i no_row).line.universe ≡ u))
found rs u rising (Err i) in_range parted = tt
found rs u rising (Ok i) in_range equal =
    let here : (get_or rs i no_row).line.universe ≡ u = ranked (get_or rs i no_row).line.universe u Equal (sym (equal no_row)) in
    (in_range, find_at u rs i no_row rising in_range here, here)

pub absent : (rs : List SourceUniverse) (u : ℕ) → Rising (universes_of rs) → (r : Result ℕ ℕ) → IsSearchInRange r (length rs) → IsBinarySearchResult (λ (x : SourceUniverse). nat_cmp x.line.universe u) rs r →
    IfErr r (λ i. (i ≤ length rs) × (find (is_of u) rs ≡ None) × ((n : SourceUniverse) → n.line.universe ≡ u → insert rs i n ≡ with_universe n rs))
absent rs u rising (Ok i) in_range equal = tt
absent rs u rising (Err i) in_range parted =
    let rise : IsNonDecreasingBy (λ (x : SourceUniverse). ordering_index (nat_cmp x.line.universe u)) rs = λ i j d le within. higher u (get_or rs i d).line.universe (get_or rs j d).line.universe (not_less rs rising i j d le within) in
    let apart : Apart u rs i = λ j d lt. (
      (λ below. let less : (get_or rs j d).line.universe < u = ranked (get_or rs j d).line.universe u Less (sym ((parted rise).0 j d (omega arith) below)) in less),
      (λ above. let more : u < (get_or rs j d).line.universe = ranked (get_or rs j d).line.universe u Greater (sym ((parted rise).1 j d above lt)) in more),
    ) in
    (in_range, none_of u rs i apart, λ n e. gap_of u rs i n apart in_range e)

-- ---- a universe more

above_more : (a b : ℕ) (xs : List ℕ) → a < b → AllByRecursion (λ y. b < y) xs → AllByRecursion (λ y. a < y) xs
above_more a b [] lt all = tt
above_more a b (x ∷ xs) lt all = (let h = all.0 in omega (arith, lt, h), above_more a b xs lt all.1)

abbrev put : SourceUniverse → SourceUniverse → List SourceUniverse → List SourceUniverse → Bool → Bool → List SourceUniverse
put n r rs rest b c = if b then row_in (Running None) r ∷ rs else (if c then n ∷ r ∷ rs else r ∷ rest)

above_by : (x : ℕ) (n r : SourceUniverse) (rs rest : List SourceUniverse) (b c : Bool) → x < n.line.universe → AllByRecursion (λ y. x < y) (universes_of (r ∷ rs)) → AllByRecursion (λ y. x < y) (universes_of rest) → AllByRecursion (λ y. x < y) (universes_of (put n r rs rest b c))
above_by x n r rs rest true c lt all more = (all.0, all.1)
above_by x n r rs rest false true lt all more = (lt, all)
above_by x n r rs rest false false lt all more = (all.0, more)

above_with : (x : ℕ) (n : SourceUniverse) (rs : List SourceUniverse) → x < n.line.universe → AllByRecursion (λ y. x < y) (universes_of rs) → AllByRecursion (λ y. x < y) (universes_of (with_universe n rs))
above_with x n [] lt all = (lt, tt)
above_with x n (r ∷ rs) lt all = above_by x n r rs (with_universe n rs) (n.line.universe == r.line.universe) (nat_lt n.line.universe r.line.universe) lt all (above_with x n rs lt all.1)

rising_by : (n r : SourceUniverse) (rs rest : List SourceUniverse) (b c : Bool) → (n.line.universe == r.line.universe) ≡ b → nat_lt n.line.universe r.line.universe ≡ c → Rising (universes_of (r ∷ rs)) → Rising (universes_of rest) →
    (r.line.universe < n.line.universe → AllByRecursion (λ y. r.line.universe < y) (universes_of rest)) → Rising (universes_of (put n r rs rest b c))
rising_by n r rs rest true c e f rising more above = (rising.0, rising.1)
rising_by n r rs rest false true e f rising more above =
    let lt = is_lt n.line.universe r.line.universe f in
    ((lt, above_more n.line.universe r.line.universe (universes_of rs) lt rising.0), rising)
rising_by n r rs rest false false e f rising more above = (above (is_above n.line.universe r.line.universe e f), more)

with_rising : (n : SourceUniverse) (rs : List SourceUniverse) → Rising (universes_of rs) → Rising (universes_of (with_universe n rs))
with_rising n [] rising = (tt, tt)
with_rising n (r ∷ rs) rising =
    rising_by n r rs (with_universe n rs) (n.line.universe == r.line.universe) (nat_lt n.line.universe r.line.universe) refl refl rising (with_rising n rs rising.1) (λ lt. above_with r.line.universe n rs lt rising.0)

all_by : (n r : SourceUniverse) (rs rest : List SourceUniverse) (b c : Bool) → RowOk n → AllByRecursion RowOk (r ∷ rs) → AllByRecursion RowOk rest → AllByRecursion RowOk (put n r rs rest b c)
all_by n r rs rest true c ok all more = (in_ok (Running None) r all.0, all.1)
all_by n r rs rest false true ok all more = (ok, all)
all_by n r rs rest false false ok all more = (all.0, more)

with_all : (n : SourceUniverse) (rs : List SourceUniverse) → RowOk n → AllByRecursion RowOk rs → AllByRecursion RowOk (with_universe n rs)
with_all n [] ok all = (ok, tt)
with_all n (r ∷ rs) ok all = all_by n r rs (with_universe n rs) (n.line.universe == r.line.universe) (nat_lt n.line.universe r.line.universe) ok all (with_all n rs ok all.1)

len_by : (n r : SourceUniverse) (rs rest : List SourceUniverse) (b c : Bool) → length rest ≤ length rs + 1 → length (put n r rs rest b c) ≤ length (r ∷ rs) + 1
len_by n r rs rest true c le = omega arith
len_by n r rs rest false true le = omega arith
len_by n r rs rest false false le = omega (arith, le)

with_len : (n : SourceUniverse) (rs : List SourceUniverse) → length (with_universe n rs) ≤ length rs + 1
with_len n [] = omega arith
with_len n (r ∷ rs) = len_by n r rs (with_universe n rs) (n.line.universe == r.line.universe) (nat_lt n.line.universe r.line.universe) (with_len n rs)

-- a table with a universe more: v is what c is seen to be
pub ok_admitted : (v c : Table) (n : SourceUniverse) (rows : List SourceUniverse) → v ≡ c → TableOk v → RowOk n → length c.rows < c.room → rows ≡ with_universe n c.rows → TableOk (record v { rows = rows })
ok_admitted v c n rows is ok its lt e =
    let lt2 : length v.rows < v.room = rw is lt in
    let e2 : rows ≡ with_universe n v.rows = rw is e in
    rw e2 (record {
      rising = with_rising n v.rows ok.rising;
      all = with_all n v.rows its ok.all;
      few = let l = with_len n v.rows in omega (arith, l, lt2);
      room = ok.room;
    })

pub gap_read : (v c : Table) (n : SourceUniverse) (rows : List SourceUniverse) → v ≡ c → rows ≡ with_universe n c.rows → record v { rows = rows } ≡ record { room = c.room; rows = with_universe n c.rows }
gap_read v c n rows is e = λ i. record { room = (is i).room; rows = e i }

-- a row that was read at a place: v is what c is seen to be
pub read_there : (v c : Table) (u i : ℕ) (x : SourceUniverse) → v ≡ c → TableOk v → i < length v.rows → x ≡ slice_index_or v.rows i x → x.line.universe ≡ u →
    (i < length c.rows) × (find (is_of u) c.rows ≡ Some (row_at c i)) × ((row_at c i).line.universe ≡ u)
read_there v c u i x is ok lt read e =
    let here : x ≡ get_or v.rows i no_row = get_or_read v.rows i x lt read no_row in
    let its : (get_or v.rows i no_row).line.universe ≡ u = rw (← here) e in
    rw (← is) (lt, find_at u v.rows i no_row ok.rising lt its, its)

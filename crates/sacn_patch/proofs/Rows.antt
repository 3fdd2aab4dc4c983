-- A universe's part of a sorted row.
use Rattle.std.proofs.Common.{◌≡◌, ℕ, suc, zero, ◌+◌, ◌<◌, ◌≤◌, true, false, not, ◌&&◌, ◌==◌, nat_le, List, [], ◌∷◌, length, get_or, drop, drop-cons, add-one, replicate, refl, sym, ap, ◌∙◌, arith}
use Rattle.std.specs.List.{AllByRecursion}
use Rattle.std.specs.List.Sorted.{IsStrictlySortedBy}
use Rattle.std.specs.Ordering.{nat_cmp, is_le, is_lt, ordering_then}
use Rattle.std.specs.declared.cmp.Ordering.{Ordering}
use Rattle.std.specs.declared.cmp.Ordering.TheVariants.{Less, Equal, Greater}
use Rattle.std.specs.declared.ops.Bound.TheVariants.{Included}
use Rattle.std.specs.BTreeMap.Range.{range_contains}
use Rattle.std.specs.Map.{keys_of}
use Rattle.std.specs.FinMap.{from_entries}
use Rattle.std.proofs.lemmas.Bool.Decides.{nat_tests}
use Rattle.std.proofs.lemmas.Cmp.{ranked}
use Rattle.sacn_patch.specs.declared.part.Part.{Part}
use Rattle.sacn_patch.specs.Patch.{Place, place_cmp, universe_frame}
use Rattle.sacn_patch.specs.Flat.{Row, IsRowOfTree, AllBelow, AllFrom, is_within}
use Rattle.sacn_patch.proofs.Fills.{written, of_universe, frame_written}

-- ---- order

less_by : (o r : Ordering) (u v : ℕ) → nat_cmp u v ≡ o → ordering_then o r ≡ Less → u ≤ v
less_by Less r u v is less = let lt : u < v = ranked u v Less (sym is) in omega (arith, lt)
less_by Equal r u v is less = let e : u ≡ v = ranked u v Equal (sym is) in omega (arith, e)
less_by Greater r u v is less = absurd (cc)

not_higher : (x y : Place) → place_cmp x y ≡ Less → x.0 ≤ y.0
not_higher x y less = less_by (nat_cmp x.0 y.0) (nat_cmp x.1 y.1) x.0 y.0 refl less

head_lowest : (x : Place) (es : Row) → AllByRecursion (λ y. place_cmp x y ≡ Less) (keys_of es) → (j : ℕ) (d : Place × Part) → j < length es → x.0 ≤ (get_or es j d).0.0
head_lowest x [] all j d lt = absurd (omega arith)
head_lowest x (e ∷ es) all zero d lt = not_higher x e.0 all.0
head_lowest x (e ∷ es) all (suc j) d lt = head_lowest x es all.1 j d (omega (arith, lt))

ascends : (es : Row) → IsStrictlySortedBy place_cmp (keys_of es) → (i j : ℕ) (d e : Place × Part) → i ≤ j → j < length es → (get_or es i d).0.0 ≤ (get_or es j e).0.0
unfolding IsStrictlySortedBy
ascends [] sorted i j d e le lt = absurd (omega arith)
ascends (x ∷ es) sorted zero zero d e le lt = omega arith
ascends (x ∷ es) sorted zero (suc j) d e le lt = head_lowest x.0 es sorted.0 j e (omega (arith, lt))
ascends (x ∷ es) sorted (suc i) zero d e le lt = absurd (omega arith)
ascends (x ∷ es) sorted (suc i) (suc j) d e le lt = ascends es sorted.1 i j d e (omega (arith, le)) (omega (arith, lt))

keys_sorted : (row : Row) → IsRowOfTree row → IsStrictlySortedBy place_cmp (keys_of row)
keys_sorted row (m, is, ordered) = rw (sym is) ordered

lower_still : (a b u : ℕ) → a ≤ b → b < u → a < u
lower_still a b u le lt = omega (arith, le, lt)

higher_still : (a b u : ℕ) → a ≤ b → u ≤ a → u ≤ b
higher_still a b u le high = omega (arith, le, high)

-- what a look in the middle of the row tells
pub below_more : (universe middle : ℕ) (row : Row) (e : Place × Part) → IsRowOfTree row → middle < length row → (get_or row middle e).0.0 < universe → AllBelow universe row (middle + 1)
below_more universe middle row e sorted lt low = λ i d within _. lower_still (get_or row i d).0.0 (get_or row middle e).0.0 universe (ascends row (keys_sorted row sorted) i middle d e (omega (arith, within)) lt) low

-- and what it tells where the universe there is not lower
pub from_more : (universe middle : ℕ) (row : Row) (e : Place × Part) → IsRowOfTree row → universe ≤ (get_or row middle e).0.0 → AllFrom universe row middle
from_more universe middle row e sorted high = λ i d within lt. higher_still (get_or row middle e).0.0 (get_or row i d).0.0 universe (ascends row (keys_sorted row sorted) middle i e d within lt) high

-- ---- slots of the universe

range_by : (o : Ordering) (u v s : ℕ) → nat_cmp u v ≡ o → (is_le (ordering_then o (nat_cmp 1 s)) && not (is_lt (ordering_then o (nat_cmp 512 s)))) ≡ (v == u && (nat_le 1 s && nat_le s 512))
range_by Less u v s is = let lt : u < v = ranked u v Less (sym is) in grind (arith, nat_tests)
range_by Greater u v s is = let lt : v < u = ranked u v Greater (sym is) in grind (arith, nat_tests)
range_by Equal u v s is = let e : u ≡ v = ranked u v Equal (sym is) in grind (arith, nat_tests)

in_range_is : (u : ℕ) (k : Place) → range_contains place_cmp (Included (u, 1)) (Included (u, 512)) k ≡ is_within u k
in_range_is u k = range_by (nat_cmp u k.0) u k.0 k.1 refl

pub outside : (u : ℕ) (k : Place) → (k.0 == u) ≡ false → is_within u k ≡ false
outside u k e = rw e refl

lower_out : (v u : ℕ) → v < u → (v == u) ≡ false
lower_out v u lt = grind arith

pub higher_out : (v u : ℕ) → u < v → (v == u) ≡ false
higher_out v u lt = grind arith

pub skipped : (u : ℕ) (e : Place × Part) (es : Row) → is_within u e.0 ≡ false → of_universe u (e ∷ es) ≡ of_universe u es
skipped u e es out = rw (in_range_is u e.0, out) refl

taken : (u : ℕ) (e : Place × Part) (es : Row) → is_within u e.0 ≡ true → of_universe u (e ∷ es) ≡ e ∷ of_universe u es
taken u e es in_it = rw (in_range_is u e.0, in_it) refl

-- the entries before a place, of lower universes
pub skip_below : (u n : ℕ) (row : Row) → AllBelow u row n → of_universe u (drop n row) ≡ of_universe u row
skip_below u zero row low = refl
skip_below u (suc n) [] low = refl
skip_below u (suc n) (e ∷ es) low = skip_below u n es (λ i d lt within. low (suc i) d (omega (arith, lt)) (omega (arith, within))) ∙ sym (skipped u e es (outside u e.0 (lower_out e.0.0 u (low 0 e (omega arith) (omega arith)))))

above_all : (u : ℕ) (x : Place) (es : Row) → u < x.0 → AllByRecursion (λ y. place_cmp x y ≡ Less) (keys_of es) → of_universe u es ≡ []
above_all u x [] lt all = refl
above_all u x (e ∷ es) lt all =
    let le : x.0 ≤ e.0.0 = not_higher x e.0 all.0 in
    skipped u e es (outside u e.0 (higher_out e.0.0 u (omega (arith, le, lt)))) ∙ above_all u x es lt all.1

above_by : (u place : ℕ) (row : Row) (d : Place × Part) → IsStrictlySortedBy place_cmp (keys_of row) → place < length row → u < (get_or row place d).0.0 → of_universe u (drop place row) ≡ []
unfolding IsStrictlySortedBy
above_by u place [] d sorted lt high = absurd (omega arith)
above_by u zero (e ∷ es) d sorted lt high = skipped u e es (outside u e.0 (higher_out e.0.0 u high)) ∙ above_all u e.0 es high sorted.0
above_by u (suc place) (e ∷ es) d sorted lt high = above_by u place es d sorted.1 (omega (arith, lt)) high

-- from an entry of a higher universe on, none is of this one
pub none_above : (u place : ℕ) (row : Row) (d : Place × Part) → IsRowOfTree row → place < length row → u < (get_or row place d).0.0 → of_universe u (drop place row) ≡ []
none_above u place row d sorted lt high = above_by u place row d (keys_sorted row sorted) lt high

pub step_skipped : (u place : ℕ) (row : Row) (d : Place × Part) → place < length row → is_within u (get_or row place d).0 ≡ false → of_universe u (drop (place + 1) row) ≡ of_universe u (drop place row)
step_skipped u place row d lt out = sym (rw (add-one, drop-cons row place d lt) (skipped u (get_or row place d) (drop (suc place) row) out))

pub step_taken : (u place : ℕ) (row : Row) (d : Place × Part) → place < length row → is_within u (get_or row place d).0 ≡ true → of_universe u (drop place row) ≡ get_or row place d ∷ of_universe u (drop (place + 1) row)
step_taken u place row d lt in_it = rw (add-one, drop-cons row place d lt) (taken u (get_or row place d) (drop (suc place) row) in_it)

none_left : (row : Row) (n : ℕ) → length row ≤ n → drop n row ≡ []
none_left [] zero le = refl
none_left [] (suc n) le = refl
none_left (e ∷ es) zero le = absurd (omega arith)
none_left (e ∷ es) (suc n) le = none_left es n (omega arith)

pub none_after : (u place : ℕ) (row : Row) → length row ≤ place → of_universe u (drop place row) ≡ []
none_after u place row le = ap (of_universe u) (none_left row place le)

-- what is left is nothing: the frame is written
pub row_written : (level : ℕ → ℕ) (u : ℕ) (row left : Row) (slots : List ℕ) → IsRowOfTree row → written level left slots ≡ written level (of_universe u row) (replicate 512 0) → left ≡ [] → slots ≡ universe_frame level (from_entries row) u
row_written level u row left slots (m, is, ordered) told none =
    (rw none at told) ∙ rw (sym is) (frame_written level m u ordered)

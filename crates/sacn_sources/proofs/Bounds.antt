-- The moment in use is the greatest, the rows rise, and there are few of them.
use Rattle.std.proofs.Common.{◌≡◌, ℕ, zero, suc, ◌+◌, ◌<◌, ◌≤◌, inl, inr, max, nat_lt, Bool, true, false, cond, T, List, [], ◌∷◌, length, map, get_or, AllPairs, Option, Some, None, is_some, refl, sym, ap, subst, ◌∙◌, arith}
use Rattle.std.specs.Ordering.{is_lt}
use Rattle.std.specs.declared.cmp.Ordering.TheVariants.{Less}
use Rattle.std.specs.FinMap.{get, len, insert, entries, entries_sorted, is_sorted, len-entries, len-empty, len-insert}
use Rattle.std.specs.FinMap.Entries.{below_all}
use Rattle.std.proofs.lemmas.Bool.{cases_lt}
use Rattle.std.proofs.lemmas.Bool.Decides.{nat_tests}
use Rattle.std.proofs.lemmas.List.{get_or-map}
use Rattle.std.proofs.lemmas.List.Elements.{All-cons}
use Rattle.sacn_sources.specs.Sequence.{is_late}
use Rattle.sacn_sources.specs.Order.{order}
use Rattle.sacn_sources.specs.declared.limits.TheConstants.{MAX_SOURCES}
use Rattle.sacn_sources.specs.Rows.{Row, Packet, Kind, Termination, Preview, Live, Other}
use Rattle.sacn_sources.specs.Calls.{Call, Take, Expire, Merge, moment_of, after_calls, moment_in_use, IsGreatestMoment}
use Rattle.sacn_sources.specs.PlainRule.{Entry, Sources, is_unexpired, unexpired, live, held_by, unknown_answer, known_answer, row_for, change, held_after}
use Rattle.sacn_sources.specs.Laws.{UsesTheGreatestMoment, RowsRise}
use Rattle.sacn_sources.proofs.Mirrors.{Mirrors, pair, same_length, first, second, lt_less, entries-unexpired}
use Rattle.sacn_sources.proofs.Sweeps.{length_left}
use Rattle.sacn_sources.proofs.Histories.{same_moment, same_held}

-- ---- the moment in use

is_greatest : (calls : List Call) → IsGreatestMoment calls (moment_in_use calls)
is_greatest [] = record { greatest = λ k d lt. absurd (omega arith); handed_in = inl refl }
is_greatest (call ∷ earlier) =
    let rest = is_greatest earlier in
    let now : ℕ = moment_of call in
    let m : ℕ = moment_in_use earlier in
    record {
      greatest = All-cons (λ c. moment_of c ≤ max m now) call earlier (omega arith) (λ k d lt. at_most m now (moment_of (get_or earlier k d)) (rest.greatest k d lt));
      handed_in = elim (cases_lt m now) [
        | inl below ↦ inr (0, call, omega arith, refl, latest m now below)
        | inr not_below ↦ elim rest.handed_in [
          | inl none ↦ inl (omega arith)
          | inr any ↦ inr (suc any.0, any.1, omega (arith, any.2), any.3, any.4 ∙ earlier_is m now not_below)
        ]
      ];
    }
  where
    at_most : (m now k : ℕ) → k ≤ m → k ≤ max m now
    at_most m now k le = omega arith

    latest : (m now : ℕ) → m < now → now ≡ max m now
    latest m now lt = omega arith

    earlier_is : (m now : ℕ) → now ≤ m → m ≡ max m now
    earlier_is m now le = omega arith

pub uses_the_greatest_moment : UsesTheGreatestMoment
uses_the_greatest_moment calls = (same_moment calls, is_greatest calls)

-- ---- the keys of a map rise

below_at : (k : List ℕ) (es : List (List ℕ × Entry)) → T (below_all order k es) → (j : ℕ) (d : List ℕ × Entry) → j < length es → order k (get_or es j d).0 ≡ Less
below_at k [] below j d lt = absurd (omega arith)
below_at k (e ∷ es) below zero d lt = lt_less _ (first (is_lt (order k e.0)) (below_all order k es) below)
below_at k (e ∷ es) below (suc j) d lt = below_at k es (second (is_lt (order k e.0)) (below_all order k es) below) j d (omega arith)

rises : (es : List (List ℕ × Entry)) → T (is_sorted order es) → (i j : ℕ) (d : List ℕ × Entry) → i < j → j < length es → order (get_or es i d).0 (get_or es j d).0 ≡ Less
rises [] sorted i j d lt within = absurd (omega arith)
rises (e ∷ es) sorted zero zero d lt within = absurd (omega arith)
rises (e ∷ es) sorted zero (suc j) d lt within = below_at e.0 es (first (below_all order e.0 es) (is_sorted order es) sorted) j d (omega arith)
rises (e ∷ es) sorted (suc i) zero d lt within = absurd (omega arith)
rises (e ∷ es) sorted (suc i) (suc j) d lt within = rises es (second (below_all order e.0 es) (is_sorted order es) sorted) i j d (omega arith) (omega arith)

rows_ascend : (rs : List Row) (held : Sources) → Mirrors rs held → AllPairs (λ (a b : Row). order a.source b.source ≡ Less) rs
rows_ascend rs held mirrors i j d lt within =
    let source_at : (k : ℕ) → k < length rs → (get_or (map pair rs) k (pair d)).0 ≡ (get_or rs k d).source = λ k in_rs. ap (λ e. e.0) (get_or-map pair rs k d (pair d) in_rs) in
    let long : length (entries held) ≡ length rs = sym (len-entries held) ∙ same_length rs held mirrors in
    let rising = subst (λ es. order (get_or es i (pair d)).0 (get_or es j (pair d)).0 ≡ Less) mirrors (rises (entries held) (entries_sorted held) i j (pair d) lt (omega arith)) in
    subst (λ b. order (get_or rs i d).source b ≡ Less) (source_at j within) (subst (λ a. order a (get_or (map pair rs) j (pair d)).0 ≡ Less) (source_at i (omega arith)) rising)

-- ---- the sources are few

module _ (held : Sources) (cid : List ℕ) (e : Entry) where
  abbrev counted : Bool → ℕ
  counted b = cond b (len held) (len held + 1)

  one_more : len (insert held cid e) ≤ len held + 1
  one_more = subst (λ n. n ≤ len held + 1) (sym (len-insert Rattle.sacn_sources.proofs.Places.order_total held cid e)) (elim (is_some (get held cid)) as (λ b. counted b ≤ len held + 1) [ true ↦ omega arith | false ↦ omega arith ])

  as_many : (old : Entry) → get held cid ≡ Some old → len (insert held cid e) ≡ len held
  as_many old there = len-insert Rattle.sacn_sources.proofs.Places.order_total held cid e ∙ ap (λ o. counted (is_some o)) there

module _ (t : ℕ) (x : Packet) (held : Sources) (few : len held ≤ MAX_SOURCES) where
  has_room : (n : ℕ) → nat_lt n MAX_SOURCES ≡ true → n < MAX_SOURCES
  has_room n is = grind (arith, nat_tests)

  few_unknown : (kind : Kind) (room : Bool) → nat_lt (len held) MAX_SOURCES ≡ room → len (held_by (unknown_answer kind room) t x None held) ≤ MAX_SOURCES
  few_unknown Live true is = omega (arith, has_room (len held) is, one_more held x.source (live x t))
  few_unknown Live false is = few
  few_unknown Termination room is = few
  few_unknown Preview room is = few
  few_unknown Other room is = few

  as_few : (e old : Entry) → get held x.source ≡ Some old → len (insert held x.source e) ≤ MAX_SOURCES
  as_few e old there = omega (arith, as_many held x.source e old there)

  few_known : (old : Entry) (kind : Kind) (late : Bool) → get held x.source ≡ Some old → len (held_by (known_answer kind late) t x (Some old) held) ≤ MAX_SOURCES
  few_known old Termination true there = few
  few_known old Preview true there = few
  few_known old Live true there = few
  few_known old Other true there = few
  few_known old Termination false there = as_few _ old there
  few_known old Preview false there = as_few _ old there
  few_known old Live false there = as_few _ old there
  few_known old Other false there = as_few _ old there

  few_for : (o : Option Entry) → get held x.source ≡ o → len (row_for t x held o).held ≤ MAX_SOURCES
  few_for None is = few_unknown x.kind (nat_lt (len held) MAX_SOURCES) refl
  few_for (Some old) is = few_known old x.kind (is_late old.sequence_number x.sequence_number) is

few_unexpired : (t : ℕ) (held : Sources) → len held ≤ MAX_SOURCES → len (unexpired t held) ≤ MAX_SOURCES
few_unexpired t held few = omega (arith, len-entries (unexpired t held), ap length (entries-unexpired t held), length_left (λ (e : List ℕ × Entry). is_unexpired t e.1) (entries held), len-entries held)

few_after : (t : ℕ) (call : Call) (held : Sources) → len held ≤ MAX_SOURCES → len (change t call held) ≤ MAX_SOURCES
few_after t (Take now x) held few = few_for t x held few (get held x.source) refl
few_after t (Expire now) held few = few
few_after t (Merge now) held few = few

few_held : (calls : List Call) → len (held_after calls) ≤ MAX_SOURCES
few_held [] = omega (arith, len-empty order Entry)
few_held (call ∷ earlier) = let t = moment_in_use (call ∷ earlier) in few_after t call (unexpired t (held_after earlier)) (few_unexpired t (held_after earlier) (few_held earlier))

pub rows_rise : RowsRise
rows_rise calls = (
  rows_ascend (after_calls calls).table.rows (held_after calls) (same_held calls),
  omega (arith, same_length (after_calls calls).table.rows (held_after calls) (same_held calls), few_held calls),
)

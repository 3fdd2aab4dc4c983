-- What holds of each channel that a universe shows.
use Rattle.std.proofs.Common.{◌≡◌, ℕ, ◌+◌, ◌-◌, ◌<◌, Bool, true, false, cond, [], ◌∷◌, length, get_or, drop, Option, Some, sym, ◌∙◌, arith}
use Rattle.std.specs.BTreeMap.{BTreeMap, is_at}
use Rattle.std.specs.BTreeMap.Range.{range_contains}
use Rattle.std.specs.declared.ops.Bound.TheVariants.{Included}
use Rattle.std.specs.FinMap as finmap
use Rattle.std.specs.FinMap.{from_entries}
use Rattle.std.specs.Map.{lookup}
use Rattle.std.proofs.lemmas.Map.Entries.{lookup-filter-keys}
use Rattle.sacn_patch.specs.declared.part.Part.{Part}
use Rattle.sacn_patch.specs.Patch.{Place, Patched, place_cmp, EachShown}
use Rattle.sacn_patch.specs.Flat.{Row, IsRowOfTree, AllBelow, is_within}
use Rattle.sacn_patch.proofs.Maps.{place_total, place_exact, view_get}
use Rattle.sacn_patch.proofs.Fills.{Parts, of_universe, in_range}
use Rattle.sacn_patch.proofs.Rows.{skip_below, step_skipped, step_taken}

abbrev pub EachOf : (ℕ → Type 0) → Parts → Type 0
EachOf P [] = Unit {0}
EachOf P (e ∷ es) = P e.1.channel × EachOf P es

found_by : (P : ℕ → Type 0) (x : Part) (o : Option Part) (part : Part) (b : Bool) → P x.channel → (o ≡ Some part → P part.channel) → cond b (Some x) o ≡ Some part → P part.channel
found_by P x o part true here rest e = let same : x ≡ part = cc in rw (← same) here
found_by P x o part false here rest e = rest e

found_in : (P : ℕ → Type 0) (f : Place → Bool) (es : Parts) (part : Part) → EachOf P es → lookup f es ≡ Some part → P part.channel
found_in P f [] part each e = absurd (cc)
found_in P f (x ∷ es) part each e = found_by P x.1 (lookup f es) part (f x.0) each.0 (λ rest. found_in P f es part each.1 rest) e

shown_at : (P : ℕ → Type 0) (m : BTreeMap Place Part) (universe i : ℕ) (part : Part) → i < 512 → EachOf P (of_universe universe m.entries) → finmap.get (from_entries {R = place_cmp} m.entries) (universe, i + 1) ≡ Some part → P part.channel
shown_at P m universe i part lt each e =
    found_in P (is_at (place_cmp (universe, i + 1))) (of_universe universe m.entries) part each
    (lookup-filter-keys (is_at (place_cmp (universe, i + 1))) (range_contains place_cmp (Included (universe, 1)) (Included (universe, 512))) true (in_range universe i lt) m.entries
    ∙ sym (view_get place_total place_exact m (universe, i + 1)) ∙ e)

slot_at : (P : ℕ → Type 0) (m : BTreeMap Place Part) (universe slot i : ℕ) (part : Part) → slot ≡ i + 1 → i < 512 → EachOf P (of_universe universe m.entries) → finmap.get (from_entries {R = place_cmp} m.entries) (universe, slot) ≡ Some part → P part.channel
slot_at P m universe slot i part is lt each e = shown_at P m universe i part lt each (rw is at e)

-- what holds of the universe's part of the row holds of what its slots show
pub each_shown : (P : ℕ → Type 0) (row : Row) (v : Patched) (universe : ℕ) → IsRowOfTree row → from_entries row ≡ v → EachOf P (of_universe universe row) → EachShown v universe P
each_shown P row v universe (m, is, ordered) same each =
    λ slot part least most e.
    slot_at P m universe slot (slot - 1) part (omega (arith, least)) (omega (arith, least, most)) (rw (sym is) at each) (rw (← same, ← is) at e)

pub none_each : (P : ℕ → Type 0) (es : Parts) → es ≡ [] → EachOf P es
none_each P es none = rw none tt

pub each_below : (P : ℕ → Type 0) (u n : ℕ) (row : Row) → AllBelow u row n → EachOf P (of_universe u (drop n row)) → EachOf P (of_universe u row)
each_below P u n row low each = rw (skip_below u n row low) at each

pub each_skipped : (P : ℕ → Type 0) (u place : ℕ) (row : Row) (d : Place × Part) → place < length row → is_within u (get_or row place d).0 ≡ false → (EachOf P (of_universe u (drop place row)) → EachOf P (of_universe u row)) → EachOf P (of_universe u (drop (place + 1) row)) → EachOf P (of_universe u row)
each_skipped P u place row d lt out before each = before (rw (step_skipped u place row d lt out) at each)

pub each_taken : (P : ℕ → Type 0) (u place : ℕ) (row : Row) (d : Place × Part) → place < length row → is_within u (get_or row place d).0 ≡ true → P (get_or row place d).1.channel → (EachOf P (of_universe u (drop place row)) → EachOf P (of_universe u row)) → EachOf P (of_universe u (drop (place + 1) row)) → EachOf P (of_universe u row)
each_taken P u place row d lt in_it here before each = before (rw (step_taken u place row d lt in_it) (here, each))

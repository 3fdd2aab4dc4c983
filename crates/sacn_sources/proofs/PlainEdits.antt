-- What edits of the plain table's entries do to its rows.
use Rattle.std.proofs.Common.{◌≡◌, ℕ, ◌<◌, ◌≤◌, List, [], ◌∷◌, length, get_or, set, map, Option, Some, None, refl, sym, ap, subst, ◌∙◌, arith}
use Rattle.std.specs.List.{insert, remove}
use Rattle.std.specs.declared.cmp.Ordering.TheVariants.{Less, Equal, Greater}
use Rattle.std.proofs.lemmas.List.{length-map, length-set, get_or-map, get_or_default}
use Rattle.std.proofs.lemmas.List.Edits.{length-insert, length-remove}
use Rattle.std.proofs.lemmas.List.Quantifiers.{all_pairs_remove}
use Rattle.sacn_sources.specs.Order.{order}
use Rattle.sacn_sources.specs.declared.plain.entries.PlainEntry.{PlainEntry}
use Rattle.sacn_sources.specs.declared.limits.TheConstants.{MAX_SOURCES}
use Rattle.sacn_sources.specs.Rows.{Row, put_row}
use Rattle.sacn_sources.specs.PlainStorage.{plain_row, plain_rows, PrecedesByCid, AreOrdered}
use Rattle.sacn_sources.specs.Places.{IsAt, IsGap}
use Rattle.sacn_sources.proofs.Lists.{map_set, map_insert, map_remove, pairs_set, pairs_insert}
use Rattle.sacn_sources.proofs.Places.{put_gap, flipped, order_total, same_source}

abbrev pub blank : PlainEntry
blank = record { cid = []; sequence_number = 0; priority = None; levels = []; moment = 0 }

pub length_plain : (es : List PlainEntry) (rows : List Row) → plain_rows es ≡ rows → length es ≡ length rows
length_plain es rows view_is = omega (arith, ap length view_is, length-map es plain_row)

pub within_plain : (es : List PlainEntry) (rows : List Row) → plain_rows es ≡ rows → (at : ℕ) → at < length rows → at < length es
within_plain es rows view_is at lt = omega (arith, length_plain es rows view_is)

pub plain_there : (es : List PlainEntry) (rows : List Row) → plain_rows es ≡ rows → (at : ℕ) → at < length rows → (e : PlainEntry) → ((d : PlainEntry) → e ≡ get_or es at d) → (d : Row) → get_or rows at d ≡ plain_row e
plain_there es rows view_is at lt e read d = ap (λ rs. get_or rs at d) (sym view_is) ∙ get_or-map plain_row es at e d (within_plain es rows view_is at lt) ∙ ap plain_row (sym (read e))

module _ (es : List PlainEntry) (ordered : AreOrdered es) where
  module _ (at : ℕ) (e : PlainEntry) (within : at < length es) (cid : (d : PlainEntry) → e.cid ≡ (get_or es at d).cid) where
    pub plain_set : plain_rows (set es at e) ≡ set (plain_rows es) at (plain_row e)
    plain_set = map_set plain_row plain_row es at e within (λ k d lt differs. refl)

    pub set_ordered : AreOrdered (set es at e)
    set_ordered = record {
      rising = pairs_set PrecedesByCid es at e ordered.rising within
          (λ d a p. subst (λ c. order a.cid c ≡ Less) (sym (cid d)) p)
          (λ d b p. subst (λ c. order c b.cid ≡ Less) (sym (cid d)) p);
      within = omega (arith, ordered.within, length-set es at e);
    }

  module _ (at : ℕ) (e : PlainEntry) (gap : IsGap (plain_rows es) e.cid at) where
    in_es : at ≤ length es
    in_es = omega (arith, gap.within, length-map es plain_row)

    cid_at : (k : ℕ) (d : PlainEntry) → k < length es → (get_or (plain_rows es) k (plain_row d)).source ≡ (get_or es k d).cid
    cid_at k d lt = ap (λ (r : Row). r.source) (get_or-map plain_row es k d (plain_row d) lt)

    pub plain_put : plain_rows (insert es at e) ≡ put_row (plain_row e) (plain_rows es)
    plain_put = map_insert plain_row plain_row es at e (λ k d lt. refl) ∙ sym (put_gap (plain_row e) (plain_rows es) at gap)

    pub put_ordered : length es < MAX_SOURCES → AreOrdered (insert es at e)
    put_ordered few = record {
      rising = pairs_insert PrecedesByCid es at e ordered.rising in_es
          (λ k d lt. flipped e.cid (get_or es k d).cid Greater (ap (order e.cid) (sym (cid_at k d (omega (arith, in_es)))) ∙ gap.before k (plain_row d) lt))
          (λ k d le lt. ap (order e.cid) (sym (cid_at k d lt)) ∙ gap.after k (plain_row d) le (omega (arith, length-map es plain_row)));
      within = omega (arith, few, length-insert es at e in_es);
    }

  module _ (at : ℕ) (within : at < length es) where
    pub plain_removed : plain_rows (remove es at) ≡ remove (plain_rows es) at
    plain_removed = map_remove plain_row plain_row es at (λ k d lt differs. refl)

    pub removed_ordered : AreOrdered (remove es at)
    removed_ordered = record {
      rising = all_pairs_remove PrecedesByCid es at within ordered.rising;
      within = omega (arith, ordered.within, length-remove es at within);
    }

  -- ---- a scan from the first entry on, of which all so far are smaller
  module _ (cid : List ℕ) (at : ℕ) (before : (j : ℕ) (d : PlainEntry) → j < at → order cid (get_or es j d).cid ≡ Greater) where
    source_at : (j : ℕ) (d : Row) → j < length es → (get_or (plain_rows es) j d).source ≡ (get_or es j blank).cid
    source_at j d lt = ap (λ (r : Row). r.source) (get_or-map plain_row es j blank d lt)

    rows_before : at ≤ length es → (j : ℕ) (d : Row) → j < at → order cid (get_or (plain_rows es) j d).source ≡ Greater
    rows_before le j d lt = ap (order cid) (source_at j d (omega arith)) ∙ before j blank lt

    pub scanned_here : at < length es → order cid (get_or es at blank).cid ≡ Equal → IsAt (plain_rows es) cid at
    scanned_here lt equal = record {
      within = omega (arith, length-map es plain_row);
      before = rows_before (omega arith);
      here = λ d. source_at at d lt ∙ sym (same_source cid (get_or es at blank).cid equal);
    }

    later : (j : ℕ) → at < length es → order cid (get_or es at blank).cid ≡ Less → at ≤ j → j < length es → order cid (get_or es j blank).cid ≡ Less
    later j lt less le in_es = elim (Rattle.std.proofs.lemmas.Bool.cases_eq at j) [
      | Rattle.std.proofs.Common.inl same ↦ ap (λ k. order cid (get_or es k blank).cid) (sym same) ∙ less
      | Rattle.std.proofs.Common.inr differs ↦ order_total.trans cid (get_or es at blank).cid (get_or es j blank).cid less (ordered.rising at j blank (omega arith) in_es)
    ]

    pub scanned_gap : at < length es → order cid (get_or es at blank).cid ≡ Less → IsGap (plain_rows es) cid at
    scanned_gap lt less = record {
      within = omega (arith, length-map es plain_row);
      before = rows_before (omega arith);
      after = λ j d le in_rows.
          let in_es : j < length es = omega (arith, length-map es plain_row) in
          ap (order cid) (source_at j d in_es) ∙ later j lt less le in_es;
    }

    pub scanned_all : at ≤ length es → length es ≤ at → IsGap (plain_rows es) cid at
    scanned_all le past = record {
      within = omega (arith, length-map es plain_row);
      before = rows_before le;
      after = λ j d above in_rows. absurd (omega (arith, length-map es plain_row));
    }

-- the entry at the place of a source has its CID
pub cid_there : (es : List PlainEntry) (rows : List Row) → plain_rows es ≡ rows → (cid : List ℕ) (at : ℕ) → IsAt rows cid at → (own : List ℕ) → own ≡ cid → (d : PlainEntry) → own ≡ (get_or es at d).cid
cid_there es rows view_is cid at is_at own is d =
    let within = within_plain es rows view_is at is_at.within in
    is ∙ sym (is_at.here (plain_row d)) ∙ ap (λ (r : Row). r.source) (plain_there es rows view_is at is_at.within (get_or es at d) (λ e. get_or_default es at d e within) (plain_row d))

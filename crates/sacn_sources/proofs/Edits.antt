-- What edits of the entries and of the stored levels do to the rows.
use Rattle.std.proofs.Common.{◌≡◌, ◌≢◌, ℕ, zero, suc, ◌+◌, ◌<◌, ◌≤◌, List, [], ◌∷◌, length, get_or, set, cond, Option, Some, None, IsSome, is_some, count_by, unwrap_or, refl, sym, ap, subst, ◌∙◌, arith, inl, inr}
use Rattle.std.specs.List.{insert, remove}
use Rattle.std.specs.Option.{option_map}
use Rattle.std.specs.declared.cmp.Ordering.TheVariants.{Less, Greater}
use Rattle.std.proofs.lemmas.Bool.{cases_eq, cases_lt}
use Rattle.std.proofs.lemmas.List.{length-map, length-set, get_or-map, get_or_default}
use Rattle.std.proofs.lemmas.List.Edits.{length-insert, length-remove}
use Rattle.std.proofs.lemmas.List.Quantifiers.{all_pairs_remove}
use Rattle.std.proofs.lemmas.List.Sums.{sum_by-cons}
use Rattle.slab.specs.Slab.{get, slab_len, with_value, Updates}
use Rattle.slab.proofs.SlabLemmas.{Updates-with_value}
use Rattle.sacn_sources.specs.Order.{order}
use Rattle.sacn_sources.specs.declared.entry.Entry.{Entry}
use Rattle.sacn_sources.specs.declared.limits.TheConstants.{MAX_SOURCES}
use Rattle.sacn_sources.specs.Rows.{Row, Table, put_row}
use Rattle.sacn_sources.specs.Storage.{Frames, row_in, rows_in, Apart, AreStored}
use Rattle.sacn_sources.specs.Places.{IsAt, IsGap}
use Rattle.sacn_sources.proofs.Lists.{map_set, map_insert, map_remove, all_set, all_insert, all_remove, pairs_set, pairs_insert}
use Rattle.sacn_sources.proofs.Places.{put_gap, flipped}

-- a value written over another leaves as many
count-set : {X : Type 0} (slots : List (Option X)) (key : ℕ) (x : X) → IsSome (get_or slots key None) → count_by is_some (set slots key (Some x)) ≡ count_by is_some slots
count-set [] key x has = refl
count-set (slot ∷ slots) zero x has = omega (arith, sum_by-cons (λ o. cond (is_some o) 1 0) (Some x) slots, sum_by-cons (λ o. cond (is_some o) 1 0) slot slots, ap {B = ℕ} (λ b. cond b 1 0) has)
count-set (slot ∷ slots) (suc key) x has = omega (arith, sum_by-cons (λ o. cond (is_some o) 1 0) slot (set slots key (Some x)), sum_by-cons (λ o. cond (is_some o) 1 0) slot slots, count-set slots key x has)

-- an entry whose stored levels are the same is the same row
same_row : (fr fr2 : Frames) (e : Entry) → get fr2 e.key ≡ get fr e.key → row_in fr2 e ≡ row_in fr e
same_row fr fr2 e same =
    let of : Option (List ℕ) → Row = λ stored. record {
      source = e.cid;
      sequence_number = e.sequence_number;
      shown = option_map (λ priority. record { priority = priority; levels = unwrap_or stored [] }) e.priority;
      moment = e.moment;
    } in
    ap of same

-- a table with other rows
pub with_rows : (after before : List Row) (moment : ℕ) (f : Table → List Row) (table : Table) → (let fields : Table = record { rows = before; moment = moment } in (fields ≡ table) → after ≡ f fields → (let new : Table = record { rows = after; moment = moment } in new ≡ record table { rows = f table }))
with_rows after before moment f table view_is edited =
    ap (λ rs. let new : Table = record { rows = rs; moment = moment } in new) edited
    ∙ ap (λ (t : Table). record t { rows = f t }) view_is

module _ (es : List Entry) (fr : Frames) (stored : AreStored es fr) where
  pub length_in : length (rows_in fr es) ≡ length es
  length_in = length-map es (row_in fr)

  keys_differ : (i j : ℕ) (d : Entry) → i < length es → j < length es → i ≢ j → (get_or es i d).key ≢ (get_or es j d).key
  keys_differ i j d in_i in_j differs same = elim (cases_lt i j) [
    | inl below ↦ (stored.apart i j d below in_j).1 same
    | inr not_below ↦ (stored.apart j i d (omega arith) in_i).1 (sym same)
  ]

  -- an entry written anew, of the same CID and key, with at most its levels written anew
  module _ (fr2 : Frames) (at : ℕ) (e : Entry) (within : at < length es) (cid : (d : Entry) → e.cid ≡ (get_or es at d).cid) (key : (d : Entry) → e.key ≡ (get_or es at d).key) (others : (k : ℕ) → k ≢ e.key → get fr2 k ≡ get fr k) where
    pub rows_set : rows_in fr2 (set es at e) ≡ set (rows_in fr es) at (row_in fr2 e)
    rows_set = map_set (row_in fr2) (row_in fr) es at e within (λ k d lt differs. same_row fr fr2 (get_or es k d) (others (get_or es k d).key (λ same. keys_differ k at d lt within differs (same ∙ key d))))

    pub set_stored : IsSome (get fr2 e.key) → slab_len fr2 ≡ slab_len fr → fr2.capacity ≡ fr.capacity → AreStored (set es at e) fr2
    set_stored has as_many capacity = record {
      apart = pairs_set Apart es at e stored.apart within
          (λ d a p. (subst (λ c. order a.cid c ≡ Less) (sym (cid d)) p.0, subst (λ k. a.key ≢ k) (sym (key d)) p.1))
          (λ d b p. (subst (λ c. order c b.cid ≡ Less) (sym (cid d)) p.0, subst (λ k. k ≢ b.key) (sym (key d)) p.1));
      stored = all_set (λ x. IsSome (get fr2 x.key)) es at e within has (λ k d lt. elim (cases_eq (get_or es k d).key e.key) [
        | inl same ↦ subst (λ q. IsSome (get fr2 q)) (sym same) has
        | inr differs ↦ subst IsSome (sym (others (get_or es k d).key differs)) (stored.stored k d lt)
      ]);
      counted = omega (arith, as_many, stored.counted, length-set es at e);
      within = omega (arith, stored.within, length-set es at e);
      room = omega (arith, capacity, stored.room);
    }

  -- a new entry, with its levels under a key that was free
  module _ (fr2 : Frames) (at : ℕ) (e : Entry) (levels : List ℕ) (gap : IsGap (rows_in fr es) e.cid at) (vacant : get fr e.key ≡ None) (updates : Updates fr fr2 e.key (Some levels)) where
    old_key : (k : ℕ) (d : Entry) → k < length es → (get_or es k d).key ≢ e.key
    old_key k d within same = some_none (get fr e.key) (subst (λ q. IsSome (get fr q)) same (stored.stored k d within)) vacant
      where
        some_none : (o : Option (List ℕ)) → IsSome o → o ≡ None → ⊥
        some_none (Some x) is none = cc
        some_none None is none = cc

    in_es : at ≤ length es
    in_es = omega (arith, gap.within, length-map es (row_in fr))

    cid_at : (k : ℕ) (d : Entry) → k < length es → (get_or (rows_in fr es) k (row_in fr d)).source ≡ (get_or es k d).cid
    cid_at k d lt = ap (λ (r : Row). r.source) (get_or-map (row_in fr) es k d (row_in fr d) lt)

    pub rows_put : rows_in fr2 (insert es at e) ≡ put_row (row_in fr2 e) (rows_in fr es)
    rows_put =
        map_insert (row_in fr2) (row_in fr) es at e (λ k d lt. same_row fr fr2 (get_or es k d) (updates.others (get_or es k d).key (old_key k d lt)))
        ∙ sym (put_gap (row_in fr2 e) (rows_in fr es) at gap)

    pub put_stored : length es < MAX_SOURCES → slab_len fr2 ≡ slab_len fr + 1 → fr2.capacity ≡ fr.capacity → AreStored (insert es at e) fr2
    put_stored few one_more capacity = record {
      apart = pairs_insert Apart es at e stored.apart in_es
          (λ k d lt. (flipped e.cid (get_or es k d).cid Greater (ap (order e.cid) (sym (cid_at k d (omega (arith, in_es)))) ∙ gap.before k (row_in fr d) lt), old_key k d (omega (arith, in_es))))
          (λ k d le lt. (ap (order e.cid) (sym (cid_at k d lt)) ∙ gap.after k (row_in fr d) le (omega (arith, length-map es (row_in fr))), λ same. old_key k d lt (sym same)));
      stored = all_insert (λ x. IsSome (get fr2 x.key)) es at e in_es (subst IsSome (sym updates.changed) refl) (λ k d lt. subst IsSome (sym (updates.others (get_or es k d).key (old_key k d lt))) (stored.stored k d lt));
      counted = omega (arith, one_more, stored.counted, length-insert es at e in_es);
      within = omega (arith, few, length-insert es at e in_es);
      room = omega (arith, capacity, stored.room);
    }

  -- an entry that goes, with its levels
  module _ (fr2 : Frames) (at : ℕ) (old : Entry) (within : at < length es) (read : (d : Entry) → old ≡ get_or es at d) (updates : Updates fr fr2 old.key None) where
    other_key : (k : ℕ) (d : Entry) → k < length es → k ≢ at → (get_or es k d).key ≢ old.key
    other_key k d lt differs same = keys_differ k at d lt within differs (same ∙ ap (λ x. x.key) (read d))

    pub rows_removed : rows_in fr2 (remove es at) ≡ remove (rows_in fr es) at
    rows_removed = map_remove (row_in fr2) (row_in fr) es at (λ k d lt differs. same_row fr fr2 (get_or es k d) (updates.others (get_or es k d).key (other_key k d lt differs)))

    pub removed_stored : slab_len fr2 + 1 ≡ slab_len fr → fr2.capacity ≡ fr.capacity → AreStored (remove es at) fr2
    removed_stored one_less capacity = record {
      apart = all_pairs_remove Apart es at within stored.apart;
      stored = all_remove (λ x. IsSome (get fr2 x.key)) es at within (λ k d lt differs. subst IsSome (sym (updates.others (get_or es k d).key (other_key k d lt differs))) (stored.stored k d lt));
      counted = omega (arith, one_less, stored.counted, length-remove es at within);
      within = omega (arith, stored.within, length-remove es at within);
      room = omega (arith, capacity, stored.room);
    }

-- the entry that was read at the place of a source
module _ (es : List Entry) (fr : Frames) (stored : AreStored es fr) (rows : List Row) (view_is : rows_in fr es ≡ rows) (at : ℕ) (old : Entry) (read : (d : Entry) → old ≡ get_or es at d) where
  pub in_entries : at < length rows → at < length es
  in_entries lt = omega (arith, ap length view_is, length_in es fr stored)

  pub row_there : (d : Row) → at < length rows → get_or rows at d ≡ row_in fr old
  row_there d lt = ap (λ rs. get_or rs at d) (sym view_is) ∙ get_or-map (row_in fr) es at old d (in_entries lt) ∙ ap (row_in fr) (sym (read old))

  pub has_levels : at < length rows → IsSome (get fr old.key)
  has_levels lt = subst (λ x. IsSome (get fr x.key)) (sym (read old)) (stored.stored at old (in_entries lt))

  module _ (cid : List ℕ) (is_at : IsAt rows cid at) where
    pub cid_there : old.cid ≡ cid
    cid_there = ap (λ (r : Row). r.source) (sym (row_there (row_in fr old) is_at.within)) ∙ is_at.here (row_in fr old)

    -- the entry alone is written
    module _ (e : Entry) (same_cid : e.cid ≡ old.cid) (same_key : e.key ≡ old.key) where
      abbrev cids : (d : Entry) → e.cid ≡ (get_or es at d).cid
      cids d = same_cid ∙ ap (λ x. x.cid) (read d)

      abbrev keys : (d : Entry) → e.key ≡ (get_or es at d).key
      keys d = same_key ∙ ap (λ x. x.key) (read d)

      pub entry_set : rows_in fr (set es at e) ≡ set rows at (row_in fr e)
      entry_set = rows_set es fr stored fr at e (in_entries is_at.within) cids keys (λ k differs. refl) ∙ ap (λ rs. set rs at (row_in fr e)) view_is

      pub entry_stored : AreStored (set es at e) fr
      entry_stored = set_stored es fr stored fr at e (in_entries is_at.within) cids keys (λ k differs. refl) (subst (λ k. IsSome (get fr k)) (sym same_key) (has_levels is_at.within)) refl refl

      -- the entry and its levels are written
      module _ (levels : List ℕ) where
        abbrev written : Frames
        written = with_value fr old.key levels

        updates : Updates fr written old.key (Some levels)
        updates = Updates-with_value fr old.key levels (has_levels is_at.within)

        others : (k : ℕ) → k ≢ e.key → get written k ≡ get fr k
        others k differs = updates.others k (λ same. differs (same ∙ sym same_key))

        pub levels_stored : AreStored (set es at e) written
        levels_stored = set_stored es fr stored written at e (in_entries is_at.within) cids keys others (subst (λ k. IsSome (get written k)) (sym same_key) (subst IsSome (sym updates.changed) refl)) (count-set fr.slots old.key levels (has_levels is_at.within)) refl

        pub levels_set : (priority : ℕ) → e.priority ≡ Some priority → rows_in written (set es at e) ≡ set rows at (record { source = cid; sequence_number = e.sequence_number; shown = Some (record { priority = priority; levels = levels }); moment = e.moment })
        levels_set priority live =
            let shows : row_in written e ≡ record { source = cid; sequence_number = e.sequence_number; shown = Some (record { priority = priority; levels = levels }); moment = e.moment } = rw (live, same_key, updates.changed, same_cid, cid_there) refl in
            rows_set es fr stored written at e (in_entries is_at.within) cids keys others ∙ ap (λ rs. set rs at (row_in written e)) view_is ∙ ap (set rows at) shows

pub within_entries : (es : List Entry) (fr : Frames) (rows : List Row) → rows_in fr es ≡ rows → (at : ℕ) → at < length rows → at < length es
within_entries es fr rows view_is at lt = omega (arith, ap length view_is, length-map es (row_in fr))

-- an entry read with one default is it with every other
pub read_at : (es : List Entry) (fr : Frames) (rows : List Row) → rows_in fr es ≡ rows → (at : ℕ) → at < length rows → (blank d : Entry) → get_or es at blank ≡ get_or es at d
read_at es fr rows view_is at lt blank d = get_or_default es at blank d (within_entries es fr rows view_is at lt)

pub length_rows : (es : List Entry) (fr : Frames) (rows : List Row) → rows_in fr es ≡ rows → length es ≡ length rows
length_rows es fr rows view_is = omega (arith, ap length view_is, length-map es (row_in fr))

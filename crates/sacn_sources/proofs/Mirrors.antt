-- Rows in the order of their sources, and the finite map that holds the same.
use Rattle.std.proofs.Common.{◌≡◌, ℕ, Bool, true, false, not, cond, ◌&&◌, ◌||◌, T, List, [], ◌∷◌, length, map, filter, is_some, Some, None, refl, sym, ap, ◌∙◌}
use Rattle.std.specs.List.{filter_map, cons_option, list_any}
use Rattle.std.specs.Option.{option_map}
use Rattle.std.specs.Ordering.{is_eq, is_lt}
use Rattle.std.specs.declared.cmp.Ordering.{Ordering}
use Rattle.std.specs.declared.cmp.Ordering.TheVariants.{Less, Equal, Greater}
use Rattle.std.specs.FinMap.{find, put, get, insert, len, entries, entries_sorted, entries-insert, entries-from_sorted, get-entries, len-entries, is_sorted}
use Rattle.std.specs.FinMap.Entries.{below_all}
use Rattle.std.proofs.lemmas.List.{length-map}
use Rattle.sacn_sources.specs.Order.{order, by_order}
use Rattle.sacn_sources.specs.Rows.{Row, row_renewed, rows_kept, row_of, put_row, layers}
use Rattle.sacn_sources.specs.LatestMerge.{loses_live}
use Rattle.sacn_sources.specs.PlainRule.{Entry, Sources, is_unexpired, unexpired, unless_expired, shown_by, expires_live}
use Rattle.sacn_sources.specs.Laws.{row_with, ExpiresAlone}
use Rattle.sacn_sources.proofs.Places.{order_total, same_source}

abbrev pub entry_of : Row → Entry
entry_of r = record { sequence_number = r.sequence_number; shown = r.shown; moment = r.moment }

abbrev pub pair : Row → List ℕ × Entry
pair r = (r.source, entry_of r)

abbrev pub Mirrors : List Row → Sources → Type 0
Mirrors rs held = entries held ≡ map pair rs

-- ---- lists

found : (s : List ℕ) (rs : List Row) → row_of s rs ≡ option_map (row_with s) (find order s (map pair rs))
found s [] = refl
found s (r ∷ rs) =
    elim (order s r.source) as (λ o. order s r.source ≡ o → cond (is_eq o) (Some r) (row_of s rs) ≡ option_map (row_with s) (cond (is_eq o) (Some (entry_of r)) (find order s (map pair rs)))) [
      | Less ↦ λ e. found s rs
      | Equal ↦ λ e. ap (λ q. Some (row_with q (entry_of r))) (sym (same_source s r.source e))
      | Greater ↦ λ e. found s rs
    ] refl

put_in : (n : Row) (rs : List Row) → map pair (put_row n rs) ≡ put order n.source (entry_of n) (map pair rs)
put_in n [] = refl
put_in n (r ∷ rs) =
    elim (order n.source r.source) as (λ o. order n.source r.source ≡ o → map pair (by_order o (n ∷ r ∷ rs) (n ∷ rs) (r ∷ put_row n rs)) ≡ by_order o ((n.source, entry_of n) ∷ pair r ∷ map pair rs) ((r.source, entry_of n) ∷ map pair rs) (pair r ∷ put order n.source (entry_of n) (map pair rs))) [
      | Less ↦ λ e. refl
      | Equal ↦ λ e. ap (λ (q : List ℕ). (q, entry_of n) ∷ map pair rs) (same_source n.source r.source e)
      | Greater ↦ λ e. ap (λ l. pair r ∷ l) (put_in n rs)
    ] refl

kept_in : (t : ℕ) (rs : List Row) → map pair (rows_kept t rs) ≡ filter (λ e. is_unexpired t e.1) (map pair rs)
kept_in t [] = refl
kept_in t (r ∷ rs) = elim (row_renewed t r) as (λ b. map pair (cond b (r ∷ rows_kept t rs) (rows_kept t rs)) ≡ cond b (pair r ∷ filter (λ e. is_unexpired t e.1) (map pair rs)) (filter (λ e. is_unexpired t e.1) (map pair rs))) [
  | true ↦ ap (λ l. pair r ∷ l) (kept_in t rs)
  | false ↦ kept_in t rs
]

shown_in : (rs : List Row) → filter_map (λ (e : List ℕ × Entry). e.1.shown) (map pair rs) ≡ layers rs
shown_in [] = refl
shown_in (r ∷ rs) = ap (cons_option r.shown) (shown_in rs)

loses_in : (t : ℕ) (rs : List Row) → list_any (λ (e : List ℕ × Entry). not (is_unexpired t e.1) && is_some e.1.shown) (map pair rs) ≡ loses_live t rs
loses_in t [] = refl
loses_in t (r ∷ rs) = ap (λ b. (not (row_renewed t r) && is_some r.shown) || b) (loses_in t rs)

-- ---- a filtered list stays sorted

both : (a b : Bool) → T a → T b → T (a && b)
both true b p q = q
both false b p q = absurd p

pub first : (a b : Bool) → T (a && b) → T a
first true b p = tt
first false b p = p

pub second : (a b : Bool) → T (a && b) → T b
second true b p = p
second false b p = absurd p

pub lt_less : (o : Ordering) → T (is_lt o) → o ≡ Less
lt_less Less p = refl
lt_less Equal p = absurd p
lt_less Greater p = absurd p

module _ (p : List ℕ × Entry → Bool) where
  below_filter : (k : List ℕ) (es : List (List ℕ × Entry)) → T (below_all order k es) → T (below_all order k (filter p es))
  below_filter k [] below = tt
  below_filter k (e ∷ es) below =
      let rest = below_filter k es (second (is_lt (order k e.0)) (below_all order k es) below) in
      elim (p e) as (λ b. T (below_all order k (cond b (e ∷ filter p es) (filter p es)))) [
        | true ↦ both (is_lt (order k e.0)) (below_all order k (filter p es)) (first (is_lt (order k e.0)) (below_all order k es) below) rest
        | false ↦ rest
      ]

  pub sorted_filter : (es : List (List ℕ × Entry)) → T (is_sorted order es) → T (is_sorted order (filter p es))
  sorted_filter [] sorted = tt
  sorted_filter (e ∷ es) sorted =
      let rest = sorted_filter es (second (below_all order e.0 es) (is_sorted order es) sorted) in
      elim (p e) as (λ b. T (is_sorted order (cond b (e ∷ filter p es) (filter p es)))) [
        | true ↦ both (below_all order e.0 (filter p es)) (is_sorted order (filter p es)) (below_filter e.0 es (first (below_all order e.0 es) (is_sorted order es) sorted)) rest
        | false ↦ rest
      ]

pub entries-unexpired : (t : ℕ) (held : Sources) → entries (unexpired t held) ≡ filter (λ e. is_unexpired t e.1) (entries held)
unfolding unexpired
entries-unexpired t held = entries-from_sorted order (filter (λ e. is_unexpired t e.1) (entries held)) (sorted_filter (λ e. is_unexpired t e.1) (entries held) (entries_sorted held))

-- ---- one source after expiry

-- a key that ties with one below all entries is none of theirs
none_above : (q k : List ℕ) (es : List (List ℕ × Entry)) → order q k ≡ Equal → T (below_all order k es) → find order q es ≡ None
none_above q k [] tied below = refl
none_above q k (e ∷ es) tied below =
    let less : order q e.0 ≡ Less = order_total.congr q k e.0 tied ∙ lt_less (order k e.0) (first (is_lt (order k e.0)) (below_all order k es) below) in
    ap (λ o. cond (is_eq o) (Some e.1) (find order q es)) less ∙ none_above q k es tied (second (is_lt (order k e.0)) (below_all order k es) below)

find_unexpired : (t : ℕ) (q : List ℕ) (es : List (List ℕ × Entry)) → T (is_sorted order es) → find order q (filter (λ e. is_unexpired t e.1) es) ≡ unless_expired t (find order q es)
find_unexpired t q [] sorted = refl
find_unexpired t q (e ∷ es) sorted =
    let rest = find_unexpired t q es (second (below_all order e.0 es) (is_sorted order es) sorted) in
    let left = filter (λ (x : List ℕ × Entry). is_unexpired t x.1) es in
    let none : order q e.0 ≡ Equal → find order q es ≡ None = λ tied. none_above q e.0 es tied (first (below_all order e.0 es) (is_sorted order es) sorted) in
    elim (order q e.0) as (λ o. order q e.0 ≡ o → find order q (cond (is_unexpired t e.1) (e ∷ left) left) ≡ unless_expired t (cond (is_eq o) (Some e.1) (find order q es))) [
      | Less ↦ λ o. other t q e es left rest (ap is_eq o)
      | Equal ↦ λ o. elim (is_unexpired t e.1) as (λ b. find order q (cond b (e ∷ left) left) ≡ cond b (Some e.1) None) [
        | true ↦ ap (λ r. cond (is_eq r) (Some e.1) (find order q left)) o
        | false ↦ rest ∙ ap (unless_expired t) (none o)
      ]
      | Greater ↦ λ o. other t q e es left rest (ap is_eq o)
    ] refl
  where
    other : (t : ℕ) (q : List ℕ) (e : List ℕ × Entry) (es left : List (List ℕ × Entry)) → find order q left ≡ unless_expired t (find order q es) → is_eq (order q e.0) ≡ false → find order q (cond (is_unexpired t e.1) (e ∷ left) left) ≡ unless_expired t (find order q es)
    other t q e es left rest differs = elim (is_unexpired t e.1) as (λ b. find order q (cond b (e ∷ left) left) ≡ unless_expired t (find order q es)) [
      | true ↦ ap (λ b. cond b (Some e.1) (find order q left)) differs ∙ rest
      | false ↦ rest
    ]

pub expires_alone : ExpiresAlone
expires_alone t held cid =
    get-entries (unexpired t held) cid ∙ ap (find order cid) (entries-unexpired t held)
    ∙ find_unexpired t cid (entries held) (entries_sorted held)
    ∙ ap (unless_expired t) (sym (get-entries held cid))

-- ---- rows and their map

module _ (rs : List Row) (held : Sources) (mirrors : Mirrors rs held) where
  pub row_found : (cid : List ℕ) → row_of cid rs ≡ option_map (row_with cid) (get held cid)
  row_found cid = found cid rs ∙ ap (λ es. option_map (row_with cid) (find order cid es)) (sym mirrors) ∙ ap (option_map (row_with cid)) (sym (get-entries held cid))

  pub put_mirrors : (cid : List ℕ) (e : Entry) → Mirrors (put_row (row_with cid e) rs) (insert held cid e)
  put_mirrors cid e = entries-insert order_total held cid e ∙ ap (put order cid e) mirrors ∙ sym (put_in (row_with cid e) rs)

  pub kept_mirrors : (t : ℕ) → Mirrors (rows_kept t rs) (unexpired t held)
  kept_mirrors t = entries-unexpired t held ∙ ap (filter (λ e. is_unexpired t e.1)) mirrors ∙ sym (kept_in t rs)

  pub same_length : len held ≡ length rs
  same_length = len-entries held ∙ ap length mirrors ∙ length-map rs pair

  pub same_shown : shown_by held ≡ layers rs
  same_shown = ap (filter_map (λ (e : List ℕ × Entry). e.1.shown)) mirrors ∙ shown_in rs

  pub same_losses : (t : ℕ) → expires_live t held ≡ loses_live t rs
  same_losses t = ap (list_any (λ (e : List ℕ × Entry). not (is_unexpired t e.1) && is_some e.1.shown)) mirrors ∙ loses_in t rs

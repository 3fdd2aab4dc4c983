-- What a packet does to a table, at the place of its source.
use Rattle.std.proofs.Common.{◌≡◌, ℕ, zero, suc, ◌<◌, ◌≤◌, Bool, true, false, not, List, [], ◌∷◌, length, Option, Some, None, get_or, set, nat_lt, refl, sym, ap, subst, ◌∙◌, arith}
use Rattle.std.specs.List.{cons_option}
use Rattle.std.proofs.lemmas.Bool.Decides.{nat_tests}
use Rattle.sacn_sources.specs.Sequence.{is_late}
use Rattle.sacn_sources.specs.Merge.{Shown}
use Rattle.sacn_sources.specs.declared.limits.TheConstants.{MAX_SOURCES}
use Rattle.sacn_sources.specs.Rows.{Row, Packet, Kind, Termination, Preview, Live, Other, Taken, Held, Observed, OutOfSequence, SourcesExceeded, UnknownIgnored, taken, take_by, take_known, take_unknown, take_row, rows_after, observed, row_live, row_ended, row_observed, layers}
use Rattle.sacn_sources.specs.Places.{IsAt, IsGap}
use Rattle.sacn_sources.proofs.Places.{row_at, row_absent, put_at}

abbrev pub blank : Row
blank = record { source = []; sequence_number = 0; shown = None; moment = 0 }

late_known : (kind : Kind) → take_known kind true ≡ OutOfSequence
late_known Live = refl
late_known Termination = refl
late_known Preview = refl
late_known Other = refl

late_from : (b : Bool) → false ≡ not b → b ≡ true
late_from true e = refl
late_from false e = cc

in_time_from : (b : Bool) → true ≡ not b → b ≡ false
in_time_from true e = cc
in_time_from false e = refl

-- a row that shows what the one before it at its place did
layers_set : (rs : List Row) (at : ℕ) (n : Row) → ((d : Row) → n.shown ≡ (get_or rs at d).shown) → layers (set rs at n) ≡ layers rs
layers_set [] at n same = refl
layers_set (r ∷ rs) zero n same = ap (λ o. cons_option o (layers rs)) (same r)
layers_set (r ∷ rs) (suc at) n same = ap (cons_option r.shown) (layers_set rs at n same)

module _ (x : Packet) (rs : List Row) (at : ℕ) (is_at : IsAt rs x.source at) where
  abbrev there : Row
  there = get_or rs at blank

  by_number : taken x rs ≡ take_known x.kind (is_late there.sequence_number x.sequence_number)
  by_number = ap (take_by x (nat_lt (length rs) MAX_SOURCES)) (row_at x.source rs at blank is_at)

  pub taken_late : false ≡ not (is_late there.sequence_number x.sequence_number) → taken x rs ≡ OutOfSequence
  taken_late said = by_number ∙ ap (take_known x.kind) (late_from _ said) ∙ late_known x.kind

  pub taken_in_time : (kind : Kind) → true ≡ not (is_late there.sequence_number x.sequence_number) → kind ≡ x.kind → taken x rs ≡ take_known kind false
  taken_in_time kind said is = by_number ∙ ap (take_known x.kind) (in_time_from _ said) ∙ ap (λ k. take_known k false) (sym is)

  pub row_late : (t : ℕ) → false ≡ not (is_late there.sequence_number x.sequence_number) → take_row x t rs ≡ rs
  row_late t said = ap (λ a. rows_after a x t rs) (taken_late said)

  pub row_shown : (t : ℕ) → true ≡ not (is_late there.sequence_number x.sequence_number) → Live ≡ x.kind → take_row x t rs ≡ set rs at (row_live x t)
  row_shown t said is = ap (λ a. rows_after a x t rs) (taken_in_time Live said is) ∙ put_at (row_live x t) rs at is_at

  pub row_dark : (t : ℕ) → true ≡ not (is_late there.sequence_number x.sequence_number) → Termination ≡ x.kind → take_row x t rs ≡ set rs at (row_ended x t)
  row_dark t said is = ap (λ a. rows_after a x t rs) (taken_in_time Termination said is) ∙ put_at (row_ended x t) rs at is_at

  pub row_seen : (t : ℕ) → taken x rs ≡ Observed → take_row x t rs ≡ set rs at (row_observed x there)
  row_seen t is =
      ap (λ a. rows_after a x t rs) is
      ∙ ap (λ o. observed x o rs) (row_at x.source rs at blank is_at)
      ∙ put_at (row_observed x there) rs at (subst (λ s. IsAt rs s at) (sym (is_at.here blank)) is_at)

  pub seen_shows : layers (set rs at (row_observed x there)) ≡ layers rs
  seen_shows = layers_set rs at (row_observed x there) (λ d. ap (λ (o : Option Row). shown_in o) (sym (row_at x.source rs at blank is_at) ∙ row_at x.source rs at d is_at))
    where
      shown_in : Option Row → Option Shown
      shown_in None = None
      shown_in (Some r) = r.shown

-- the same of a source that is not held
module _ (x : Packet) (rs : List Row) (at : ℕ) (gap : IsGap rs x.source at) where
  by_kind : (kind : Kind) → kind ≡ x.kind → taken x rs ≡ take_unknown kind (nat_lt (length rs) MAX_SOURCES)
  by_kind kind is = ap (take_by x (nat_lt (length rs) MAX_SOURCES)) (row_absent x.source rs at gap) ∙ ap (λ k. take_unknown k (nat_lt (length rs) MAX_SOURCES)) (sym is)

  pub ignored_ending : Termination ≡ x.kind → taken x rs ≡ UnknownIgnored
  ignored_ending is = by_kind Termination is

  pub ignored_preview : Preview ≡ x.kind → taken x rs ≡ UnknownIgnored
  ignored_preview is = by_kind Preview is

  pub ignored_other : Other ≡ x.kind → taken x rs ≡ UnknownIgnored
  ignored_other is = by_kind Other is

  pub exceeded : Live ≡ x.kind → MAX_SOURCES ≤ length rs → taken x rs ≡ SourcesExceeded
  exceeded is full = by_kind Live is ∙ ap (take_unknown Live) (no_room (length rs) full)
    where
      no_room : (n : ℕ) → MAX_SOURCES ≤ n → nat_lt n MAX_SOURCES ≡ false
      no_room n le = grind (arith, nat_tests)

  pub admitted : Live ≡ x.kind → length rs < MAX_SOURCES → taken x rs ≡ Held
  admitted is few = by_kind Live is ∙ ap (take_unknown Live) (has_room (length rs) few)
    where
      has_room : (n : ℕ) → n < MAX_SOURCES → nat_lt n MAX_SOURCES ≡ true
      has_room n lt = grind (arith, nat_tests)

-- a test of the limit that answered false
pub few_left : (n : ℕ) → (MAX_SOURCES ≤ n → false ≡ true) → n < MAX_SOURCES
few_left n full =
    let differ : ¬ (false ≡ true) = λ same. cc in
    let not_full : ¬ (MAX_SOURCES ≤ n) = λ le. differ (full le) in
    omega arith

-- rows that are what they were
pub rows_same : (a : Taken) (x : Packet) (t : ℕ) (rs : List Row) → taken x rs ≡ a → rows_after a x t rs ≡ rs → take_row x t rs ≡ rs
rows_same a x t rs is same = ap (λ k. rows_after k x t rs) is ∙ same

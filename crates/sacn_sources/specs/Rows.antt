-- The source table of one universe, by eight-bit numbers: its rows in the order of their sources.
use Rattle.std.specs.Prelude.{ℕ, ◌-◌, nat_lt, max, refl, Bool, true, false, List, [], ◌∷◌, filter, find, length, Option, Some, None}
use Rattle.std.specs.List.{filter_map}
use Rattle.std.specs.Coded.{Coded, code_by, coded×, coded_ℕ, coded_list, coded_option}
use Rattle.sacn_sources.specs.Sequence.{is_late}
use Rattle.sacn_sources.specs.Merge.{Shown, merge}
use Rattle.sacn_sources.specs.Order.{order, same, by_order}
use Rattle.sacn_sources.specs.declared.limits.TheConstants.{MAX_SOURCES, NETWORK_DATA_LOSS}
pub use Rattle.sacn_sources.specs.declared.kind.Kind.{Kind}
pub use Rattle.sacn_sources.specs.declared.kind.Kind.TheVariants.{Termination, Preview, Live, Other}
pub use Rattle.sacn_sources.specs.declared.answer.Taken.{Taken}
pub use Rattle.sacn_sources.specs.declared.answer.Taken.TheVariants.{Held, Observed, EndedNow, OutOfSequence, SourcesExceeded, UnknownIgnored}

-- a source: the number of its latest accepted packet, what it shows (nothing once it has ended), and when it was renewed
pub record Row : Type 0 where
  pub source : List ℕ
  pub sequence_number : ℕ
  pub shown : Option Shown
  pub moment : ℕ

-- what a table is: its rows, and the greatest moment that it was handed
pub record Table : Type 0 where
  pub rows : List Row
  pub moment : ℕ

-- the fields of a data packet that a table reads
pub record Packet : Type 0 where
  pub source : List ℕ
  pub sequence_number : ℕ
  pub kind : Kind
  pub priority : ℕ
  pub levels : List ℕ

abbrev pub row_renewed : ℕ → Row → Bool
row_renewed t r = nat_lt (t - r.moment) NETWORK_DATA_LOSS

-- the rows that are not lost at t
abbrev pub rows_kept : ℕ → List Row → List Row
rows_kept t rs = filter (row_renewed t) rs

-- how many rows are lost at t
abbrev pub rows_lost : ℕ → List Row → ℕ
rows_lost t rs = length rs - length (rows_kept t rs)

abbrev pub row_of : List ℕ → List Row → Option Row
row_of s rs = find (λ r. same s r.source) rs

abbrev pub put_row : Row → List Row → List Row
put_row n [] = n ∷ []
put_row n (r ∷ rs) = by_order (order n.source r.source) (n ∷ r ∷ rs) (n ∷ rs) (r ∷ put_row n rs)

-- ---- the answer to a packet, where rs are the rows after expiry

abbrev pub take_unknown : Kind → Bool → Taken
take_unknown Live true = Held
take_unknown Live false = SourcesExceeded
take_unknown Termination room = UnknownIgnored
take_unknown Preview room = UnknownIgnored
take_unknown Other room = UnknownIgnored

abbrev pub take_known : Kind → Bool → Taken
take_known kind true = OutOfSequence
take_known Termination false = EndedNow
take_known Preview false = Observed
take_known Other false = Observed
take_known Live false = Held

abbrev pub take_by : Packet → Bool → Option Row → Taken
take_by x room None = take_unknown x.kind room
take_by x room (Some r) = take_known x.kind (is_late r.sequence_number x.sequence_number)

abbrev pub taken : Packet → List Row → Taken
taken x rs = take_by x (nat_lt (length rs) MAX_SOURCES) (row_of x.source rs)

-- whether the packet renews its source
abbrev pub renews : Taken → Bool
renews Held = true
renews EndedNow = true
renews Observed = false
renews OutOfSequence = false
renews SourcesExceeded = false
renews UnknownIgnored = false

-- ---- and the rows after it

abbrev pub row_live : Packet → ℕ → Row
row_live x t = record { source = x.source; sequence_number = x.sequence_number; shown = Some (record { priority = x.priority; levels = x.levels }); moment = t }

abbrev pub row_ended : Packet → ℕ → Row
row_ended x t = record { source = x.source; sequence_number = x.sequence_number; shown = None; moment = t }

-- a preview changes a row's number alone
abbrev pub row_observed : Packet → Row → Row
row_observed x r = record { source = r.source; sequence_number = x.sequence_number; shown = r.shown; moment = r.moment }

abbrev pub observed : Packet → Option Row → List Row → List Row
observed x None rs = rs
observed x (Some r) rs = put_row (row_observed x r) rs

abbrev pub rows_after : Taken → Packet → ℕ → List Row → List Row
rows_after Held x t rs = put_row (row_live x t) rs
rows_after EndedNow x t rs = put_row (row_ended x t) rs
rows_after Observed x t rs = observed x (row_of x.source rs) rs
rows_after OutOfSequence x t rs = rs
rows_after SourcesExceeded x t rs = rs
rows_after UnknownIgnored x t rs = rs

abbrev pub take_row : Packet → ℕ → List Row → List Row
take_row x t rs = rows_after (taken x rs) x t rs

-- ---- the steps of a table

abbrev pub new_table : Table
new_table = record { rows = []; moment = 0 }

abbrev pub after_expire : ℕ → Table → Table
after_expire now table = record { rows = rows_kept (max table.moment now) table.rows; moment = max table.moment now }

abbrev pub answer : ℕ → Packet → Table → Taken
answer now x table = taken x (rows_kept (max table.moment now) table.rows)

abbrev pub after_take : ℕ → Packet → Table → Table
after_take now x table = record { rows = take_row x (max table.moment now) (rows_kept (max table.moment now) table.rows); moment = max table.moment now }

-- what the live sources show
abbrev pub layers : List Row → List Shown
layers rs = filter_map (λ r. r.shown) rs

abbrev pub slots_of : List Row → List ℕ
slots_of rs = merge (layers rs)

-- ---- codes

abbrev pub shown_code : Coded Shown
shown_code = code_by (ℕ × List ℕ) (coded× coded_ℕ (coded_list coded_ℕ)) (λ s. (s.priority, s.levels)) (λ p. record { priority = p.0; levels = p.1 }) (λ _. refl)

abbrev pub row_code : Coded Row
row_code = code_by (List ℕ × (ℕ × (Option Shown × ℕ)))
    (coded× (coded_list coded_ℕ) (coded× coded_ℕ (coded× (coded_option shown_code) coded_ℕ)))
    (λ r. (r.source, (r.sequence_number, (r.shown, r.moment))))
    (λ p. record { source = p.0; sequence_number = p.1.0; shown = p.1.1.0; moment = p.1.1.1 }) (λ _. refl)

abbrev pub table_code : Coded Table
table_code = code_by (List Row × ℕ) (coded× (coded_list row_code) coded_ℕ) (λ t. (t.rows, t.moment)) (λ p. record { rows = p.0; moment = p.1 }) (λ _. refl)

-- The universes of a source, and what calls make of them.
use Rattle.std.specs.Prelude.{◌≡◌, ◌≤◌, ℕ, Bool, not, ◌&&◌, ◌==◌, nat_lt, nat_le, if◌then◌else◌, List, [], ◌∷◌, map, filter, find, length, slice_index_or, slice_set, Option, Some, None, Result, Ok, Err}
use Rattle.std.specs.List.{AllByRecursion}
use Rattle.sacn_packets.specs.Universe.{IsUniverse, IsPriority, Rising}
use Rattle.sacn_console.specs.Core.{no_line}
use Rattle.sacn_console.specs.Lines.{is_stopped}
use Rattle.sacn_console.specs.declared.limits.TheConstants.{CONSOLE_UNIVERSES, TERMINATIONS}
use Rattle.sacn_console.specs.declared.line.State.TheVariants.{Running, Ending}
use Rattle.sacn_source.specs.declared.source_universe.SourceUniverse.{SourceUniverse}
use Rattle.sacn_source.specs.declared.fault.SourceFault.{SourceFault}
use Rattle.sacn_source.specs.declared.fault.SourceFault.TheVariants as fault
use Rattle.sacn_source.specs.Rows.{row_in, row_ended, row_showing, row_prior, new_row, dark, slots_of, end_answer, add_answer}

-- what a program asks of a source
pub data Order : Type 0 where
  Add : ℕ → Order
  SetLevels : ℕ → List ℕ → Order
  SetPriority : ℕ → ℕ → Order
  End : ℕ → Order
  EndAll : Order

-- the universes by rising number, and for how many there is room
pub record Table : Type 0 where
  pub room : ℕ
  pub rows : List SourceUniverse

abbrev pub universes_of : List SourceUniverse → List ℕ
universes_of rows = map (λ r. r.line.universe) rows

abbrev pub is_of : ℕ → SourceUniverse → Bool
is_of u r = r.line.universe == u

abbrev pub no_row : SourceUniverse
no_row = record { line = no_line; levels = dark; priority = 0 }

abbrev pub row_at : Table → ℕ → SourceUniverse
row_at t i = slice_index_or t.rows i no_row

-- the universes that are not stopped
unfoldable pub standing : List SourceUniverse → List ℕ
standing rows = universes_of (filter (λ r. not (is_stopped r.line.state)) rows)

-- ---- what an order makes of the universes

-- a universe begins, at its place among the rising ones; one that is there begins again
abbrev pub with_universe : SourceUniverse → List SourceUniverse → List SourceUniverse
with_universe n [] = n ∷ []
with_universe n (r ∷ rs) =
    if n.line.universe == r.line.universe then row_in (Running None) r ∷ rs
    else (if nat_lt n.line.universe r.line.universe then n ∷ r ∷ rs else r ∷ with_universe n rs)

abbrev pub on : ℕ → (SourceUniverse → SourceUniverse) → SourceUniverse → SourceUniverse
on u f r = if r.line.universe == u then f r else r

-- the universe at place i, changed
abbrev pub changed : ℕ → (SourceUniverse → SourceUniverse) → Table → Table
changed i f t = record { room = t.room; rows = map (on (row_at t i).line.universe f) t.rows }

-- the same of the place alone
abbrev pub written : ℕ → (SourceUniverse → SourceUniverse) → Table → Table
written i f t = record { room = t.room; rows = slice_set t.rows i (f (row_at t i)) }

-- the rows after an order that was accepted; `first` is the number of a new universe's first packet, `priority` the sender's
abbrev pub rows_after : ℕ → ℕ → Order → List SourceUniverse → List SourceUniverse
rows_after first priority (Add u) rows = with_universe (new_row first priority u) rows
rows_after first priority (SetLevels u levels) rows = map (on u (row_showing (slots_of levels))) rows
rows_after first priority (SetPriority u p) rows = map (on u (row_prior p)) rows
rows_after first priority (End u) rows = map (on u (row_in (Ending TERMINATIONS))) rows
rows_after first priority EndAll rows = map row_ended rows

-- ---- what is answered

abbrev pub for_row : (SourceUniverse → Result (Unit {0}) SourceFault) → Option SourceUniverse → Result (Unit {0}) SourceFault
for_row f None = Err fault.NoUniverse
for_row f (Some r) = f r

abbrev pub room_answer : Table → Result (Unit {0}) SourceFault
room_answer t = if nat_lt (length t.rows) t.room then Ok tt else Err fault.Full

abbrev pub add_by : Table → Option SourceUniverse → Result (Unit {0}) SourceFault
add_by t None = room_answer t
add_by t (Some r) = add_answer r.line.state

abbrev pub unless : Bool → SourceFault → Result (Unit {0}) SourceFault
unless b f = if b then Err f else Ok tt

unfoldable pub answer : Order → Table → Result (Unit {0}) SourceFault
answer (Add u) t = if nat_le 1 u && nat_le u 63999 then add_by t (find (is_of u) t.rows) else Err fault.BadUniverse
answer (SetLevels u levels) t = for_row (λ r. unless (nat_lt 512 (length levels)) fault.TooMany) (find (is_of u) t.rows)
answer (SetPriority u p) t = for_row (λ r. unless (nat_lt 200 p) fault.BadPriority) (find (is_of u) t.rows)
answer (End u) t = for_row (λ r. end_answer r.line.state) (find (is_of u) t.rows)
answer EndAll t = Ok tt

-- what is answered of a call that says more
abbrev pub done : {X : Type 0} → Result X SourceFault → Result (Unit {0}) SourceFault
done (Ok x) = Ok tt
done (Err f) = Err f

-- a table that changed, where that was accepted
abbrev pub kept_or : Result (Unit {0}) SourceFault → Table → Table → Table
kept_or (Ok x) new old = new
kept_or (Err e) new old = old

-- the universes after an order: a refused one leaves them as they were
abbrev pub taken : ℕ → ℕ → Order → Result (Unit {0}) SourceFault → Table → Table
taken first priority order (Ok x) t = record { room = t.room; rows = rows_after first priority order t.rows }
taken first priority order (Err e) t = t

-- ---- what holds of each row and of all

pub record RowOk (r : SourceUniverse) : Type 0 where
  pub universe : IsUniverse r.line.universe
  pub levels : length r.levels ≡ 512
  pub priority : IsPriority r.priority

pub record TableOk (t : Table) : Type 0 where
  pub rising : Rising (universes_of t.rows)
  pub all : AllByRecursion RowOk t.rows
  pub few : length t.rows ≤ t.room
  pub room : t.room ≤ CONSOLE_UNIVERSES

-- What the steps of a table have in common with the plain rule, after every history.
use Rattle.std.specs.Prelude.{◌≡◌, ℕ, ◌≤◌, ◌-◌, ◌^◌, min, List, length, AllPairs}
use Rattle.std.specs.Option.{option_map}
use Rattle.std.specs.FinMap.{get}
use Rattle.std.specs.declared.cmp.Ordering.TheVariants.{Less}
use Rattle.sacn_sources.specs.Order.{order}
use Rattle.sacn_sources.specs.declared.limits.TheConstants.{MAX_SOURCES}
use Rattle.sacn_sources.specs.Rows.{Row, row_of}
use Rattle.sacn_sources.specs.Calls.{Call, answer_to, after_calls, moment_in_use, IsGreatestMoment}
use Rattle.sacn_sources.specs.PlainRule.{Entry, Sources, unexpired, unless_expired, held_after, plain_rule, renewal_count}

abbrev pub row_with : List ℕ → Entry → Row
row_with cid e = record { source = cid; sequence_number = e.sequence_number; shown = e.shown; moment = e.moment }

-- each answer is that of the plain rule
abbrev pub AnswersByThePlainRule : Type 0
AnswersByThePlainRule = (call : Call) (earlier : List Call) → answer_to call (after_calls earlier) ≡ plain_rule call earlier

-- the table holds a source exactly where the plain rule does, with the same number, levels and moment
abbrev pub HoldsByThePlainRule : Type 0
HoldsByThePlainRule = (calls : List Call) (cid : List ℕ) → row_of cid (after_calls calls).table.rows ≡ option_map (row_with cid) (get (held_after calls) cid)

-- the moment in use is the greatest that was handed in, 0 at first
abbrev pub UsesTheGreatestMoment : Type 0
UsesTheGreatestMoment = (calls : List Call) → ((after_calls calls).table.moment ≡ moment_in_use calls) × IsGreatestMoment calls (moment_in_use calls)

-- a source stays held until it expires
abbrev pub ExpiresAlone : Type 0
ExpiresAlone = (t : ℕ) (held : Sources) (cid : List ℕ) → get (unexpired t held) cid ≡ unless_expired t (get held cid)

-- the rows rise strictly by CID, and there are at most `MAX_SOURCES`
abbrev pub RowsRise : Type 0
RowsRise = (calls : List Call) → AllPairs (λ (a b : Row). order a.source b.source ≡ Less) (after_calls calls).table.rows
    × (length (after_calls calls).table.rows ≤ MAX_SOURCES)

-- the renewals are the merges that were made anew, as far as a u64 counts
abbrev pub CountsRenewals : Type 0
CountsRenewals = (calls : List Call) → (after_calls calls).renewals ≡ min (renewal_count calls) (2 ^ 64 - 1)

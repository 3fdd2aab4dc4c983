-- The plain rule of one universe: what a receiver answers and holds after a history of calls, in one finite map by CID.
-- A source has the number of its latest accepted packet, what it shows (nothing once it has ended), and its moment.
use Rattle.std.specs.Prelude.{ℕ, ◌+◌, ◌-◌, nat_lt, Bool, true, false, not, ◌&&◌, ◌||◌, List, [], ◌∷◌, filter, is_some, Option, Some, None, if◌then◌else◌}
use Rattle.std.specs.List.{filter_map, list_any}
use Rattle.std.specs.FinMap.{FinMap, empty, get, insert, len, entries, from_sorted}
use Rattle.sacn_sources.specs.Sequence.{is_late}
use Rattle.sacn_sources.specs.Merge.{Shown, merge}
use Rattle.sacn_sources.specs.Order.{order}
use Rattle.sacn_sources.specs.declared.limits.TheConstants.{MAX_SOURCES, NETWORK_DATA_LOSS}
use Rattle.sacn_sources.specs.Rows.{Packet, Kind, Termination, Preview, Live, Other}
use Rattle.sacn_sources.specs.Rows.{Taken, Held, Observed, EndedNow, OutOfSequence, SourcesExceeded, UnknownIgnored}
use Rattle.sacn_sources.specs.Calls.{Call, Take, Expire, Merge, Answer, Took, Expired, Slots, moment_in_use}

pub record Entry : Type 0 where
  pub sequence_number : ℕ
  pub shown : Option Shown
  pub moment : ℕ

abbrev pub Sources : Type 0
Sources = FinMap order Entry

-- ---- expiry (E1.31, 6.7.1, network data loss)

abbrev pub is_unexpired : ℕ → Entry → Bool
is_unexpired t e = nat_lt (t - e.moment) NETWORK_DATA_LOSS

unfoldable pub unexpired : ℕ → Sources → Sources
unexpired t held = from_sorted (filter (λ e. is_unexpired t e.1) (entries held))

-- read at one source
abbrev pub unless_expired : ℕ → Option Entry → Option Entry
unless_expired t None = None
unless_expired t (Some e) = if is_unexpired t e then Some e else None

-- ---- the source table (E1.31, 6.2.6 and 6.7), in words of its own: it cites nothing of the contract's table of answers, which must agree with it

-- its levels are for the stage: no termination, no preview, start code 0
abbrev pub is_live : Kind → Bool
is_live Live = true
is_live Termination = false
is_live Preview = false
is_live Other = false

abbrev pub is_termination : Kind → Bool
is_termination Termination = true
is_termination Preview = false
is_termination Live = false
is_termination Other = false

-- the packet of a source that is not held is ignored unless it is live, and then held where there is room
abbrev pub unknown_answer : Kind → Bool → Taken
unknown_answer kind room = if not (is_live kind) then UnknownIgnored else (if room then Held else SourcesExceeded)

-- of one that is held a packet out of sequence is discarded, whatever it says; a termination ends it, a live packet is shown, and
-- any other tells its number alone
abbrev pub known_answer : Kind → Bool → Taken
known_answer kind late = if late then OutOfSequence else (if is_termination kind then EndedNow else (if is_live kind then Held else Observed))

-- a source is renewed by what is shown and by what ends it
abbrev pub is_renewed_by : Taken → Bool
is_renewed_by Held = true
is_renewed_by EndedNow = true
is_renewed_by Observed = false
is_renewed_by OutOfSequence = false
is_renewed_by SourcesExceeded = false
is_renewed_by UnknownIgnored = false

-- ---- a packet at t, over the sources that are not expired: its answer, and what is held after it

pub record Outcome : Type 0 where
  pub answer : Taken
  pub held : Sources

abbrev pub live : Packet → ℕ → Entry
live x t = record { sequence_number = x.sequence_number; shown = Some (record { priority = x.priority; levels = x.levels }); moment = t }

abbrev pub ended_entry : Packet → ℕ → Entry
ended_entry x t = record { sequence_number = x.sequence_number; shown = None; moment = t }

-- the number alone
abbrev pub renumbered : Packet → Entry → Entry
renumbered x e = record { sequence_number = x.sequence_number; shown = e.shown; moment = e.moment }

-- what is held after this answer, where o is what is held of the source
abbrev pub held_by : Taken → ℕ → Packet → Option Entry → Sources → Sources
held_by Held t x o held = insert held x.source (live x t)
held_by EndedNow t x o held = insert held x.source (ended_entry x t)
held_by Observed t x None held = held
held_by Observed t x (Some e) held = insert held x.source (renumbered x e)
held_by OutOfSequence t x o held = held
held_by SourcesExceeded t x o held = held
held_by UnknownIgnored t x o held = held

abbrev pub answer_for : Packet → Sources → Option Entry → Taken
answer_for x held None = unknown_answer x.kind (nat_lt (len held) MAX_SOURCES)
answer_for x held (Some e) = known_answer x.kind (is_late e.sequence_number x.sequence_number)

abbrev pub row_for : ℕ → Packet → Sources → Option Entry → Outcome
row_for t x held o = record { answer = answer_for x held o; held = held_by (answer_for x held o) t x o held }

abbrev pub source_row : ℕ → Packet → Sources → Outcome
source_row t x held = row_for t x held (get held x.source)

-- ---- over a history

abbrev pub change : ℕ → Call → Sources → Sources
change t (Take now x) held = (source_row t x held).held
change t (Expire now) held = held
change t (Merge now) held = held

-- what is held after a history
abbrev pub held_after : List Call → Sources
held_after [] = empty
held_after (call ∷ earlier) = let t = moment_in_use (call ∷ earlier) in change t call (unexpired t (held_after earlier))

-- what is shown
abbrev pub shown_by : Sources → List Shown
shown_by held = filter_map (λ e. e.1.shown) (entries held)

abbrev pub answer_at : ℕ → Call → Sources → Answer
answer_at t (Take now x) held = Took (source_row t x (unexpired t held)).answer
answer_at t (Expire now) held = Expired (len held - len (unexpired t held))
answer_at t (Merge now) held = Slots (merge (shown_by (unexpired t held)))

-- the answer to a call after a history
abbrev pub plain_rule : Call → List Call → Answer
plain_rule call earlier = answer_at (moment_in_use (call ∷ earlier)) call (held_after earlier)

-- ---- which merges are made anew

-- a live source expires at t
abbrev pub expires_live : ℕ → Sources → Bool
expires_live t held = list_any (λ e. not (is_unexpired t e.1) && is_some e.1.shown) (entries held)

abbrev pub renews_source : Answer → Bool
renews_source (Took taken) = is_renewed_by taken
renews_source (Expired n) = false
renews_source (Slots s) = false

-- at this call a live source expires, or a packet renews its source
abbrev pub is_news : Call → List Call → Bool
is_news call earlier = expires_live (moment_in_use (call ∷ earlier)) (held_after earlier) || renews_source (plain_rule call earlier)

abbrev pub since_merge : Call → Bool → Bool
since_merge (Take now x) news = news
since_merge (Expire now) news = news
since_merge (Merge now) news = false

-- there was no merge yet, or news since the latest one
abbrev pub is_due : List Call → Bool
is_due [] = true
is_due (call ∷ earlier) = since_merge call (is_due earlier || is_news call earlier)

abbrev pub is_merge : Call → Bool
is_merge (Take now x) = false
is_merge (Expire now) = false
is_merge (Merge now) = true

-- how many merges were made anew
abbrev pub renewal_count : List Call → ℕ
renewal_count [] = 0
renewal_count (call ∷ earlier) = renewal_count earlier + (if is_merge call && (is_due earlier || is_news call earlier) then 1 else 0)

-- What is sent on a universe over any list of calls.
use Rattle.std.specs.Prelude.{◌≡◌, ℕ, true, ◌==◌, List, length, find, Option, Some, Ok}
use Rattle.std.specs.List.{list_any}
use Rattle.std.specs.Option.{option_map}
use Rattle.sacn_sources.specs.Calls as table
use Rattle.sacn_sources.specs.Rows.{slots_of}
use Rattle.sacn_console.specs.declared.sender.Sender.{Sender}
use Rattle.sacn_source.specs.Table.{is_of}
use Rattle.sacn_source.specs.Source.{Source, new_source}
use Rattle.sacn_played_source.specs.Played.{add_all}
use Rattle.sacn_played_source.specs.Calls.{Call, after_calls, told, is_own, levels_sent}

-- the levels that a source has for a universe
abbrev pub levels_on : ℕ → Source → Option (List ℕ)
levels_on u c = option_map (λ r. r.levels) (find (is_of u) c.table.rows)

-- On each universe, over any list of calls, what is sent is what the list says.
abbrev pub SendsWhatTheListSays : Type 0
SendsWhatTheListSays = (sender : Sender) (us : List ℕ) (first : ℕ) (calls : List Call) (u : ℕ)
    → add_all us (new_source sender (length us) first) ≡ Ok tt
    → list_any (λ v. v == u) us ≡ true
    → levels_on u (after_calls sender us first calls).source ≡ Some (levels_sent u calls)

-- Where a packet renewed a source since the recording began, or 2500 ms of it have passed since, that is the merge of what a table holds that
-- was told the same datagrams at the same moments.
abbrev pub SendsWhatIsHeld : Type 0
SendsWhatIsHeld = (sender : Sender) (us : List ℕ) (first : ℕ) (calls : List Call) (u : ℕ)
    → add_all us (new_source sender (length us) first) ≡ Ok tt
    → list_any (λ v. v == u) us ≡ true
    → is_own (told u calls) ≡ true
    → levels_on u (after_calls sender us first calls).source ≡ Some (slots_of (table.after_calls (told u calls)).table.rows)

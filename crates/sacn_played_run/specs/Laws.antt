-- What a recording that is played as a source comes to.
use Rattle.std.specs.Prelude.{◌≡◌, ℕ, true, ◌==◌, List, [], ◌∷◌, ◌++◌, map, length, Some, Ok}
use Rattle.std.specs.List.{list_any}
use Rattle.sacn_console.specs.declared.sender.Sender.{Sender}
use Rattle.sacn_source.specs.Source.{new_source}
use Rattle.sacn_replay.specs.Runs.{Player, run_sends}
use Rattle.sacn_played_source.specs.Played.{add_all, new_played}
use Rattle.sacn_played_source.specs.Calls.{Call, Hear, Advance, Rewind, Poll, EndAll, levels_sent}
use Rattle.sacn_played_source.specs.Laws.{levels_on}
use Rattle.sacn_played_run.specs.Calls.{after}
use Rattle.sacn_played_run.specs.Rounds.{SourceRound, bare, run_calls}
use Rattle.sacn_played_run.specs.Endings.{EndRound, end_calls}

-- the datagrams that some calls take, in their order
abbrev pub heard_in : List Call → List (List ℕ)
heard_in [] = []
heard_in (Hear moment octets ∷ earlier) = heard_in earlier ++ octets ∷ []
heard_in (Advance moment ∷ earlier) = heard_in earlier
heard_in (Rewind ∷ earlier) = heard_in earlier
heard_in (Poll now ∷ earlier) = heard_in earlier
heard_in (EndAll ∷ earlier) = heard_in earlier

-- What is taken is what a player of these rounds hands over.
abbrev pub TakesWhatIsDue : Type 0
TakesWhatIsDue = (p : Player) (rs : List SourceRound) (es : List EndRound)
    → heard_in (end_calls es ++ run_calls p rs) ≡ run_sends p (map bare rs)

-- What a new source then sends on each universe is what its list of calls says.
abbrev pub SendsWhatTheListSays : Type 0
SendsWhatTheListSays = (sender : Sender) (us : List ℕ) (first : ℕ) (p : Player) (rs : List SourceRound) (es : List EndRound) (u : ℕ)
    → add_all us (new_source sender (length us) first) ≡ Ok tt
    → list_any (λ v. v == u) us ≡ true
    → levels_on u (after (end_calls es ++ run_calls p rs) (new_played sender us first)).source ≡ Some (levels_sent u (end_calls es ++ run_calls p rs))

-- What a viewer is owed of the events that are made for all who look at one universe. Each event has a number of its own, from 1 on.
use Rattle.std.specs.Prelude.{◌≡◌, ℕ, ◌==◌, ◌||◌, ◌⊎◌, nat_le, Bool, not, max, List, [], ◌++◌, codes, string_bytes, None, Option, if◌then◌else◌}
use Rattle.sacn_page.specs.declared.board.Board.{Board}
use Rattle.sacn_page.specs.declared.feed.Feed.{Feed}
use Rattle.sacn_page.specs.declared.feed.Owed.{Owed}
use Rattle.sacn_page.specs.declared.feed.Owed.TheVariants.{Nothing, Change, Whole}
use Rattle.sacn_page.specs.WholeDocuments.{document}

-- the latest event says what changed since the one before; a viewer that was given the event `seen` last, or none (0), is owed nothing where no
-- later one was made, else that change, or all: never an event that is older than the latest
abbrev pub owed : ℕ → ℕ → ℕ → Owed
owed latest before seen =
    if nat_le latest seen then Nothing
    else (if seen == 0 then Whole
    else (if seen == before then Change else Whole))

-- once a further event is made, one that was given this event last is owed all
abbrev pub misses : ℕ → ℕ → Bool
misses latest seen = (seen == 0) || not (seen == latest)

-- what is sent to one that is owed this
abbrev pub owed_text : Owed → Feed → List ℕ
owed_text Nothing f = []
owed_text Change f = string_bytes f.change
owed_text Whole f = string_bytes f.whole

-- a further event was made: it has this number, and says what changed since the latest; or there was nothing to say
unfoldable pub IsFollowed : ℕ → Feed → Feed → Type 0
IsFollowed number old new =
    ((new.latest ≡ number) × (new.before ≡ old.latest))
    ⊎ ((new.latest ≡ old.latest) × (new.before ≡ old.before) × (new.change ≡ old.change))

-- an event of this name, of data in one line (HTML, server-sent events)
unfoldable pub event_text : List ℕ → List ℕ → List ℕ
event_text name text = codes "event: " ++ (name ++ (codes "\ndata: " ++ (text ++ codes "\n\n")))

-- the whole document of those who name this universe, or none
abbrev pub state_event : Board → Option ℕ → List ℕ
state_event b named = event_text (codes "state") (document None b named)

-- where it is wanted
abbrev pub whole_text : Bool → Board → Option ℕ → List ℕ
whole_text is_wanted b named = if is_wanted then state_event b named else []

-- when the next event is made: at most so often, and where there is nothing to say only at the beat
abbrev pub next_event : ℕ → ℕ → Bool → ℕ
next_event least beat is_wanted = if is_wanted then least else max least beat

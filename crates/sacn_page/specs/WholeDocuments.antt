-- The document of a viewer as a whole.
use Rattle.std.specs.Prelude.{ℕ, ◌==◌, List, [], ◌∷◌, ◌++◌, codes, find, map, replicate, option_and_then, Option, None, Some}
use Rattle.std.specs.Option.{option_or}
use Rattle.sacn_packets.specs.declared.universe.TheConstants.{SLOTS}
use Rattle.sacn_monitor.specs.declared.stream.Stream.{Stream}
use Rattle.sacn_network.specs.LitUniverses.{Lit, giver_places}
use Rattle.sacn_network.specs.Sets.{universes_in}
use Rattle.sacn_tell.specs.Members.{key_text}
use Rattle.sacn_tell.specs.Numbers.{numbers_member}
use Rattle.sacn_page.specs.declared.board.Board.{Board}
use Rattle.sacn_page.specs.declared.scene.Facts.{Facts}
use Rattle.sacn_page.specs.AlarmTexts.{alarms_member}
use Rattle.sacn_page.specs.Documents.{counts_member, counts_of, digits_member, facts_object, first_number, long_digits_member, sources_member, universe_member}
use Rattle.sacn_page.specs.Marks.{mark_of}

-- the universe of the first source that was heard
abbrev pub first_heard : List Stream → Option ℕ
first_heard [] = None
first_heard (s ∷ ss) = Some s.universe

-- the universe that is shown: the one that is named, else the preferred one, else the first heard
abbrev pub universe_shown : Option ℕ → Option ℕ → List Stream → Option ℕ
universe_shown named preferred streams = option_or (option_or named preferred) (first_heard streams)

-- a universe as it is merged, where it is
abbrev pub lit_of : List Lit → Option ℕ → Option Lit
lit_of lits universe = option_and_then (λ u. find (λ lit. lit.universe == u) lits) universe

-- its levels, all 0 where it isn't merged
abbrev pub levels_of : Option Lit → List ℕ
levels_of None = replicate SLOTS 0
levels_of (Some lit) = lit.shown

-- and who gives them, as marks of these streams
abbrev pub winners_of : List Stream → Option Lit → List ℕ
winners_of streams None = replicate SLOTS 0
winners_of streams (Some lit) = map mark_of (giver_places lit.universe streams lit.givers)

unfoldable pub lit_members : List Stream → Option Lit → List ℕ
lit_members streams lit = digits_member (codes "levels") (levels_of lit) ++ long_digits_member (codes "winners") (winners_of streams lit)

-- what is known of a recording, where it is one
abbrev pub recording_member : Option Facts → List ℕ
recording_member None = []
recording_member (Some facts) = key_text (codes "recording") ++ facts_object facts

-- all that a viewer is shown who names this universe, or none
unfoldable pub document : Option Facts → Board → Option ℕ → List ℕ
document facts b named =
    let monitor = b.network.monitor in
    let universe = universe_shown named b.preferred monitor.streams in
    first_number (codes "ms") monitor.moment ++ (recording_member facts
    ++ (universe_member universe ++ (numbers_member (codes "heard") (universes_in b.network.heard)
    ++ (sources_member monitor.moment monitor.streams ++ (lit_members monitor.streams (lit_of b.lit.items universe)
    ++ (alarms_member 0 monitor.streams b.alarms ++ (counts_member (counts_of monitor.tally) ++ codes "}")))))))

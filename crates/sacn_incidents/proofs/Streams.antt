-- A deed is of the stream at its place.
use Rattle.std.proofs.Common.{◌≡◌, ℕ, ◌+◌, drop, slice_get, Option, None, Some, refl, ap}
use Rattle.std.specs.List.{position}
use Rattle.std.specs.Option.{option_and_then, option_map}
use Rattle.sacn_monitor.specs.declared.stream.Stream.{Stream}
use Rattle.sacn_monitor.specs.Books.{Book}
use Rattle.sacn_network.specs.Contests.{takes_part}
use Rattle.sacn_network.specs.declared.occurrence.Contest.{Contest as ContestOf}
use Rattle.sacn_network.specs.declared.occurrence.What.TheVariants.{Contest, Heard, Lost, Refused, Untracked}
use Rattle.sacn_incidents.specs.declared.deed.Act.{Act}
use Rattle.sacn_incidents.specs.declared.deed.Act.TheVariants.{IsLost, Meets}
use Rattle.sacn_incidents.specs.declared.deed.Rival.{Rival}
use Rattle.sacn_incidents.specs.Deeds.{deed_at, deed_by, meeting_by, presence_of, rival_at}
use Rattle.sacn_incidents.specs.Calls.{DeedsAreOfStreams, IsOfStream}

found : (at : ℕ) (act : Act) (place : ℕ) (b : Book) (o : Option Stream) → slice_get b.streams place ≡ o → IsOfStream b (option_map (deed_by at act place) o)
found at act place b None is = refl
found at act place b (Some s) is = ap (option_map (λ (t : Stream). t.cid)) is

at_place : (at : ℕ) (act : Act) (place : ℕ) (b : Book) → IsOfStream b (deed_at at act place b.streams)
at_place at act place b = found at act place b (slice_get b.streams place) refl

acting : (at place : ℕ) (b : Book) (o : Option Act) → IsOfStream b (option_and_then (λ act. deed_at at act place b.streams) o)
acting at place b None = refl
acting at place b (Some act) = at_place at act place b

meeting : (at : ℕ) (b : Book) (place : ℕ) (o : Option Rival) → IsOfStream b (option_and_then (λ rival. deed_at at (Meets rival) place b.streams) o)
meeting at b place None = refl
meeting at b place (Some rival) = at_place at (Meets rival) place b

contest : (at : ℕ) (c : ContestOf) (b : Book) (o : Option ℕ) → IsOfStream b (option_and_then (meeting_by at c b.streams) o)
contest at c b None = refl
contest at c b (Some place) = meeting at b place (rival_at at c (drop (place + 1) b.streams))

pub of_streams : DeedsAreOfStreams
of_streams at (Lost place) b = at_place at IsLost place b
of_streams at (Heard place news) b = acting at place b (presence_of news.event)
of_streams at (Contest c) b = contest at c b (position (takes_part at c) b.streams)
of_streams at (Refused sender fault) b = refl
of_streams at (Untracked sender) b = refl

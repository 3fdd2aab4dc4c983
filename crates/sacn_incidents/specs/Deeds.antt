-- What a source does on a universe, out of what a network tells.
use Rattle.std.specs.Prelude.{ℕ, Bool, true, false, not, ◌&&◌, ◌==◌, ◌+◌, List, drop, slice_get, Option, None, Some}
use Rattle.std.specs.Str.{bytes_eq}
use Rattle.std.specs.List.{position}
use Rattle.std.specs.Option.{option_and_then, option_map}
use Rattle.sacn_monitor.specs.declared.stream.Stream.{Stream}
use Rattle.sacn_monitor.specs.declared.news.StreamEvent.{StreamEvent}
use Rattle.sacn_monitor.specs.declared.news.StreamEvent.TheVariants.{Appeared, CameBack, Ended}
use Rattle.sacn_monitor.specs.Books.{Book}
use Rattle.sacn_network.specs.declared.occurrence.Contest.{Contest as ContestOf}
use Rattle.sacn_network.specs.Contests.{takes_part}
use Rattle.sacn_network.specs.declared.occurrence.What.{What}
use Rattle.sacn_network.specs.declared.occurrence.What.TheVariants.{Contest, Heard, Lost, Refused, Untracked}
use Rattle.sacn_incidents.specs.declared.deed.Act.{Act}
use Rattle.sacn_incidents.specs.declared.deed.Act.TheVariants.{Appears, IsBack, Ends, IsLost, Meets}
use Rattle.sacn_incidents.specs.declared.deed.Rival.{Rival}
use Rattle.sacn_incidents.specs.declared.deed.Deed.{Deed}

abbrev pub same_rival : Rival → Rival → Bool
same_rival a b = bytes_eq a.cid b.cid && (a.priority == b.priority) && (a.sources == b.sources)

-- one kind of deed, with one rival
abbrev pub same_act : Act → Act → Bool
same_act Appears Appears = true
same_act IsBack IsBack = true
same_act Ends Ends = true
same_act IsLost IsLost = true
same_act (Meets a) (Meets b) = same_rival a b
same_act _ _ = false

-- an act of the source of the stream at a place
abbrev pub deed_by : ℕ → Act → ℕ → Stream → Deed
deed_by at act place s = record { source = s.cid; act = act; place = place; at = at }

abbrev pub deed_at : ℕ → Act → ℕ → List Stream → Option Deed
deed_at at act place ss = option_map (deed_by at act place) (slice_get ss place)

-- what changes whether a source is there; no other event does
abbrev pub presence_of : StreamEvent → Option Act
presence_of Appeared = Some Appears
presence_of CameBack = Some IsBack
presence_of Ended = Some Ends
presence_of _ = None

abbrev pub rival_by : ContestOf → Stream → Rival
rival_by c s = record { cid = s.cid; priority = c.priority; sources = c.sources }

-- the first of these that does
abbrev pub rival_at : ℕ → ContestOf → List Stream → Option Rival
rival_at at c ss = option_and_then (λ place. option_map (rival_by c) (slice_get ss place)) (position (takes_part at c) ss)

-- the first that does, where it meets another one behind it
abbrev pub meeting_by : ℕ → ContestOf → List Stream → ℕ → Option Deed
meeting_by at c ss place = option_and_then (λ rival. deed_at at (Meets rival) place ss) (rival_at at c (drop (place + 1) ss))

abbrev pub meeting_at : ℕ → ContestOf → List Stream → Option Deed
meeting_at at c ss = option_and_then (meeting_by at c ss) (position (takes_part at c) ss)

-- what an occurrence tells of a source; a datagram that is refused, or for which there is no room, tells of none
abbrev pub deed_of : ℕ → What → Book → Option Deed
deed_of at (Lost place) b = deed_at at IsLost place b.streams
deed_of at (Heard place news) b = option_and_then (λ act. deed_at at act place b.streams) (presence_of news.event)
deed_of at (Contest c) b = meeting_at at c b.streams
deed_of at (Refused sender fault) b = None
deed_of at (Untracked sender) b = None

-- What a link and a clock over memory tell.
use Rattle.std.specs.Prelude.{◌==◌, ◌||◌, ℕ, List, Option, None, Some, if◌then◌else◌}
use Rattle.sacn_edge.specs.Hearings.{Transcript}
use Rattle.sacn_edge.specs.MemoryItems.{first_heard, answered_from, first_readings}
use Rattle.sacn_edge.specs.declared.memory.Incoming.{Incoming}
use Rattle.sacn_edge.specs.declared.memory.MemoryLink.{MemoryLink}
use Rattle.sacn_edge.specs.declared.memory.ListClock.{ListClock}

-- the count that can't grow any more
abbrev pub LAST_COUNT : ℕ
LAST_COUNT = 18446744073709551615

-- a link tells its transcript until it lost a datagram for want of memory, or can't count its receives any more
abbrev pub link_told : MemoryLink → Option Transcript
link_told l =
    if l.lost || (l.received == LAST_COUNT) then None
    else Some (record { heard = first_heard l.incoming.items l.received; handed = answered_from l.failing 0 l.handed.items })

-- a clock tells its readings until it can't count them any more
abbrev pub clock_told : ListClock → Option (List ℕ)
clock_told c = if c.count == LAST_COUNT then None else Some (first_readings c.list.items c.count)

-- what a link will bring, in order, and the number of the send that will fail
abbrev pub brings : MemoryLink → List Incoming
brings l = l.incoming.items

abbrev pub fails : MemoryLink → Option ℕ
fails l = l.failing

-- the list that a clock reads
abbrev pub reads : ListClock → List ℕ
reads c = c.list.items

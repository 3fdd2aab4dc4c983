-- A recording played as a source: its universes, and what the calls make of them and of the source.
use Rattle.std.specs.Prelude.{ℕ, Bool, false, ◌==◌, nat_lt, if◌then◌else◌, ◌*◌, ◌-◌, List, map, length, position, slice_index_or, slice_set, Option, Some, None, Result, Ok, Err, [], ◌∷◌}
use Rattle.sacn_packets.specs.Data.{Data}
use Rattle.sacn_packets.specs.PacketReading.{Reading}
use Rattle.sacn_packets.specs.declared.framing.packet.Packet.TheVariants.{DataPacket, PagePacket, SyncPacket}
use Rattle.sacn_sources.specs.Packets.{packet_of}
use Rattle.sacn_console.specs.Lines.{Datagram, Packet, Paged}
use Rattle.sacn_console.specs.declared.limits.TheConstants.{CONSOLE_UNIVERSES, TERMINATIONS}
use Rattle.sacn_console.specs.declared.sender.Sender.{Sender}
use Rattle.sacn_source.specs.declared.fault.SourceFault.{SourceFault}
use Rattle.sacn_source.specs.declared.fault.SourceFault.TheVariants as fault
use Rattle.sacn_source.specs.Table.{Add, EndAll, answer}
use Rattle.sacn_source.specs.Source as source
use Rattle.sacn_source.specs.Source.{Source, new_source, after_order, due, at}
use Rattle.sacn_played_source.specs.declared.played_universe.PlayedUniverse.{PlayedUniverse}
use Rattle.sacn_played_source.specs.Universes.{is_of, new_universe, rewound, taken, merged, sent_from, all_sent}

-- its universes, the source that sends them, and once all were ended how many terminated packets are left to send
pub record Played : Type 0 where
  pub universes : List PlayedUniverse
  pub source : Source
  pub owed : Option ℕ

-- ---- the beginning

abbrev pub then_add : Result (Unit {0}) SourceFault → Result (Unit {0}) SourceFault → Result (Unit {0}) SourceFault
then_add (Ok x) later = later
then_add (Err fault) later = Err fault

-- the answer of a source to whom these universes are added in turn
abbrev pub add_all : List ℕ → Source → Result (Unit {0}) SourceFault
add_all [] c = Ok tt
add_all (u ∷ us) c = then_add (answer (Add u) c.table) (add_all us (after_order (Add u) c))

abbrev pub after_adds : List ℕ → Source → Source
after_adds [] c = c
after_adds (u ∷ us) c = after_adds us (after_order (Add u) c)

-- why none is made, where no request for memory is refused
abbrev pub new_answer : Sender → List ℕ → ℕ → Result (Unit {0}) SourceFault
new_answer sender us first =
    if nat_lt CONSOLE_UNIVERSES (length us) then Err fault.Full
    else (if nat_lt 200 sender.priority then Err fault.BadPriority else add_all us (new_source sender (length us) first))

abbrev pub new_played : Sender → List ℕ → ℕ → Played
new_played sender us first = record { universes = map new_universe us; source = after_adds us (new_source sender (length us) first); owed = None }

-- ---- what the recording says

-- a packet of the universe at a place
abbrev pub taken_at : ℕ → Data → ℕ → Played → Played
taken_at moment d i p =
    let o : PlayedUniverse = merged moment (taken moment (packet_of d) (slice_index_or p.universes i (new_universe d.universe))) in
    record { universes = slice_set p.universes i o; source = sent_from o p.source; owed = p.owed }

abbrev pub taken_by : ℕ → Data → Option ℕ → Played → Played
taken_by moment d None p = p
taken_by moment d (Some i) p = taken_at moment d i p

-- what a datagram was read as: a data packet of one of its universes changes that one alone, everything else nothing
abbrev pub after_reading : ℕ → Reading → Played → Played
after_reading moment (Ok (DataPacket d)) p = taken_by moment d (position (is_of d.universe) p.universes) p
after_reading moment (Ok (PagePacket page)) p = p
after_reading moment (Ok SyncPacket) p = p
after_reading moment (Err fault) p = p

-- the recording is at this moment
abbrev pub after_advance : ℕ → Played → Played
after_advance moment p =
    let os : List PlayedUniverse = map (merged moment) p.universes in
    record { universes = os; source = all_sent os p.source; owed = p.owed }

-- the recording begins anew: what is sent stays
abbrev pub after_rewind : Played → Played
after_rewind p = record { universes = map rewound p.universes; source = p.source; owed = p.owed }

-- ---- what is sent

-- once all were ended, each data packet is a terminated one
abbrev pub owed_after : Option Datagram → Option ℕ → Option ℕ
owed_after d None = None
owed_after None (Some n) = Some n
owed_after (Some (Packet d)) (Some n) = Some (n - 1)
owed_after (Some (Paged p)) (Some n) = Some n

abbrev pub after_poll : ℕ → Played → Played
after_poll now p = record { universes = p.universes; source = source.after_poll now p.source; owed = owed_after (due (at now p.source)) p.owed }

-- three for each universe (E1.31, 6.2.6), at the first call
abbrev pub owed_at_end : ℕ → Option ℕ → Option ℕ
owed_at_end universes None = Some (universes * TERMINATIONS)
owed_at_end universes (Some n) = Some n

abbrev pub after_end_all : Played → Played
after_end_all p = record { universes = p.universes; source = after_order EndAll p.source; owed = owed_at_end (length p.universes) p.owed }

-- all terminated packets were given
abbrev pub none_left : Option ℕ → Bool
none_left None = false
none_left (Some n) = n == 0

abbrev pub has_ended : Played → Bool
has_ended p = none_left p.owed

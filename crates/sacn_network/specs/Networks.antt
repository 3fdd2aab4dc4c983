-- A network, and the steps that its calls make.
use Rattle.std.specs.Prelude.{◌≡◌, ℕ, ◌<◌, ◌≤◌, ◌-◌, ◌^◌, max, List, ◌++◌, Result}
use Rattle.sacn_packets.specs.declared.root.fault.PacketFault.{PacketFault}
use Rattle.sacn_packets.specs.declared.framing.packet.Packet.{Packet}
use Rattle.sacn_monitor.specs.declared.account.Endpoint.{Endpoint}
use Rattle.sacn_monitor.specs.declared.news.Noted.{Noted}
use Rattle.sacn_monitor.specs.Books.{after_read, new_book, next_loss, noted_packet, with_datagram}
use Rattle.sacn_network.specs.declared.ledger.Ledger.{Ledger}
use Rattle.sacn_network.specs.declared.light_ends.TheConstants.{MOST_LIGHTS}
use Rattle.sacn_network.specs.Telling.{Told}
use Rattle.sacn_network.specs.Sets.{no_universes}
use Rattle.sacn_network.specs.LightEnds.{after_ends, ends_told, light_end_of}
use Rattle.sacn_network.specs.Packets.{after_noted, noted_told}

-- nothing was heard
abbrev pub new_network : Ledger
new_network = record { monitor = new_book; contested = no_universes; heard = no_universes }

-- ---- the clock moves

abbrev pub tick_told : ℕ → Ledger → List Told
tick_told now n = ends_told MOST_LIGHTS (max n.monitor.moment now) n

abbrev pub ticked : ℕ → Ledger → Ledger
ticked now n = after_ends MOST_LIGHTS (max n.monitor.moment now) n

-- no loss that comes by a moment is still to be told; the last moment of all never comes
abbrev pub LeavesNone : ℕ → Ledger → Type 0
LeavesNone t n = (m : ℕ) → m ≤ t → m < 2 ^ 64 - 1 → m < next_loss n.monitor.streams

-- the clock was moved from one to the other: up to each later moment the rest is told of what the first would tell by then, and the same is left
abbrev pub JoinsLater : ℕ → Ledger → Ledger → Type 0
JoinsLater now old new = (later : ℕ) → now ≤ later → (ticked later new ≡ ticked later old) × (tick_told now old ++ tick_told later new ≡ tick_told later old)

-- ---- a datagram comes, by its one reading

-- of a network whose clock was moved
abbrev pub handed : ℕ → Endpoint → Result Packet PacketFault → Ledger → Ledger
handed now sender reading n = record n { monitor = after_read sender (with_datagram now n.monitor) reading }

abbrev pub note_of : ℕ → Endpoint → Result Packet PacketFault → Ledger → Noted
note_of now sender reading n = noted_packet sender (with_datagram now n.monitor) reading

-- first what ended by silence, then what the datagram tells
abbrev pub take_told : ℕ → Endpoint → Result Packet PacketFault → Ledger → List Told
take_told now sender reading n = let m = ticked now n in tick_told now n ++ noted_told sender (note_of now sender reading m) (handed now sender reading m)

abbrev pub taken : ℕ → Endpoint → Result Packet PacketFault → Ledger → Ledger
taken now sender reading n = let m = ticked now n in after_noted (note_of now sender reading m) (handed now sender reading m)

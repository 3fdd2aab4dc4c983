-- After a turn's call at a moment, nothing more is lost at it.
use Rattle.std.proofs.Common.{◌≡◌, ℕ}
use Rattle.sacn_packets.specs.PacketReading.{reading_packet}
use Rattle.sacn_node.specs.Cores.{Core, core_at}
use Rattle.sacn_node.specs.Calls.{core_step}
use Rattle.sacn_node.proofs.Settled.{expired, reading_settled}
use Rattle.sacn_edge.specs.Hearings.{Heard, Silence, Octets, Fault}
use Rattle.sacn_edge.specs.NodeText.{call_at}

pub turn_settled : (now : ℕ) (heard : Heard) (c : Core) → core_at now (core_step (call_at now heard) c) ≡ core_step (call_at now heard) c
turn_settled now Silence c = expired c now
turn_settled now (Octets octets) c = reading_settled (reading_packet octets) c now
turn_settled now Fault c = expired c now

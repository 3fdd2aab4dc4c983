-- The octets of a universe's packet in the datagram's buffer.
use Rattle.std.proofs.Common.{◌≡◌, ℕ, ◌≤◌, Bool, List, ◌++◌, length, drop}
use Rattle.sacn_packets.specs.FramingText.{nothing}
use Rattle.sacn_packets.specs.PacketText.{data_text}
use Rattle.sacn_console.specs.Core.{packet_text}
use Rattle.sacn_console.specs.Lines.{is_ending}
use Rattle.sacn_console.specs.declared.sender.Sender.{Sender}
use Rattle.sacn_console.proofs.Octets.{said, filled_packet}
use Rattle.sacn_source.specs.declared.source_universe.SourceUniverse.{SourceUniverse}
use Rattle.sacn_source.specs.Source.{prior, packet_of}

pub filled_row : (sender : Sender) (r : SourceUniverse) (ending : Bool) (rest a p old : List ℕ) (n : ℕ) → ending ≡ is_ending r.line.state → a ≡ p →
    p ≡ data_text (said (prior r.priority sender) r.line r.levels ending) nothing ++ drop n old → length old ≤ n → a ++ rest ≡ packet_text (packet_of sender r) ++ rest
unfolding packet_of
filled_row sender r ending rest a p old n b e f le = filled_packet (prior r.priority sender) r.line r.levels ending rest a p old n b e f le

-- A network's clock and its datagrams, as calls of its monitor.
use Rattle.std.proofs.Common.{◌≡◌, ◌≤◌, ℕ, List, [], ◌∷◌, Result, refl, sym, ap, subst, ◌∙◌, arith}
use Rattle.sacn_packets.specs.declared.root.fault.PacketFault.{PacketFault}
use Rattle.sacn_packets.specs.declared.framing.packet.Packet.{Packet}
use Rattle.sacn_packets.specs.PacketReading.{reading_packet}
use Rattle.sacn_monitor.specs.declared.account.Endpoint.{Endpoint}
use Rattle.sacn_monitor.specs.Books.{Book, after_tick}
use Rattle.sacn_network.specs.declared.ledger.Ledger.{Ledger}
use Rattle.sacn_network.specs.Networks.{handed, note_of, taken, ticked}
use Rattle.sacn_network.proofs.Ticks.{ticked_by}
use Rattle.sacn_network.proofs.Waking.{noted_keeps}
use Rattle.sacn_tell.specs.Following.{IsTaken, IsTicked}

-- the losses up to t were told, once those up to an earlier moment were
pub ticked_on : (t now : ℕ) (b : Book) (n : Ledger) → now ≤ t → IsTicked t b n.monitor → IsTicked t b (ticked now n).monitor
ticked_on t now b n by told = ticked_by (IsTicked t b) now (λ m c earlier was. (m ∷ was.0, (omega (arith, by, earlier), was.1), ap (after_tick m) was.2)) n told

pub is_ticked : (now : ℕ) (old new : Ledger) → new ≡ ticked now old → IsTicked now old.monitor new.monitor
is_ticked now old new is = subst (λ (n : Ledger). IsTicked now old.monitor n.monitor) (sym is) (ticked_on now now old.monitor old (omega arith) ([], tt, refl))

-- and then a datagram was taken
pub taken_on : (t : ℕ) (sender : Endpoint) (octets : List ℕ) (b : Book) (n : Ledger) → IsTicked t b n.monitor → IsTaken t sender octets b (taken t sender (reading_packet octets) n).monitor
taken_on t sender octets b n told =
    let m : Ledger = ticked t n in
    (m.monitor, ticked_on t t b n (omega arith) told, noted_keeps (note_of t sender (reading_packet octets) m) (handed t sender (reading_packet octets) m))

pub is_taken : (now : ℕ) (sender : Endpoint) (octets : List ℕ) (reading : Result Packet PacketFault) (old new : Ledger) → reading ≡ reading_packet octets → new ≡ taken now sender reading old → IsTaken now sender octets old.monitor new.monitor
is_taken now sender octets reading old new read is =
    subst (λ (n : Ledger). IsTaken now sender octets old.monitor n.monitor) (sym (is ∙ ap (λ (r : Result Packet PacketFault). taken now sender r old) read))
    (taken_on now sender octets old.monitor old ([], tt, refl))

-- What a poll gives is read as a packet of the universe that it told.
use Rattle.std.proofs.Common.{◌≡◌, ◌≤◌, ℕ, ◌+◌, ◌*◌, List, [], ◌++◌, length, take, drop, Option, Some, None, refl, sym, ap, subst, ◌∙◌, arith}
use Rattle.std.specs.Option.{option_map}
use Rattle.std.proofs.lemmas.Option.{same_Some}
use Rattle.sacn_packets.specs.PacketReading.{reading_packet}
use Rattle.sacn_packets.proofs.Packets.{data_reads_back, page_reads_back}
use Rattle.sacn_discovery.specs.Pages.{page_of_list, numbers_on}
use Rattle.sacn_console.specs.declared.sender.Sender.{Sender}
use Rattle.sacn_console.specs.declared.console.DueDatagram.{DueDatagram}
use Rattle.sacn_console.specs.Lines.{Datagram, Packet, Paged}
use Rattle.sacn_console.specs.Core.{IsLawful, due_datagram, universe_of, over, packet_text, size, text}
use Rattle.sacn_edge.proofs.ConsoleLemmas.{append_nil}
use Rattle.sacn_desk.specs.Groups.{universe_read}

due_read : (sender : Sender) (d : Datagram) (out old : List ℕ) → IsLawful sender d → out ≡ text sender d ++ drop (size d) old → universe_read (reading_packet (take (size d) out)) ≡ Some (universe_of d)
unfolding packet_text
due_read sender (Packet d) out old ok is =
    let n : ℕ = 126 + length d.slots in
    ap universe_read (ap reading_packet (sym (append_nil (take n out))) ∙ data_reads_back out old n d ok is refl [])
due_read sender (Paged p) out old ok is =
    let n : ℕ = 120 + 2 * length (numbers_on p.list p.page) in
    ap universe_read (ap reading_packet (sym (append_nil (take n out))) ∙ page_reads_back out old n (page_of_list p.list p.page sender.cid sender.name) ok is refl [])

due_fits : (sender : Sender) (d : Datagram) → IsLawful sender d → size d ≤ 1144
due_fits sender (Packet d) ok = let s = ok.slots in omega (arith, s)
due_fits sender (Paged p) ok = let s = ok.count in omega (arith, s)

given_of : (o : Option Datagram) (g : DueDatagram) → Some g ≡ option_map due_datagram o → (d : Datagram) × (o ≡ Some d) × (due_datagram d ≡ g)
given_of None g e = absurd (cc)
given_of (Some d) g e = (d, refl, sym (same_Some g (due_datagram d) e))

module _ (sender : Sender) (o : Option Datagram) (g : DueDatagram) (e : Some g ≡ option_map due_datagram o) (lawful : (d : Datagram) → o ≡ Some d → IsLawful sender d) where
  pub given_fits : g.len ≤ 1144
  given_fits =
      let d = given_of o g e in
      let fits = due_fits sender d.0 (lawful d.0 d.1) in
      let long : size d.0 ≡ g.len = ap (λ (k : DueDatagram). k.len) d.2 in
      omega (arith, fits, long)

  pub given_read : (out old : List ℕ) → out ≡ over sender o old → universe_read (reading_packet (take g.len out)) ≡ Some g.universe
  given_read out old is =
      let d = given_of o g e in
      subst (λ (k : DueDatagram). universe_read (reading_packet (take k.len out)) ≡ Some k.universe) d.2
      (due_read sender d.0 out old (lawful d.0 d.1) (is ∙ ap (λ x. over sender x old) d.1))

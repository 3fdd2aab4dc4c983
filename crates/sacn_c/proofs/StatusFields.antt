-- What a status and the fields say of what stands there.
use Rattle.std.proofs.Common.{◌≡◌, ◌↔◌, ℕ, Bool, true, false, not, Option, Some, None, Result, Ok, Err, refl, sym, ap, ◌∙◌, arith}
use Rattle.sacn_packets.specs.declared.root.fault.PacketFault.{PacketFault}
use Rattle.std.specs.Prelude.{◌==◌, IfOk}
use Rattle.sacn_packets.specs.Data.{Data}
use Rattle.sacn_packets.specs.declared.framing.packet.Packet.{Packet}
use Rattle.sacn_packets.specs.declared.framing.packet.Packet.TheVariants.{DataPacket, PagePacket, SyncPacket}
use Rattle.sacn_discovery.specs.Pages.{page_of_list}
use Rattle.sacn_console.specs.Lines.{Datagram}
use Rattle.sacn_console.specs.Lines as line
use Rattle.sacn_console.specs.Core.{size}
use Rattle.sacn_c.specs.Sending.{due_size}
use Rattle.sacn_c.specs.Packets.{packet_status, fields_with, fields_after, bit_of, written, AskFor}
use Rattle.sacn_c.specs.declared.packets.PacketFields.{PacketFields}

pub only_told : (read : Result Packet PacketFault) (p : Packet) (status : ℕ) (before after : PacketFields) → read ≡ Ok p
    → status ≡ packet_status read → after ≡ fields_after before read → (status ≡ 0) × (after ≡ fields_with before p)
only_told read p status before after is told fields =
    (told ∙ ap (λ (r : Result Packet PacketFault). packet_status r) is, fields ∙ ap (λ (r : Result Packet PacketFault). fields_after before r) is)

bit_back : (b : Bool) → not (bit_of b == 0) ≡ b
bit_back true = refl
bit_back false = refl

data_back : (f : PacketFields) (d : Data) → written (fields_with f (DataPacket d)) d.slots ≡ d
data_back f d = rw (bit_back d.preview, bit_back d.terminated) refl

pub asked_again : (read : Result Packet PacketFault) (before after : PacketFields) → after ≡ fields_after before read → IfOk read (λ p. AskFor p after)
asked_again (Ok (DataPacket d)) before after fields = ap (λ (f : PacketFields). written f d.slots) fields ∙ data_back before d
asked_again (Ok (PagePacket p)) before after fields = λ list is. ap (λ (f : PacketFields). page_of_list list f.page f.cid f.name) fields ∙ is
asked_again (Ok SyncPacket) before after fields = tt
asked_again (Err fault) before after fields = tt

pub zero_where : {X : Type 0} (b : Bool) (told : ℕ) → told ≡ bit_of b → ((b ≡ false) ↔ X) → (told ≡ 0) ↔ X
zero_where true told is e = (λ said. absurd (one (sym is ∙ said)), λ x. absurd (apart (e.1 x))) where
  one : ◌≡◌ {A = ℕ} 1 0 → ⊥
  one e = absurd cc

  apart : true ≡ false → ⊥
  apart e = absurd cc
zero_where false told is e = (λ said. e.0 refl, λ x. is)

pub one_where : {X : Type 0} (b : Bool) (told : ℕ) → told ≡ bit_of b → ((b ≡ true) ↔ X) → (told ≡ 1) ↔ X
one_where true told is e = (λ said. e.0 refl, λ x. is)
one_where false told is e = (λ said. absurd (zero (sym is ∙ said)), λ x. absurd (apart (e.1 x))) where
  zero : ◌≡◌ {A = ℕ} 0 1 → ⊥
  zero e = absurd cc

  apart : false ≡ true → ⊥
  apart e = absurd cc

counted : (d : Datagram) → size d ≡ 0 → ⊥
counted (line.Packet d) e = absurd (omega (arith, e))
counted (line.Paged p) e = absurd (omega (arith, e))

pub none_due : (due : Option Datagram) (told : ℕ) → told ≡ due_size due → (told ≡ 0) ↔ (due ≡ None)
none_due None told is = (λ said. refl, λ x. is)
none_due (Some d) told is = (λ said. absurd (counted d (sym is ∙ said)), λ x. absurd (apart x)) where
  apart : Some d ≡ None → ⊥
  apart e = absurd cc

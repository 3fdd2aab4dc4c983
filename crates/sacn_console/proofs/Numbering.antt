-- The packets of a life are numbered in turn.
use Rattle.std.proofs.Common.{◌≡◌, ℕ, max, Bool, true, false, ◌==◌, if◌then◌else◌, List, [], ◌∷◌, find, Option, Some, None, Result, Ok, Err, refl, ap, sym, ◌∙◌}
use Rattle.sacn_packets.specs.Data.{Data}
use Rattle.sacn_console.specs.Lines.{Page, Datagram, Packet, Paged, Deed}
use Rattle.sacn_console.specs.Due.{Life, packets, number_by, packet_by, due_with, due_by_list, answer_by_list, universe_due}
use Rattle.sacn_console.specs.Runs.{Call, Order, Poll, with_order, with_datagram, deeds_after, IsNumbered, PacketsAreNumbered}
use Rattle.sacn_console.specs.declared.command.Command.{Command}
use Rattle.sacn_console.specs.declared.command.ConsoleFault.{ConsoleFault}
use Rattle.sacn_console.proofs.Plain.{option_paged, same_number}

same_packet : (a b : Data) → Some (Packet a) ≡ Some (Packet b) → a ≡ b
same_packet a b e = cc

no_page : (p : Page) (d : Data) → Packet d ≡ Paged p → ⊥
no_page p d e = cc

by_number : (life : Life) (t : ℕ) (ds : List Deed) (u : ℕ) → (packet_by life t ds u).number ≡ number_by life.first (packet_by life t ds u).universe ds
unfolding packet_by
by_number life t ds u = refl

due_number : (life : Life) (t : ℕ) (ds : List Deed) (o : Option ℕ) (d : Data) → due_with life t ds o ≡ Some (Packet d) → d.number ≡ number_by life.first d.universe ds
due_number life t ds (Some u) d e = rw (← same_packet (packet_by life t ds u) d e) (by_number life t ds u)
due_number life t ds None d e =
    let w = option_paged _ (Packet d) e in
    absurd (no_page w.0 d w.2)

one_more : (first t : ℕ) (ds : List Deed) (u : ℕ) (d : Data) (b : Bool) → (b ≡ true → d.number ≡ number_by first u ds) → IsNumbered first (packets u ds) →
    IsNumbered first (if b then record { moment = t; data_sent = d } ∷ packets u ds else packets u ds)
one_more first t ds u d true e h = (e refl, h)
one_more first t ds u d false e h = h

numbered_with : (life : Life) (t : ℕ) (ds : List Deed) (u : ℕ) (o : Option Datagram) → ((d : Data) → o ≡ Some (Packet d) → d.number ≡ number_by life.first d.universe ds) →
    IsNumbered life.first (packets u ds) → IsNumbered life.first (packets u (with_datagram t o ds))
numbered_with life t ds u None e h = h
numbered_with life t ds u (Some (Paged p)) e h = h
numbered_with life t ds u (Some (Packet d)) e h =
    one_more life.first t ds u d (u == d.universe) (λ s. e d refl ∙ ap (λ (v : ℕ). number_by life.first v ds) (sym (same_number u d.universe s))) h

numbered_order : (life : Life) (t : ℕ) (ds : List Deed) (u : ℕ) (k : Command) (r : Result (Unit {0}) ConsoleFault) → IsNumbered life.first (packets u ds) → IsNumbered life.first (packets u (with_order t k r ds))
numbered_order life t ds u k (Ok x) h = h
numbered_order life t ds u k (Err x) h = h

polled_number : (life : Life) (t : ℕ) (ds : List Deed) (d : Data) → due_by_list life t ds ≡ Some (Packet d) → d.number ≡ number_by life.first d.universe ds
unfolding due_by_list
polled_number life t ds d e = due_number life t ds (find (universe_due life t ds) life.universes) d e

numbered_after : (life : Life) (u : ℕ) (calls : List Call) (t : ℕ) (ds : List Deed) → IsNumbered life.first (packets u ds) → IsNumbered life.first (packets u (deeds_after life t ds calls))
numbered_after life u [] t ds h = h
numbered_after life u (Order now k ∷ calls) t ds h =
    numbered_after life u calls (max t now) (with_order (max t now) k (answer_by_list life k ds) ds) (numbered_order life (max t now) ds u k (answer_by_list life k ds) h)
numbered_after life u (Poll now ∷ calls) t ds h =
    numbered_after life u calls (max t now) (with_datagram (max t now) (due_by_list life (max t now) ds) ds)
    (numbered_with life (max t now) ds u (due_by_list life (max t now) ds) (λ d e. polled_number life (max t now) ds d e) h)

pub packets_are_numbered : PacketsAreNumbered
packets_are_numbered life calls u = numbered_after life u calls 0 [] tt

-- What a node core answers to a datagram by numbers is what the places say.
use Rattle.std.proofs.Common.{◌≡◌, ℕ, true, List, map, Option, Some, None, Ok, Err, refl, sym, ap, ◌∙◌}
use Rattle.std.specs.Prelude.{slice_get}
use Rattle.std.proofs.lemmas.Bool.{and_from, eq-eqb}
use Rattle.sacn_packets.specs.declared.framing.packet.Packet.{Packet}
use Rattle.sacn_packets.specs.declared.framing.packet.Packet.TheVariants.{DataPacket, PagePacket, SyncPacket}
use Rattle.sacn_console.specs.Shows.{ShowContent}
use Rattle.sacn_node.specs.declared.answer.NodeTaken.{NodeTaken}
use Rattle.sacn_node.specs.Setup.{Port}
use Rattle.sacn_node.specs.Cores.{core_reply, core_after}
use Rattle.sacn_node.specs.Readings.{reply_to, after_reading}
use Rattle.sacn_schedule.specs.declared.event.Event.{Event}
use Rattle.sacn_schedule.specs.declared.event.Event.TheVariants.{Deliver}
use Rattle.sacn_world.specs.declared.answer.Answer.{Answer}
use Rattle.sacn_world.specs.declared.answer.Answer.TheVariants as answered
use Rattle.sacn_world.specs.declared.fault.WorldFault.{WorldFault}
use Rattle.sacn_world.specs.Streams.{Sent, is_of, is_on, place_of}
use Rattle.sacn_world.specs.Nodes.{Node, node_reply, node_after, seen_core}
use Rattle.sacn_world.specs.Worlds.{World, Outcome, Step, with_node, come, arrive, deliver_step, step, left_by, after, new_console, new_world, Apart, NodeOk, WorldOk, IsNumbered}
use Rattle.sacn_world.specs.Arrivals.{refused_for, replied, moved, arrival}
use Rattle.sacn_world.proofs.All.{all_get}
use Rattle.sacn_world.proofs.Sources.{same-itself}
use Rattle.sacn_world.proofs.NodeSteps.{reply_seen, after_seen, at_seen}
use Rattle.sacn_world.proofs.Sending.{place_within}
use Rattle.sacn_world.proofs.Runs.{after_ok, start_ok}
use Rattle.sacn_world.proofs.Changes.{set_same}

come_is : (w : World) (i m : ℕ) (n : Node) (s : List ℕ) (u q : ℕ) (f : Option WorldFault) → come w i m n s u q f ≡ arrival w i f (node_reply w.sent s u q m n) (node_after w.sent s u q m n)
come_is w i m n s u q (Some f) = refl
come_is w i m n s u q None = refl

pub arrive_is : (w : World) (k i m : ℕ) (n : Node) (s : List ℕ) (p : Packet) → arrive w k i m n s p ≡ arrival w i (refused_for w.sent k n s p) (replied w.sent k m n s p) (moved w.sent k m n s p)
arrive_is w k i m n s (DataPacket d) = come_is w i m n s d.universe _ _
arrive_is w k i m n s (PagePacket p) = refl
arrive_is w k i m n s SyncPacket = refl

pub record Agrees (sent : List Sent) (k m : ℕ) (n : Node) (s : List ℕ) (p : Packet) : Type 0 where
  pub reply : reply_to (Ok p) m (seen_core sent n) ≡ replied sent k m n s p
  pub core : after_reading (Ok p) m (seen_core sent n) ≡ seen_core sent (moved sent k m n s p)

pub agrees : (w : World) → WorldOk w → (k i m : ℕ) (n : Node) (x : Sent) → slice_get w.nodes i ≡ Some n → slice_get w.sent k ≡ Some x → (p : Packet) → x.packet ≡ p → IsNumbered w.sent k x.source p → refused_for w.sent k n x.source p ≡ None → Agrees w.sent k m n x.source p
agrees w ok k i m n x en ex (DataPacket d) ep is may =
    let s = x.source in
    let u = d.universe in
    let q = place_of s u k w.sent in
    let own : is_of s u x ≡ true = and_from _ _ (same-itself s) (ap (is_on u) ep ∙ eq-eqb u u refl) in
    let there = place_within s u w.sent k x ex own in
    let nok = all_get (NodeOk w.sent) w.nodes i n ok.nodes en in
    record {
      reply = ap (λ y. core_reply u y m (seen_core w.sent n)) is ∙ reply_seen w.sent s u q m n (ok.streams s u) there may nok.within nok.below;
      core = ap (λ y. core_after u y m (seen_core w.sent n)) is ∙ after_seen w.sent s u q m n (ok.streams s u) there may nok.within nok.below;
    }
agrees w ok k i m n x en ex (PagePacket p) ep is may = record { reply = refl; core = at_seen w.sent m n }
agrees w ok k i m n x en ex SyncPacket ep is may = record { reply = refl; core = at_seen w.sent m n }

abbrev answer_of : World → Step → Answer
answer_of w (Ok o) = o.answer
answer_of w (Err fault) = answered.Idle

accepted : (w : World) (i : ℕ) (f : Option WorldFault) (r : NodeTaken) (n : Node) (o : Outcome) → arrival w i f r n ≡ Ok o → (f ≡ None) × (o.answer ≡ answered.Taken r) × (o.world ≡ with_node w i n)
accepted w i (Some f) r n o e = cc
accepted w i None r n o e = (refl, sym (ap (answer_of w) e), sym (ap (left_by w) e))

pub numbers_agree : (w : World) → WorldOk w → (k i m : ℕ) (n l : Node) (x : Sent) (o : Outcome) → slice_get w.nodes i ≡ Some n → slice_get w.sent k ≡ Some x → step w (Deliver k i m) ≡ Ok o → slice_get o.world.nodes i ≡ Some l → (o.answer ≡ answered.Taken (reply_to (Ok x.packet) m (seen_core w.sent n))) × (seen_core o.world.sent l ≡ after_reading (Ok x.packet) m (seen_core w.sent n))
unfolding step
numbers_agree w ok k i m n l x o en ex eo el =
    let s = x.source in
    let e0 : deliver_step w k i m (slice_get w.nodes i) (slice_get w.sent k) ≡ arrival w i (refused_for w.sent k n s x.packet) (replied w.sent k m n s x.packet) (moved w.sent k m n s x.packet) =
    ap (λ z. deliver_step w k i m z (slice_get w.sent k)) en ∙ ap (deliver_step w k i m (Some n)) ex ∙ arrive_is w k i m n s x.packet in
    let a = accepted w i _ _ _ o (sym e0 ∙ eo) in
    let g = agrees w ok k i m n x en ex x.packet refl (ok.numbered k x ex) a.0 in
    let is : moved w.sent k m n s x.packet ≡ l = set_same w.nodes i _ l (sym (ap (λ (v : World). slice_get v.nodes i) a.2) ∙ el) in (
      a.1 ∙ ap answered.Taken (sym g.reply),
      ap (λ (v : World). seen_core v.sent l) a.2 ∙ ap (seen_core w.sent) (sym is) ∙ sym g.core,
    )

pub numbers_as_places : (shows : List (ShowContent × ℕ)) (setups : List (List Port)) (events : List Event) (k i m : ℕ) (n l : Node) (x : Sent) (o : Outcome) → Apart (map new_console shows) → let w = after (new_world shows setups) events in slice_get w.nodes i ≡ Some n → slice_get w.sent k ≡ Some x → step w (Deliver k i m) ≡ Ok o → slice_get o.world.nodes i ≡ Some l → (o.answer ≡ answered.Taken (reply_to (Ok x.packet) m (seen_core w.sent n))) × (seen_core o.world.sent l ≡ after_reading (Ok x.packet) m (seen_core w.sent n))
numbers_as_places shows setups events k i m n l x o apart =
    numbers_agree (after (new_world shows setups) events) (after_ok (new_world shows setups) (start_ok shows setups apart) events) k i m n l x o

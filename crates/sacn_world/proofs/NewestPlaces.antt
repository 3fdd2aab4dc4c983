-- The record of the newest delivered packet is the greatest place delivered since the node started.
use Rattle.std.proofs.Common.{◌≡◌, ℕ, max, true, false, List, [], ◌∷◌, Option, Some, None, Ok, Err, refl, sym, ap, subst, ◌∙◌, inl, inr, slice_get}
use Rattle.std.specs.Prelude.{◌==◌, ◌&&◌, if◌then◌else◌}
use Rattle.std.proofs.lemmas.Bool.{cases_eq, eqb-true, eqb-false, and_parts}
use Rattle.std.proofs.lemmas.Option.{slice_get-map, none-some as none_some}
use Rattle.sacn_packets.specs.declared.framing.packet.Packet.{Packet}
use Rattle.sacn_packets.specs.declared.framing.packet.Packet.TheVariants.{DataPacket, PagePacket, SyncPacket}
use Rattle.sacn_packets.specs.PacketReading.{reading_packet}
use Rattle.sacn_console.specs.Lines as line
use Rattle.sacn_console.specs.declared.command.Command.{Command}
use Rattle.sacn_node.specs.Readings.{Reading}
use Rattle.sacn_node.specs.Setup.{Port}
use Rattle.sacn_sources.specs.Order.{same}
use Rattle.sacn_world.specs.declared.console.Console.{Console}
use Rattle.sacn_schedule.specs.declared.event.Event.{Event}
use Rattle.sacn_schedule.specs.declared.event.Event.TheVariants.{Order, Poll, Deliver, Look, RestartConsole, RestartNode, Noise}
use Rattle.sacn_world.specs.declared.fault.WorldFault.{WorldFault}
use Rattle.sacn_world.specs.Streams.{Sent}
use Rattle.sacn_world.specs.Holdings.{Delivery, newest, add_delivery}
use Rattle.sacn_world.specs.Nodes.{Node, node_of, node_after, node_at}
use Rattle.sacn_world.specs.Worlds.{World, with_node, order_step, poll_by, poll_step, restart_console, come, arrive, deliver_step, look_step, hear_noise, noise_step, restart_node, step, left_by, after, new_world}
use Rattle.sacn_world.specs.Newest.{greater, greatest, with_place, with_packet, with_delivery, delivered_by, delivered_in, NewestIsTheGreatestDelivered}
use Rattle.sacn_schedule.specs.Cids.{Desk}
use Rattle.sacn_world.proofs.Sources.{same_source}
use Rattle.sacn_world.proofs.Runs.{mapped}
use Rattle.sacn_world.proofs.Changes.{set_same, set_other}

-- ---- one more delivery

noted_own : (s : List ℕ) (u q : ℕ) (ds : List Delivery) → (same s s && (u == u)) ≡ true → newest s u (add_delivery (record { source = s; universe = u; place = q }) ds) ≡ greater q (newest s u ds)
noted_own s u q [] me = ap (λ b. if b then Some q else None) me
noted_own s u q (d ∷ ds) me =
    elim (same s d.source && (d.universe == u)) as (λ b. (same s d.source && (d.universe == u)) ≡ b → newest s u (if b then record { source = d.source; universe = d.universe; place = max q d.place } ∷ ds else d ∷ add_delivery (record { source = s; universe = u; place = q }) ds) ≡ greater q (if b then Some d.place else newest s u ds)) [
      | true ↦ λ e. ap (λ b. if b then Some (max q d.place) else newest s u ds) e
      | false ↦ λ e. ap (λ b. if b then Some d.place else newest s u (add_delivery (record { source = s; universe = u; place = q }) ds)) e ∙ noted_own s u q ds me
    ] refl

noted_other : (s : List ℕ) (u : ℕ) (d : Delivery) (ds : List Delivery) → (same s d.source && (d.universe == u)) ≡ false → newest s u (add_delivery d ds) ≡ newest s u ds
noted_other s u d [] ne = ap (λ b. if b then Some d.place else None) ne
noted_other s u d (x ∷ xs) ne =
    elim (same d.source x.source && (x.universe == d.universe)) as (λ b. (same d.source x.source && (x.universe == d.universe)) ≡ b → newest s u (if b then record { source = x.source; universe = x.universe; place = max d.place x.place } ∷ xs else x ∷ add_delivery d xs) ≡ newest s u (x ∷ xs)) [
      | true ↦ λ e.
          let parts = and_parts _ _ e in
          let ds' = same_source d.source x.source parts.0 in
          let du = eqb-true _ _ parts.1 in
          let no : (same s x.source && (x.universe == u)) ≡ false = (λ j. same s (sym ds' j) && (du j == u)) ∙ ne in
          ap (λ b. if b then Some (max d.place x.place) else newest s u xs) no ∙ sym (ap (λ b. if b then Some x.place else newest s u xs) no)
      | false ↦ λ e. ap (λ o. if same s x.source && (x.universe == u) then Some x.place else o) (noted_other s u d xs ne)
    ] refl

-- ---- a world

abbrev NewestAt : World → ℕ → List ℕ → ℕ → List ℕ → Type 0
NewestAt w i s u ps = (n : Node) → slice_get w.nodes i ≡ Some n → newest s u n.delivered ≡ greatest ps

module _ (w : World) (i : ℕ) (s : List ℕ) (u : ℕ) (ps : List ℕ) (k : NewestAt w i s u ps) where
  put_node : (n : Node) (qs : List ℕ) → newest s u n.delivered ≡ greatest qs → NewestAt (with_node w i n) i s u qs
  put_node n qs h l e = ap (λ (z : Node). newest s u z.delivered) (sym (set_same w.nodes i n l e)) ∙ h

  put_other : (j : ℕ) (n : Node) → (j ≡ i → ⊥) → NewestAt (with_node w j n) i s u ps
  put_other j n ne l e = k l (sym (set_other w.nodes i j n ne) ∙ e)

  same_deliveries : (j : ℕ) (n l : Node) → slice_get w.nodes j ≡ Some n → l.delivered ≡ n.delivered → NewestAt (with_node w j l) i s u ps
  same_deliveries j n l e is = elim (cases_eq j i) [
    | inl ji ↦ subst (λ z. NewestAt (with_node w z l) i s u ps) (sym ji) (put_node l ps (ap (newest s u) is ∙ k n (ap (slice_get w.nodes) (sym ji) ∙ e)))
    | inr ne ↦ put_other j l ne
  ]

  come_newest : (m : ℕ) (n : Node) (r : List ℕ) (v q : ℕ) (f : Option WorldFault) → slice_get w.nodes i ≡ Some n → NewestAt (left_by w (come w i m n r v q f)) i s u (with_place s u r v q f ps)
  come_newest m n r v q (Some f) e = k
  come_newest m n r v q None e =
      elim (same s r && (v == u)) as (λ b. (same s r && (v == u)) ≡ b → NewestAt (with_node w i (node_after w.sent r v q m n)) i s u (if b then q ∷ ps else ps)) [
        | true ↦ λ t.
            let parts = and_parts _ _ t in
            let sr = same_source s r parts.0 in
            let vu = eqb-true v u parts.1 in
            let me : (same s s && (u == u)) ≡ true = (λ j. same s (sr j) && (sym vu j == u)) ∙ t in
            put_node (node_after w.sent r v q m n) (q ∷ ps) ((λ j. newest s u (add_delivery (record { source = sym sr j; universe = vu j; place = q }) n.delivered)) ∙ noted_own s u q n.delivered me ∙ ap (greater q) (k n e))
        | false ↦ λ t. put_node (node_after w.sent r v q m n) ps (noted_other s u (record { source = r; universe = v; place = q }) n.delivered t ∙ k n e)
      ] refl

  arrive_newest : (m d : ℕ) (n : Node) (r : List ℕ) (p : Packet) → slice_get w.nodes i ≡ Some n → NewestAt (left_by w (arrive w d i m n r p)) i s u (with_packet w s u d n r p ps)
  arrive_newest m d n r (DataPacket y) e = come_newest m n r y.universe _ _ e
  arrive_newest m d n r (PagePacket p) e = same_deliveries i n (node_at m n) e refl
  arrive_newest m d n r SyncPacket e = same_deliveries i n (node_at m n) e refl

  deliver_newest : (m d : ℕ) (on' : Option Node) (ox : Option Sent) → slice_get w.nodes i ≡ on' → NewestAt (left_by w (deliver_step w d i m on' ox)) i s u (with_delivery w s u d on' ox ps)
  deliver_newest m d None ox e = k
  deliver_newest m d (Some n) None e = k
  deliver_newest m d (Some n) (Some x) e = arrive_newest m d n x.source x.packet e

  come_other : (j m : ℕ) (n : Node) (r : List ℕ) (v q : ℕ) (f : Option WorldFault) → (j ≡ i → ⊥) → NewestAt (left_by w (come w j m n r v q f)) i s u ps
  come_other j m n r v q (Some f) ne = k
  come_other j m n r v q None ne = put_other j _ ne

  arrive_other : (j m d : ℕ) (n : Node) (r : List ℕ) (p : Packet) → (j ≡ i → ⊥) → NewestAt (left_by w (arrive w d j m n r p)) i s u ps
  arrive_other j m d n r (DataPacket y) ne = come_other j m n r y.universe _ _ ne
  arrive_other j m d n r (PagePacket p) ne = put_other j _ ne
  arrive_other j m d n r SyncPacket ne = put_other j _ ne

  deliver_other : (j m d : ℕ) (on' : Option Node) (ox : Option Sent) → (j ≡ i → ⊥) → NewestAt (left_by w (deliver_step w d j m on' ox)) i s u ps
  deliver_other j m d None ox ne = k
  deliver_other j m d (Some n) None ne = k
  deliver_other j m d (Some n) (Some x) ne = arrive_other j m d n x.source x.packet ne

  look_newest : (j port m : ℕ) (on' : Option Node) → slice_get w.nodes j ≡ on' → NewestAt (left_by w (look_step w j port m on')) i s u ps
  look_newest j port m None e = k
  look_newest j port m (Some n) e = same_deliveries j n (node_at m n) e refl

  heard_newest : (j m : ℕ) (n : Node) (r : Reading) → slice_get w.nodes j ≡ Some n → NewestAt (left_by w (hear_noise w j m n r)) i s u ps
  heard_newest j m n (Ok p) e = k
  heard_newest j m n (Err f) e = same_deliveries j n (node_at m n) e refl

  noise_newest : (j m : ℕ) (r : Reading) (on' : Option Node) → slice_get w.nodes j ≡ on' → NewestAt (left_by w (noise_step w j m r on')) i s u ps
  noise_newest j m r None e = k
  noise_newest j m r (Some n) e = heard_newest j m n r e

  order_newest : (j m : ℕ) (command : Command) (o : Option Console) → NewestAt (left_by w (order_step w j m command o)) i s u ps
  order_newest j m command None = k
  order_newest j m command (Some c) = k

  poll_by_newest : (j m : ℕ) (c : Console) (o : Option line.Datagram) → NewestAt (poll_by w j m c o).world i s u ps
  poll_by_newest j m c None = k
  poll_by_newest j m c (Some d) = k

  poll_newest : (j m : ℕ) (o : Option Console) → NewestAt (left_by w (poll_step w j m o)) i s u ps
  poll_newest j m None = k
  poll_newest j m (Some c) = poll_by_newest j m c _

  console_newest : (j first : ℕ) (o : Option Console) → NewestAt (left_by w (restart_console w j first o)) i s u ps
  console_newest j first None = k
  console_newest j first (Some c) = k

  anew_here : (on' : Option Node) → slice_get w.nodes i ≡ on' → NewestAt (left_by w (restart_node w i on')) i s u []
  anew_here None e = λ n is. absurd (none_some n (sym e ∙ is))
  anew_here (Some n) e = put_node (node_of n.ports) [] refl

  anew_other : (j : ℕ) (on' : Option Node) → (j ≡ i → ⊥) → NewestAt (left_by w (restart_node w j on')) i s u ps
  anew_other j None ne = k
  anew_other j (Some n) ne = put_other j (node_of n.ports) ne

  step_newest : (e : Event) → NewestAt (left_by w (step w e)) i s u (delivered_by w i s u e ps)
  unfolding step delivered_by
  step_newest (Order j m command) = order_newest j m command (slice_get w.consoles j)
  step_newest (Poll j m) = poll_newest j m (slice_get w.consoles j)
  step_newest (Deliver d j m) =
      elim (j == i) as (λ b. (j == i) ≡ b → NewestAt (left_by w (deliver_step w d j m (slice_get w.nodes j) (slice_get w.sent d))) i s u (if b then with_delivery w s u d (slice_get w.nodes i) (slice_get w.sent d) ps else ps)) [
        | true ↦ λ e. subst (λ z. NewestAt (left_by w (deliver_step w d z m (slice_get w.nodes z) (slice_get w.sent d))) i s u (with_delivery w s u d (slice_get w.nodes i) (slice_get w.sent d) ps)) (sym (eqb-true j i e)) (deliver_newest m d (slice_get w.nodes i) (slice_get w.sent d) refl)
        | false ↦ λ e. deliver_other j m d (slice_get w.nodes j) (slice_get w.sent d) (eqb-false j i e)
      ] refl
  step_newest (Look j port m) = look_newest j port m (slice_get w.nodes j) refl
  step_newest (RestartConsole j first) = console_newest j first (slice_get w.consoles j)
  step_newest (RestartNode j) =
      elim (j == i) as (λ b. (j == i) ≡ b → NewestAt (left_by w (restart_node w j (slice_get w.nodes j))) i s u (if b then [] else ps)) [
        | true ↦ λ e. subst (λ z. NewestAt (left_by w (restart_node w z (slice_get w.nodes z))) i s u []) (sym (eqb-true j i e)) (anew_here (slice_get w.nodes i) refl)
        | false ↦ λ e. anew_other j (slice_get w.nodes j) (eqb-false j i e)
      ] refl
  step_newest (Noise j m octets) = noise_newest j m (reading_packet octets.items) (slice_get w.nodes j) refl

after_newest : (w : World) (i : ℕ) (s : List ℕ) (u : ℕ) (ps : List ℕ) (es : List Event) → NewestAt w i s u ps → NewestAt (after w es) i s u (delivered_in w i s u es ps)
after_newest w i s u ps [] k = k
after_newest w i s u ps (e ∷ es) k = after_newest (left_by w (step w e)) i s u (delivered_by w i s u e ps) es (step_newest w i s u ps k e)

start_newest : (shows : List Desk) (setups : List (List Port)) (i : ℕ) (s : List ℕ) (u : ℕ) → NewestAt (new_world shows setups) i s u []
start_newest shows setups i s u n e =
    let a = mapped node_of (slice_get setups i) n (sym (slice_get-map node_of setups i) ∙ e) in
    ap (λ (z : Node). newest s u z.delivered) (sym a.2)

pub greatest_delivered : NewestIsTheGreatestDelivered
greatest_delivered shows setups events i n s u e = after_newest (new_world shows setups) i s u [] events (start_newest shows setups i s u) n e

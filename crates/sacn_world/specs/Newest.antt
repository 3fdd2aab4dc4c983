-- The newest packet of a stream that was delivered to a node, by the list of events.
use Rattle.std.specs.Prelude.{◌≡◌, ℕ, max, ◌==◌, ◌&&◌, if◌then◌else◌, List, [], ◌∷◌, slice_get, Option, Some, None}
use Rattle.sacn_packets.specs.declared.framing.packet.Packet.{Packet}
use Rattle.sacn_packets.specs.declared.framing.packet.Packet.TheVariants.{DataPacket, PagePacket, SyncPacket}
use Rattle.sacn_sources.specs.Order.{same}
use Rattle.sacn_node.specs.Setup.{Port}
use Rattle.sacn_schedule.specs.declared.event.Event.{Event}
use Rattle.sacn_schedule.specs.declared.event.Event.TheVariants.{Order, Poll, Deliver, Look, RestartConsole, RestartNode, Noise}
use Rattle.sacn_world.specs.declared.fault.WorldFault.{WorldFault}
use Rattle.sacn_world.specs.Streams.{Sent, stream_of, place_of}
use Rattle.sacn_world.specs.Holdings.{newest, refusal}
use Rattle.sacn_world.specs.Nodes.{Node}
use Rattle.sacn_schedule.specs.Cids.{Desk}
use Rattle.sacn_world.specs.Worlds.{World, step, left_by, new_world}
use Rattle.sacn_world.specs.Laws.{reached}

-- the greatest of a list, none where it is empty
abbrev pub greater : ℕ → Option ℕ → Option ℕ
greater p None = Some p
greater p (Some q) = Some (max p q)

abbrev pub greatest : List ℕ → Option ℕ
greatest [] = None
greatest (p ∷ ps) = greater p (greatest ps)

-- the places of the stream of s and u that were delivered, with place q of the stream of r and v, unless it is refused
abbrev pub with_place : List ℕ → ℕ → List ℕ → ℕ → ℕ → Option WorldFault → List ℕ → List ℕ
with_place s u r v q (Some fault) ps = ps
with_place s u r v q None ps = if same s r && (v == u) then q ∷ ps else ps

abbrev pub with_packet : World → List ℕ → ℕ → ℕ → Node → List ℕ → Packet → List ℕ → List ℕ
with_packet w s u k n r (DataPacket d) ps =
    let q = place_of r d.universe k w.sent in with_place s u r d.universe q (refusal (stream_of r d.universe w.sent) (newest r d.universe n.delivered) q) ps
with_packet w s u k n r (PagePacket p) ps = ps
with_packet w s u k n r SyncPacket ps = ps

abbrev pub with_delivery : World → List ℕ → ℕ → ℕ → Option Node → Option Sent → List ℕ → List ℕ
with_delivery w s u k None o ps = ps
with_delivery w s u k (Some n) None ps = ps
with_delivery w s u k (Some n) (Some x) ps = with_packet w s u k n x.source x.packet ps

-- the places of the stream of s and u that were delivered to node i since it started, latest first, whatever was answered
unfoldable pub delivered_by : World → ℕ → List ℕ → ℕ → Event → List ℕ → List ℕ
delivered_by w i s u (Order j m k) ps = ps
delivered_by w i s u (Poll j m) ps = ps
delivered_by w i s u (Deliver k j m) ps = if j == i then with_delivery w s u k (slice_get w.nodes i) (slice_get w.sent k) ps else ps
delivered_by w i s u (Look j port m) ps = ps
delivered_by w i s u (RestartConsole j first) ps = ps
delivered_by w i s u (RestartNode j) ps = if j == i then [] else ps
delivered_by w i s u (Noise j m octets) ps = ps

abbrev pub delivered_in : World → ℕ → List ℕ → ℕ → List Event → List ℕ → List ℕ
delivered_in w i s u [] ps = ps
delivered_in w i s u (e ∷ es) ps = delivered_in (left_by w (step w e)) i s u es (delivered_by w i s u e ps)

-- The record of the newest delivered packet is the greatest place delivered since the node started, whatever was answered
abbrev pub NewestIsTheGreatestDelivered : Type 0
NewestIsTheGreatestDelivered =
    (shows : List Desk) (setups : List (List Port)) (events : List Event) (i : ℕ) (n : Node) (s : List ℕ) (u : ℕ) →
    slice_get (reached shows setups events).nodes i ≡ Some n →
    newest s u n.delivered ≡ greatest (delivered_in (new_world shows setups) i s u events [])

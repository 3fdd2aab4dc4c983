-- What a world keeps, after an event.
use Rattle.std.proofs.Common.{◌≡◌, ℕ, ◌+◌, ◌<◌, ◌≤◌, List, [], ◌∷◌, map, length, Option, Some, None, Ok, Err, refl, sym, ap, subst, ◌∙◌, arith, slice_get}
use Rattle.std.specs.Prelude.{slice_set, option_map, is_ok}
use Rattle.std.proofs.Common.{zero, suc, true, false}
use Rattle.std.proofs.lemmas.Option.{same_Some}
use Rattle.std.specs.List.{AllByRecursion}
use Rattle.std.proofs.lemmas.List.{map-set}
use Rattle.std.proofs.lemmas.Option.{slice_get-map, slice_get_past}
use Rattle.sacn_packets.specs.PacketReading.{reading_packet}
use Rattle.sacn_console.specs.declared.command.Command.{Command}
use Rattle.sacn_console.specs.Core as console
use Rattle.sacn_node.specs.Cores.{core_at, core_slots, node_frame}
use Rattle.sacn_node.specs.Ports.{port_of, frame_on}
use Rattle.sacn_node.specs.Readings.{Reading, reply_to}
use Rattle.sacn_packets.specs.declared.framing.packet.Packet.{Packet}
use Rattle.std.specs.Prelude.{Vec}
use Rattle.std.specs.declared.alloc.Global.{Global}
use Rattle.sacn_node.specs.declared.answer.NodeTaken.{NodeTaken}
use Rattle.sacn_node.specs.declared.answer.NodeTaken.TheVariants.{Refused}
use Rattle.sacn_node.specs.Setup.{Port, universes}
use Rattle.sacn_packets.specs.Universe.{Rising}
use Rattle.sacn_node.specs.Laws.{HasTheUniversesOfItsRanges}
use Rattle.sacn_node.specs.Cores as numbers
use Rattle.sacn_world.specs.Holdings.{RisingByCid}
use Rattle.sacn_world.specs.Nodes.{Holding, nothing_held, seen_table}
use Rattle.sacn_packets.specs.declared.root.fault.PacketFault.{PacketFault}
use Rattle.sacn_world.specs.declared.answer.Answer.{Answer}
use Rattle.sacn_world.specs.declared.answer.Answer.TheVariants as answered
use Rattle.sacn_world.specs.declared.console.Console.{Console}
use Rattle.sacn_schedule.specs.declared.event.Event.{Event}
use Rattle.sacn_schedule.specs.declared.event.Event.TheVariants.{Order, Poll, Deliver, Look, RestartConsole, RestartNode, Noise}
use Rattle.sacn_world.specs.declared.fault.WorldFault.{WorldFault}
use Rattle.sacn_world.specs.declared.fault.WorldFault.TheVariants.{NoConsole, NoNode, NoDatagram, NoiseIsPacket}
use Rattle.sacn_world.specs.Streams.{Sent}
use Rattle.sacn_world.specs.Nodes.{Node, node_at, node_of, frame_of, seen_core}
use Rattle.sacn_world.specs.Worlds.{World, Outcome, Step, with_console, with_node, with_core, order_step, poll_step, new_life, restart_console, deliver_step, answer_to_look, look_step, hear_noise, noise_step, restart_node, step, left_by, WorldOk}
use Rattle.sacn_world.specs.Arrivals.{refused_for, replied, moved, arrival}
use Rattle.sacn_world.specs.Watches.{Watch, holding_from, node_by_places, by_places, with_core as with_node_core, taken_by, new_watch, WatchOk}
use Rattle.sacn_world.specs.Wire.{SentDatagram, seen_sent, stream_in, came_by, came_of, refusal_in, refusal_by}
use Rattle.sacn_world.specs.Invariants.{seen_world, Kept, IsAccepted}
use Rattle.sacn_world.proofs.All.{all_get, all_set}
use Rattle.sacn_world.proofs.NodeSteps.{slots_seen}
use Rattle.sacn_world.proofs.Runs.{step_ok}
use Rattle.sacn_world.proofs.Replies.{arrive_is}
use Rattle.sacn_world.proofs.Deliveries.{Moved, at_moved, refused, reply_is, taken_moved}

-- ---- a new node

new_holdings : (us : List ℕ) → map (holding_from []) (map numbers.new_table us) ≡ map nothing_held us
new_holdings [] = refl
new_holdings (u ∷ us) = λ i. nothing_held u ∷ new_holdings us i

new_tables : (sent : List Sent) (us : List ℕ) → map numbers.new_table us ≡ map (seen_table sent) (map nothing_held us)
new_tables sent [] = refl
new_tables sent (u ∷ us) = λ i. numbers.new_table u ∷ new_tables sent us i

new_universes : (us : List ℕ) → map (λ (g : Holding). g.universe) (map nothing_held us) ≡ us
new_universes [] = refl
new_universes (u ∷ us) = λ i. u ∷ new_universes us i

new_sorted : (us : List ℕ) → AllByRecursion (λ (g : Holding). RisingByCid g.held) (map nothing_held us)
new_sorted [] = tt
new_sorted (u ∷ us) = (tt, new_sorted us)

new_places : (ports : List Port) → node_by_places (new_watch ports) ≡ node_of ports
unfolding by_places
new_places ports = λ i. record { ports = ports; moment = 0; holdings = new_holdings (universes ports) i; delivered = [] }

pub new_seen : (sent : List Sent) (ports : List Port) → (new_watch ports).node.core ≡ seen_core sent (node_of ports)
unfolding seen_core
new_seen sent ports = λ i. record { moment = 0; tables = new_tables sent (universes ports) i }

pub new_moved : (sent : List Sent) (y : Watch) (ports : List Port) → Rising (universes ports) → Moved sent y (new_watch ports) (node_of ports)
new_moved sent y ports rise =
    let e = new_places ports in
    record {
      places = e;
      ok = record {
        core = new_seen sent ports ∙ ap (seen_core sent) (sym e);
        marks = tt;
        rise = subst (λ (n : Node). Rising (map (λ (g : Holding). g.universe) n.holdings)) (sym e) (subst Rising (sym (new_universes (universes ports))) rise);
        sorted = subst (λ (n : Node). AllByRecursion (λ (g : Holding). RisingByCid g.held) n.holdings) (sym e) (new_sorted (universes ports));
      };
    }

pub record Done (v : World) (e : Event) (a : Answer) (cs : List Console) (fs : List SentDatagram) (ws : List Watch) : Type 0 where
  pub step : step v e ≡ Ok (record { answer = a; world = seen_world cs fs ws })
  pub kept : Kept cs fs ws

module _ (cs : List Console) (fs : List SentDatagram) (ws : List Watch) (keeps : Kept cs fs ws) (v : World) (is : seen_world cs fs ws ≡ v) where
  abbrev w : World
  w = seen_world cs fs ws

  pub turned : (e : Event) (s : Step) → step w e ≡ s → step v e ≡ s
  turned e s h = subst (λ (z : World). step z e ≡ s) is h

  pub ok_after : (e : Event) (o : Outcome) → step w e ≡ Ok o → WorldOk o.world
  ok_after e o h = subst WorldOk (ap (left_by w) h) (step_ok w keeps.ok e)

  -- ---- consoles

  pub no_console_order : (i m : ℕ) (k : Command) → length cs ≤ i → step v (Order i m k) ≡ Err NoConsole
  unfolding step
  no_console_order i m k past = turned (Order i m k) _ (ap (order_step w i m k) (slice_get_past cs i past))

  pub no_console_poll : (i m : ℕ) → length cs ≤ i → step v (Poll i m) ≡ Err NoConsole
  unfolding step
  no_console_poll i m past = turned (Poll i m) _ (ap (poll_step w i m) (slice_get_past cs i past))

  pub no_console_restart : (i first : ℕ) → length cs ≤ i → step v (RestartConsole i first) ≡ Err NoConsole
  unfolding step
  no_console_restart i first past = turned (RestartConsole i first) _ (ap (restart_console w i first) (slice_get_past cs i past))

  pub console_done : (e : Event) (a : Answer) (i : ℕ) (y : Console) → step w e ≡ Ok (record { answer = a; world = with_console w i y }) → Done v e a (slice_set cs i y) fs ws
  console_done e a i y h = record { step = turned e _ h; kept = record { ok = ok_after e _ h; datagrams = keeps.datagrams; nodes = keeps.nodes } }

  pub order_done : (i m : ℕ) (k : Command) (c : Console) → slice_get cs i ≡ Some c → (core : console.Core) → core ≡ console.after_command m k c.core → Done v (Order i m k) (answered.Ordered (console.answer k (console.at m c.core))) (slice_set cs i (with_core c core)) fs ws
  unfolding step
  order_done i m k c ec core e =
      console_done (Order i m k) _ i (with_core c core) (ap (order_step w i m k) ec ∙ (λ j. Ok (record { answer = answered.Ordered (console.answer k (console.at m c.core)); world = with_console w i (with_core c (sym e j)) })))

  pub restart_console_done : (i first : ℕ) (c : Console) → slice_get cs i ≡ Some c → (y : Console) → y ≡ new_life c.show (c.life + 1) first → Done v (RestartConsole i first) answered.Restarted (slice_set cs i y) fs ws
  unfolding step
  restart_console_done i first c ec y e =
      console_done (RestartConsole i first) _ i y (ap (restart_console w i first) ec ∙ (λ j. Ok (record { answer = answered.Restarted; world = with_console w i (sym e j) })))

  pub restart_console_is : (i first : ℕ) (c : Console) → slice_get cs i ≡ Some c → step v (RestartConsole i first) ≡ Ok (record { answer = answered.Restarted; world = with_console w i (new_life c.show (c.life + 1) first) })
  unfolding step
  restart_console_is i first c ec = turned (RestartConsole i first) _ (ap (restart_console w i first) ec)

  -- ---- nodes

  none_there : (i : ℕ) → length ws ≤ i → slice_get w.nodes i ≡ None
  none_there i past = slice_get-map node_by_places ws i ∙ ap (option_map node_by_places) (slice_get_past ws i past)

  node_there : (i : ℕ) (y : Watch) → slice_get ws i ≡ Some y → slice_get w.nodes i ≡ Some (node_by_places y)
  node_there i y e = slice_get-map node_by_places ws i ∙ ap (option_map node_by_places) e

  sent_there : (k : ℕ) (f : SentDatagram) → slice_get fs k ≡ Some f → slice_get w.sent k ≡ Some (seen_sent f)
  sent_there k f e = slice_get-map seen_sent fs k ∙ ap (option_map seen_sent) e

  pub no_node_look : (i port m : ℕ) → length ws ≤ i → step v (Look i port m) ≡ Err NoNode
  unfolding step
  no_node_look i port m past = turned (Look i port m) _ (ap (look_step w i port m) (none_there i past))

  pub no_node_restart : (i : ℕ) → length ws ≤ i → step v (RestartNode i) ≡ Err NoNode
  unfolding step
  no_node_restart i past = turned (RestartNode i) _ (ap (restart_node w i) (none_there i past))

  pub no_node_deliver : (k i m : ℕ) → length ws ≤ i → step v (Deliver k i m) ≡ Err NoNode
  unfolding step
  no_node_deliver k i m past = turned (Deliver k i m) _ (ap (λ o. deliver_step w k i m o (slice_get w.sent k)) (none_there i past))

  -- a node moves
  node_done : (e : Event) (a : Answer) (i : ℕ) (y z : Watch) (n : Node) → Moved (map seen_sent fs) y z n → step w e ≡ Ok (record { answer = a; world = with_node w i n }) → Done v e a cs fs (slice_set ws i z)
  node_done e a i y z n moves h =
      let f : map node_by_places (slice_set ws i z) ≡ slice_set (map node_by_places ws) i n =
      map-set node_by_places ws i z ∙ ap (slice_set (map node_by_places ws) i) moves.places in
      let g : step w e ≡ Ok (record { answer = a; world = seen_world cs fs (slice_set ws i z) }) =
      h ∙ (λ j. Ok (record { answer = a; world = record { consoles = cs; sent = map seen_sent fs; nodes = sym f j } })) in
      record {
        step = turned e _ g;
        kept = record { ok = ok_after e _ g; datagrams = keeps.datagrams; nodes = all_set (WatchOk (map seen_sent fs)) ws i z keeps.nodes moves.ok };
      }

  watch_ok : (i : ℕ) (y : Watch) → slice_get ws i ≡ Some y → WatchOk (map seen_sent fs) y
  watch_ok i y e = all_get (WatchOk (map seen_sent fs)) ws i y keeps.nodes e

  frame_seen : (port : ℕ) (z : Watch) → WatchOk (map seen_sent fs) z → node_frame port z.node ≡ frame_of (map seen_sent fs) port (node_by_places z)
  unfolding by_places
  frame_seen port z zok =
      ap (λ c. frame_on (core_slots c) (port_of port z.node.ports)) zok.core
      ∙ (λ j. frame_on (λ u. slots_seen (map seen_sent fs) (node_by_places z) u j) (port_of port z.node.ports))

  pub look_done : (i port m : ℕ) (y : Watch) → slice_get ws i ≡ Some y → (z : Watch) → z ≡ with_node_core (core_at m y.node.core) y → (f : Option (List ℕ)) → f ≡ node_frame port z.node → Done v (Look i port m) (answer_to_look f) cs fs (slice_set ws i z)
  unfolding step
  look_done i port m y ey z ez f ef =
      let moves : Moved (map seen_sent fs) y z (node_at m (node_by_places y)) = subst (λ x. Moved (map seen_sent fs) y x (node_at m (node_by_places y))) (sym ez) (at_moved (map seen_sent fs) m y (watch_ok i y ey)) in
      let frame : frame_of (map seen_sent fs) port (node_at m (node_by_places y)) ≡ f = ap (frame_of (map seen_sent fs) port) (sym moves.places) ∙ sym (frame_seen port z moves.ok) ∙ sym ef in
      node_done (Look i port m) (answer_to_look f) i y z (node_at m (node_by_places y)) moves
      (ap (look_step w i port m) (node_there i y ey) ∙ (λ j. Ok (record { answer = answer_to_look (frame j); world = with_node w i (node_at m (node_by_places y)) })))

  -- noise
  pub no_node_noise : (i m : ℕ) (octets : Vec ℕ Global) → length ws ≤ i → step v (Noise i m octets) ≡ Err NoNode
  unfolding step
  no_node_noise i m octets past = turned (Noise i m octets) _ (ap (noise_step w i m (reading_packet octets.items)) (none_there i past))

  pub noise_refused : (i m : ℕ) (octets : Vec ℕ Global) (y : Watch) → slice_get ws i ≡ Some y → (p : Packet) → reading_packet octets.items ≡ Ok p → step v (Noise i m octets) ≡ Err NoiseIsPacket
  unfolding step
  noise_refused i m octets y ey p er =
      turned (Noise i m octets) _ (ap (noise_step w i m (reading_packet octets.items)) (node_there i y ey) ∙ ap (hear_noise w i m (node_by_places y)) er)

  pub noise_done : (i m : ℕ) (octets : Vec ℕ Global) (y : Watch) → slice_get ws i ≡ Some y → (fault : PacketFault) → reading_packet octets.items ≡ Err fault → (z : Watch) → z ≡ taken_by (reading_packet octets.items) m None y → (reply : NodeTaken) → reply ≡ reply_to (reading_packet octets.items) m y.node.core → Done v (Noise i m octets) (answered.Taken reply) cs fs (slice_set ws i z)
  unfolding step
  noise_done i m octets y ey fault er z ez reply e =
      let is : z ≡ with_node_core (core_at m y.node.core) y = ez ∙ ap (λ r. taken_by r m None y) er in
      let moves : Moved (map seen_sent fs) y z (node_at m (node_by_places y)) = subst (λ x. Moved (map seen_sent fs) y x (node_at m (node_by_places y))) (sym is) (at_moved (map seen_sent fs) m y (watch_ok i y ey)) in
      let said : Refused fault ≡ reply = sym (e ∙ ap (λ r. reply_to r m y.node.core) er) in
      node_done (Noise i m octets) (answered.Taken reply) i y z (node_at m (node_by_places y)) moves
      (ap (noise_step w i m (reading_packet octets.items)) (node_there i y ey) ∙ ap (hear_noise w i m (node_by_places y)) er ∙ (λ j. Ok (record { answer = answered.Taken (said j); world = with_node w i (node_at m (node_by_places y)) })))

  -- a node starts anew
  pub restart_node_done : HasTheUniversesOfItsRanges → (i : ℕ) (y : Watch) → slice_get ws i ≡ Some y → (z : Watch) → z ≡ new_watch y.node.ports → Done v (RestartNode i) answered.Restarted cs fs (slice_set ws i z)
  unfolding step by_places
  restart_node_done law i y ey z ez =
      let moves : Moved (map seen_sent fs) y z (node_of y.node.ports) = subst (λ x. Moved (map seen_sent fs) y x (node_of y.node.ports)) (sym ez) (new_moved (map seen_sent fs) y y.node.ports (law y.node.ports).0) in
      node_done (RestartNode i) answered.Restarted i y z (node_of y.node.ports) moves (ap (restart_node w i) (node_there i y ey))

  pub restart_node_is : (i : ℕ) (y : Watch) → slice_get ws i ≡ Some y → IsAccepted (step v (RestartNode i))
  unfolding step
  restart_node_is i y ey = (_, turned (RestartNode i) _ (ap (restart_node w i) (node_there i y ey)))

  -- a datagram comes
  pub no_datagram : (k i m : ℕ) (y : Watch) → slice_get ws i ≡ Some y → length fs ≤ k → step v (Deliver k i m) ≡ Err NoDatagram
  unfolding step
  no_datagram k i m y ey past =
      let none : slice_get (map seen_sent fs) k ≡ None = slice_get-map seen_sent fs k ∙ ap (option_map seen_sent) (slice_get_past fs k past) in
      turned (Deliver k i m) _ (ap (λ o. deliver_step w k i m o (slice_get w.sent k)) (node_there i y ey) ∙ ap (deliver_step w k i m (Some (node_by_places y))) none)

  module _ (k i m : ℕ) (y : Watch) (f : SentDatagram) (ey : slice_get ws i ≡ Some y) (ef : slice_get fs k ≡ Some f) where
    abbrev x : Sent
    x = seen_sent f

    stepped : step w (Deliver k i m) ≡ arrival w i (refused_for w.sent k (node_by_places y) x.source x.packet) (replied w.sent k m (node_by_places y) x.source x.packet) (moved w.sent k m (node_by_places y) x.source x.packet)
    unfolding step
    stepped =
        ap (λ o. deliver_step w k i m o (slice_get w.sent k)) (node_there i y ey) ∙ ap (deliver_step w k i m (Some (node_by_places y))) (sent_there k f ef)
        ∙ arrive_is w k i m (node_by_places y) x.source x.packet

    fault_is : refusal_by f y.marks ≡ refused_for w.sent k (node_by_places y) x.source x.packet
    fault_is =
        ap (refusal_in f.source f.life y.marks) (keeps.datagrams k f ef).stream
        ∙ refused w keeps.ok k i m y x (node_there i y ey) (sent_there k f ef) (watch_ok i y ey) x.packet refl

    pub deliver_refused : (fault : WorldFault) → refusal_by f y.marks ≡ Some fault → step v (Deliver k i m) ≡ Err fault
    deliver_refused fault e = turned (Deliver k i m) _ (stepped ∙ ap (λ r. arrival w i r (replied w.sent k m (node_by_places y) x.source x.packet) (moved w.sent k m (node_by_places y) x.source x.packet)) (sym fault_is ∙ e))

    pub deliver_is : refusal_by f y.marks ≡ None → IsAccepted (step v (Deliver k i m))
    deliver_is e = (_, turned (Deliver k i m) _ (stepped ∙ ap (λ r. arrival w i r (replied w.sent k m (node_by_places y) x.source x.packet) (moved w.sent k m (node_by_places y) x.source x.packet)) (sym fault_is ∙ e)))

    pub deliver_done : refusal_by f y.marks ≡ None → (z : Watch) → z ≡ taken_by (reading_packet f.octets.items) m (came_of f) y → (reply : NodeTaken) → reply ≡ reply_to (reading_packet f.octets.items) m y.node.core → Done v (Deliver k i m) (answered.Taken reply) cs fs (slice_set ws i z)
    deliver_done e z ez reply er =
        let d = keeps.datagrams k f ef in
        let n = node_by_places y in
        let there = node_there i y ey in
        let ex = sent_there k f ef in
        let yok = watch_ok i y ey in
        let may : refused_for w.sent k n x.source x.packet ≡ None = sym fault_is ∙ e in
        let is : z ≡ taken_by (Ok x.packet) m (came_by f.source f.life (stream_in w.sent k f.source x.packet)) y =
        ez ∙ ap (λ r. taken_by r m (came_of f) y) d.read ∙ ap (λ o. taken_by (Ok x.packet) m (came_by f.source f.life o) y) d.stream in
        let moves : Moved w.sent y z (moved w.sent k m n x.source x.packet) = subst (λ u. Moved w.sent y u (moved w.sent k m n x.source x.packet)) (sym is) (taken_moved w keeps.ok k i m y x there ex yok x.packet refl may) in
        let said : replied w.sent k m n x.source x.packet ≡ reply = sym (er ∙ ap (λ r. reply_to r m y.node.core) d.read ∙ reply_is w keeps.ok k i m y x there ex yok x.packet refl may) in
        node_done (Deliver k i m) (answered.Taken reply) i y z (moved w.sent k m n x.source x.packet) moves
        (stepped
        ∙ ap (λ r. arrival w i r (replied w.sent k m n x.source x.packet) (moved w.sent k m n x.source x.packet)) may
        ∙ (λ j. Ok (record { answer = answered.Taken (said j); world = with_node w i (moved w.sent k m n x.source x.packet) })))

-- with the answer as the code gives it
pub answered_as : {s : Step} {a b : Answer} {w : World} → s ≡ Ok (record { answer = a; world = w }) → a ≡ b → s ≡ Ok (record { answer = b; world = w })
answered_as {w = w} h e = h ∙ (λ j. Ok (record { answer = e j; world = w }))

-- what was written back as it was
pub put_back : {X : Type 0} (xs : List X) (i : ℕ) (x y : X) → slice_get xs i ≡ Some x → y ≡ x → slice_set xs i y ≡ xs
put_back [] i x y e f = refl
put_back (z ∷ zs) zero x y e f = ap (λ a. a ∷ zs) (f ∙ sym (same_Some z x e))
put_back (z ∷ zs) (suc i) x y e f = ap (λ ys. z ∷ ys) (put_back zs i x y e f)

pub some_packet : (r : Reading) → is_ok r ≡ true → (p : Packet) × (r ≡ Ok p)
some_packet (Ok p) e = (p, refl)
some_packet (Err f) e = absurd (cc)

pub some_fault : (r : Reading) → is_ok r ≡ false → (f : PacketFault) × (r ≡ Err f)
some_fault (Ok p) e = absurd (cc)
some_fault (Err f) e = (f, refl)

pub there_is : {X : Type 0} (xs : List X) (i : ℕ) → i < length xs → (x : X) × (slice_get xs i ≡ Some x)
there_is [] i lt = absurd (omega (arith, lt))
there_is (x ∷ xs) zero lt = (x, refl)
there_is (x ∷ xs) (suc i) lt = there_is xs i (omega (arith, lt))

-- Whose packets a world has, which ports its nodes have, and so where what a node shows comes from.
use Rattle.std.proofs.Common.{◌≡◌, ℕ, zero, suc, ◌<◌, Bool, true, false, not, cond, List, [], ◌∷◌, ◌++◌, map, take, length, Option, Some, None, Ok, Err, refl, sym, ap, subst, ◌∙◌, arith, slice_get}
use Rattle.std.specs.Prelude.{option_map, slice_set, filter, count_by, ◌==◌, Contains}
use Rattle.std.specs.List.{AllByRecursion, filter_map}
use Rattle.std.proofs.lemmas.Option.{same_Some, slice_get-map}
use Rattle.std.proofs.lemmas.Bool.{and_parts, eqb-true}
use Rattle.sacn_packets.specs.Data.{Data}
use Rattle.sacn_packets.specs.declared.framing.packet.Packet.{Packet}
use Rattle.sacn_packets.specs.declared.framing.packet.Packet.TheVariants.{DataPacket, PagePacket, SyncPacket}
use Rattle.sacn_packets.specs.PacketReading.{reading_packet}
use Rattle.sacn_sources.specs.Merge.{Shown, merge}
use Rattle.sacn_console.specs.Shows.{ShowContent}
use Rattle.sacn_console.specs.Lines as line
use Rattle.sacn_console.specs.declared.command.Command.{Command}
use Rattle.sacn_node.specs.Readings.{Reading}
use Rattle.sacn_node.specs.Setup.{Port}
use Rattle.sacn_world.specs.declared.console.Console.{Console}
use Rattle.sacn_schedule.specs.declared.event.Event.{Event}
use Rattle.sacn_schedule.specs.declared.event.Event.TheVariants.{Order, Poll, Deliver, Look, RestartConsole, RestartNode, Noise}
use Rattle.sacn_world.specs.declared.fault.WorldFault.{WorldFault}
use Rattle.sacn_world.specs.Streams.{Sent, nothing, at, is_on, is_of, stream_of, place_of, is_live, priority, levels, live_in}
use Rattle.sacn_world.specs.Holdings.{Hold}
use Rattle.sacn_world.specs.RowsOfPlaces.{shown_by}
use Rattle.sacn_world.specs.Nodes.{Holding, Node, node_of, holding_of, shown_of, HoldOk}
use Rattle.sacn_schedule.specs.Cids.{Desk}
use Rattle.sacn_world.specs.Worlds.{World, with_console, with_node, sent_by, with_sent, polled, order_step, poll_by, poll_step, restart_console, come, arrive, deliver_step, look_step, hear_noise, noise_step, restart_node, step, left_by, after, new_console, new_world, NodeOk, WorldOk}
use Rattle.sacn_world.specs.Laws.{reached}
use Rattle.sacn_world.specs.Origins.{ReallySent, IsHeldLayer, IsMergeOfHeld, HeldPlacesWereSent, NodesKeepTheirPorts}
use Rattle.sacn_world.proofs.All.{all_get}
use Rattle.sacn_world.proofs.Sources.{same_source}
use Rattle.sacn_world.proofs.Lists.{found}
use Rattle.sacn_world.proofs.Growth.{holds_within}
use Rattle.sacn_world.proofs.Runs.{mapped}
use Rattle.sacn_world.proofs.Sending.{count_here, place_is}
use Rattle.sacn_world.proofs.Looks.{contains_in, in_contains, in_filter_map, filter_map_in, in_all, shown_live}
use Rattle.sacn_world.proofs.Counts.{own_stream}
use Rattle.sacn_world.proofs.Reaching.{reached_ok, live_layer}

-- ---- shows, ports and sources of every world that is come to

set_maps : {X Y : Type 0} (f : X → Y) (xs : List X) (i : ℕ) (c y : X) → slice_get xs i ≡ Some c → f y ≡ f c → map f (slice_set xs i y) ≡ map f xs
set_maps f [] i c y e is = refl
set_maps f (x ∷ xs) zero c y e is = ap (λ z. z ∷ map f xs) (is ∙ sym (ap f (same_Some x c e)))
set_maps f (x ∷ xs) (suc i) c y e is = ap (λ zs. f x ∷ zs) (set_maps f xs i c y e is)

-- a packet of a console of one of the shows
abbrev IsOwn : List ShowContent → Sent → Type 0
IsOwn shows x = (i : ℕ) × (s : ShowContent) × (slice_get shows i ≡ Some s) × (s.cid ≡ x.source)

all_push : {X : Type 0} (P : X → Type 0) (xs : List X) (x : X) → AllByRecursion P xs → P x → AllByRecursion P (xs ++ x ∷ [])
all_push P [] x all p = (p, tt)
all_push P (y ∷ ys) x all p = (all.0, all_push P ys x all.1 p)

pub record Origin (shows : List ShowContent) (setups : List (List Port)) (w : World) : Type 0 where
  pub shows_kept : map (λ (c : Console). c.show) w.consoles ≡ shows
  pub ports_kept : map (λ (n : Node). n.ports) w.nodes ≡ setups
  pub own : AllByRecursion (IsOwn shows) w.sent

module _ (shows : List ShowContent) (setups : List (List Port)) (w : World) (o : Origin shows setups w) where
  console_kept : (i : ℕ) (c y : Console) → slice_get w.consoles i ≡ Some c → y.show ≡ c.show → Origin shows setups (with_console w i y)
  console_kept i c y e is = record { shows_kept = set_maps (λ (z : Console). z.show) w.consoles i c y e is ∙ o.shows_kept; ports_kept = o.ports_kept; own = o.own }

  node_kept : (i : ℕ) (n y : Node) → slice_get w.nodes i ≡ Some n → y.ports ≡ n.ports → Origin shows setups (with_node w i y)
  node_kept i n y e is = record { shows_kept = o.shows_kept; ports_kept = set_maps (λ (z : Node). z.ports) w.nodes i n y e is ∙ o.ports_kept; own = o.own }

  sent_kept : (i m : ℕ) (c : Console) (d : line.Datagram) → slice_get w.consoles i ≡ Some c → Origin shows setups (with_sent w i (polled m c) (sent_by c d))
  sent_kept i m c d e =
      let is : slice_get shows i ≡ Some c.show = ap (λ xs. slice_get xs i) (sym o.shows_kept) ∙ slice_get-map (λ (z : Console). z.show) w.consoles i ∙ ap (option_map (λ (z : Console). z.show)) e in
      record {
        shows_kept = set_maps (λ (z : Console). z.show) w.consoles i c (polled m c) e refl ∙ o.shows_kept;
        ports_kept = o.ports_kept;
        own = all_push (IsOwn shows) w.sent (sent_by c d) o.own (i, c.show, is, refl);
      }

  order_kept : (i m : ℕ) (k : Command) (oc : Option Console) → slice_get w.consoles i ≡ oc → Origin shows setups (left_by w (order_step w i m k oc))
  order_kept i m k None e = o
  order_kept i m k (Some c) e = console_kept i c _ e refl

  poll_by_kept : (i m : ℕ) (c : Console) → slice_get w.consoles i ≡ Some c → (od : Option line.Datagram) → Origin shows setups (poll_by w i m c od).world
  poll_by_kept i m c e None = console_kept i c (polled m c) e refl
  poll_by_kept i m c e (Some d) = sent_kept i m c d e

  poll_kept : (i m : ℕ) (oc : Option Console) → slice_get w.consoles i ≡ oc → Origin shows setups (left_by w (poll_step w i m oc))
  poll_kept i m None e = o
  poll_kept i m (Some c) e = poll_by_kept i m c e _

  restarted_kept : (i first : ℕ) (oc : Option Console) → slice_get w.consoles i ≡ oc → Origin shows setups (left_by w (restart_console w i first oc))
  restarted_kept i first None e = o
  restarted_kept i first (Some c) e = console_kept i c _ e refl

  come_kept : (i m : ℕ) (n : Node) (s : List ℕ) (u q : ℕ) (f : Option WorldFault) → slice_get w.nodes i ≡ Some n → Origin shows setups (left_by w (come w i m n s u q f))
  come_kept i m n s u q (Some f) e = o
  come_kept i m n s u q None e = node_kept i n _ e refl

  arrive_kept : (k i m : ℕ) (n : Node) (s : List ℕ) (p : Packet) → slice_get w.nodes i ≡ Some n → Origin shows setups (left_by w (arrive w k i m n s p))
  arrive_kept k i m n s (DataPacket d) e = come_kept i m n s d.universe _ _ e
  arrive_kept k i m n s (PagePacket p) e = node_kept i n _ e refl
  arrive_kept k i m n s SyncPacket e = node_kept i n _ e refl

  deliver_kept : (k i m : ℕ) (on : Option Node) (ox : Option Sent) → slice_get w.nodes i ≡ on → Origin shows setups (left_by w (deliver_step w k i m on ox))
  deliver_kept k i m None ox e = o
  deliver_kept k i m (Some n) None e = o
  deliver_kept k i m (Some n) (Some x) e = arrive_kept k i m n x.source x.packet e

  look_kept : (i port m : ℕ) (on : Option Node) → slice_get w.nodes i ≡ on → Origin shows setups (left_by w (look_step w i port m on))
  look_kept i port m None e = o
  look_kept i port m (Some n) e = node_kept i n _ e refl

  heard_kept : (i m : ℕ) (n : Node) (r : Reading) → slice_get w.nodes i ≡ Some n → Origin shows setups (left_by w (hear_noise w i m n r))
  heard_kept i m n (Ok p) e = o
  heard_kept i m n (Err f) e = node_kept i n _ e refl

  noise_kept : (i m : ℕ) (r : Reading) (on : Option Node) → slice_get w.nodes i ≡ on → Origin shows setups (left_by w (noise_step w i m r on))
  noise_kept i m r None e = o
  noise_kept i m r (Some n) e = heard_kept i m n r e

  anew_kept : (i : ℕ) (on : Option Node) → slice_get w.nodes i ≡ on → Origin shows setups (left_by w (restart_node w i on))
  anew_kept i None e = o
  anew_kept i (Some n) e = node_kept i n (node_of n.ports) e refl

  pub step_kept : (e : Event) → Origin shows setups (left_by w (step w e))
  unfolding step
  step_kept (Order i m k) = order_kept i m k _ refl
  step_kept (Poll i m) = poll_kept i m _ refl
  step_kept (Deliver k i m) = deliver_kept k i m _ _ refl
  step_kept (Look i port m) = look_kept i port m _ refl
  step_kept (RestartConsole i first) = restarted_kept i first _ refl
  step_kept (RestartNode i) = anew_kept i _ refl
  step_kept (Noise i m octets) = noise_kept i m (reading_packet octets.items) _ refl

after_kept : (shows : List ShowContent) (setups : List (List Port)) (w : World) → Origin shows setups w → (es : List Event) → Origin shows setups (after w es)
after_kept shows setups w o [] = o
after_kept shows setups w o (e ∷ es) = after_kept shows setups (left_by w (step w e)) (step_kept shows setups w o e) es

desks_shows : (shows : List Desk) → map (λ (c : Console). c.show) (map new_console shows) ≡ map (λ (d : Desk). d.0) shows
desks_shows [] = refl
desks_shows (d ∷ ds) = ap (λ xs. d.0 ∷ xs) (desks_shows ds)

nodes_ports : (setups : List (List Port)) → map (λ (n : Node). n.ports) (map node_of setups) ≡ setups
nodes_ports [] = refl
nodes_ports (p ∷ ps) = ap (λ xs. p ∷ xs) (nodes_ports ps)

pub reached_origin : (shows : List Desk) (setups : List (List Port)) (events : List Event) → Origin (map (λ (d : Desk). d.0) shows) setups (reached shows setups events)
reached_origin shows setups events = after_kept _ setups (new_world shows setups) (record { shows_kept = desks_shows shows; ports_kept = nodes_ports setups; own = tt }) events

pub ports_stay : NodesKeepTheirPorts
ports_stay shows setups events = (reached_origin shows setups events).ports_kept

-- ---- a place of a stream is that of a packet that was really sent

record Chosen {X : Type 0} (p : X → Bool) (xs : List X) (q : ℕ) : Type 0 where
  index : ℕ
  element : X
  is_element : slice_get xs index ≡ Some element
  passes : p element ≡ true
  before : count_by p (take index xs) ≡ q

module _ {X : Type 0} (p : X → Bool) where
  first_chosen : (y : X) (ys : List X) (q : ℕ) → p y ≡ true → ((r : ℕ) → r < length (filter p ys) → Chosen p ys r) → q < suc (length (filter p ys)) → Chosen p (y ∷ ys) q
  first_chosen y ys zero pass rest lt = record { index = 0; element = y; is_element = refl; passes = pass; before = refl }
  first_chosen y ys (suc q) pass rest lt =
      let r = rest q (omega (arith, lt)) in
      record { index = suc r.index; element = r.element; is_element = r.is_element; passes = r.passes; before = count_here p y (take r.index ys) true pass ∙ omega (arith, r.before) }

  chosen : (xs : List X) (q : ℕ) → q < length (filter p xs) → Chosen p xs q
  chosen [] q lt = absurd (omega (arith, lt))
  chosen (y ∷ ys) q lt =
      elim (p y) as (λ b. p y ≡ b → q < length (cond b (y ∷ filter p ys) (filter p ys)) → Chosen p (y ∷ ys) q) [
        | true ↦ λ f h. first_chosen y ys q f (λ r. chosen ys r) h
        | false ↦ λ f h.
            let r = chosen ys q h in
            record { index = suc r.index; element = r.element; is_element = r.is_element; passes = r.passes; before = count_here p y (take r.index ys) false f ∙ omega (arith, r.before) }
      ] refl lt

data_on : (u : ℕ) (p : Packet) → is_on u p ≡ true → (d : Data) × (p ≡ DataPacket d) × (d.universe ≡ u)
data_on u (DataPacket d) e = (d, refl, eqb-true _ _ e)
data_on u (PagePacket p) e = cc
data_on u SyncPacket e = cc

desk_at : (shows : List Desk) (i : ℕ) (s : ShowContent) → slice_get (map (λ (d : Desk). d.0) shows) i ≡ Some s → (d : Desk) × (slice_get shows i ≡ Some d) × (d.0 ≡ s)
desk_at shows i s e = mapped (λ (d : Desk). d.0) (slice_get shows i) s (sym (slice_get-map (λ (d : Desk). d.0) shows i) ∙ e)

pub really_sent : (shows : List Desk) (setups : List (List Port)) (events : List Event) (s : List ℕ) (u q : ℕ) → let w = reached shows setups events in q < length (stream_of s u w.sent) → (d : Data) × ReallySent shows w.sent s u q d
unfolding stream_of place_of
really_sent shows setups events s u q lt =
    let w = reached shows setups events in
    let c = chosen (is_of s u) w.sent q lt in
    let parts = and_parts _ _ c.passes in
    let d = data_on u c.element.packet parts.1 in
    let from : s ≡ c.element.source = same_source s c.element.source parts.0 in
    let own = all_get (IsOwn (map (λ (x : Desk). x.0) shows)) w.sent c.index c.element (reached_origin shows setups events).own c.is_element in
    let desk = desk_at shows own.0 own.1 own.2 in (
      d.0,
      record {
        console = own.0;
        desk = desk.0;
        is_desk = desk.1;
        cid = ap (λ (x : ShowContent). x.cid) desk.2 ∙ own.3 ∙ sym from;
        number = c.index;
        datagram = c.element;
        is_datagram = c.is_element;
        source = sym from;
        says = d.1;
        universe = d.2;
        place = c.before;
      },
    )

-- what is at that place is that packet
pub sent_there : (shows : List Desk) (sent : List Sent) (s : List ℕ) (u q : ℕ) (d : Data) → (r : ReallySent shows sent s u q d) → at (stream_of s u sent) q ≡ r.datagram
sent_there shows sent s u q d r =
    let own : is_of s u r.datagram ≡ true = subst (λ z. is_of z u r.datagram ≡ true) r.source (subst (λ v. is_of r.datagram.source v r.datagram ≡ true) r.universe (own_stream r.datagram d r.says)) in
    ap (at (stream_of s u sent)) (sym r.place) ∙ place_is s u sent r.number r.datagram r.is_datagram own

-- ---- places that are held

pub held_within : (w : World) → WorldOk w → (i : ℕ) (n : Node) (u : ℕ) (gs : List Holding) → slice_get w.nodes i ≡ Some n → AllByRecursion (λ g. AllByRecursion (HoldOk g.universe n.delivered) g.held) gs → (g : Holding) → holding_of u gs ≡ Some g → AllByRecursion (λ (h : Hold). h.place < length (stream_of h.source u w.sent)) g.held
held_within w ok i n u gs en below g eg =
    let nok = all_get (NodeOk w.sent) w.nodes i n ok.nodes en in
    let f = found (λ (y : Holding). AllByRecursion (HoldOk y.universe n.delivered) y.held) (λ y. y.universe == u) gs g below eg in
    let all : AllByRecursion (HoldOk u n.delivered) g.held = subst (λ v. AllByRecursion (HoldOk v n.delivered) g.held) (eqb-true _ _ f.1) f.0 in
    holds_within w.sent nothing u n.delivered nok.within g.held all

pub held_were_sent : HeldPlacesWereSent
held_were_sent shows setups events i n u g h apart en eg c =
    let w = reached shows setups events in
    let ok = reached_ok shows setups events apart in
    let nok = all_get (NodeOk w.sent) w.nodes i n ok.nodes en in
    let within = held_within w ok i n u n.holdings en nok.below g eg in
    really_sent shows setups events h.source u h.place (in_all (λ (y : Hold). y.place < length (stream_of y.source u w.sent)) g.held h within (in_contains h g.held c))

-- ---- the layers of a merge

not_true : (b : Bool) → not b ≡ true → b ≡ false
not_true true e = cc
not_true false e = refl

not_false : (b : Bool) → b ≡ false → not b ≡ true
not_false true e = cc
not_false false e = refl

live_data : (x : Sent) (d : Data) → x.packet ≡ DataPacket d → is_live x ≡ true → d.terminated ≡ false
unfolding is_live
live_data x d is e = not_true d.terminated (ap live_in (sym is) ∙ e)

data_live : (x : Sent) (d : Data) → x.packet ≡ DataPacket d → d.terminated ≡ false → is_live x ≡ true
unfolding is_live
data_live x d is e = ap live_in is ∙ not_false d.terminated e

module _ (shows : List Desk) (setups : List (List Port)) (events : List Event) (u : ℕ) (hs : List Hold) where
  abbrev sent : List Sent
  sent = (reached shows setups events).sent

  to_layer : AllByRecursion (λ (h : Hold). h.place < length (stream_of h.source u sent)) hs → (y : Shown) → Contains (filter_map (shown_of u sent) hs) y → IsHeldLayer shows sent u hs y
  to_layer within y c =
      let a = in_filter_map (shown_of u sent) y hs (in_contains y _ c) in
      let r = really_sent shows setups events a.0.source u a.0.place (in_all (λ (h : Hold). h.place < length (stream_of h.source u sent)) hs a.0 within a.1) in
      let is = sent_there shows sent a.0.source u a.0.place r.0 r.1 in
      let live : is_live r.1.datagram ≡ true = ap is_live (sym is) ∙ shown_live _ _ _ y a.2 in
      record {
        hold = a.0;
        held = contains_in a.0 hs a.1;
        data_held = r.0;
        sent_so = r.1;
        live = live_data r.1.datagram r.0 r.1.says live;
        layer = same_Some _ _ (sym (live_layer r.1.datagram r.0 r.1.says live) ∙ ap (λ (x : Sent). shown_by (is_live x) (priority x) (levels x)) (sym is) ∙ a.2);
      }

  from_layer : (y : Shown) → IsHeldLayer shows sent u hs y → Contains (filter_map (shown_of u sent) hs) y
  from_layer y k =
      let is = sent_there shows sent k.hold.source u k.hold.place k.data_held k.sent_so in
      let live = data_live k.sent_so.datagram k.data_held k.sent_so.says k.live in
      let e : shown_of u sent k.hold ≡ Some y = ap (λ (x : Sent). shown_by (is_live x) (priority x) (levels x)) is ∙ live_layer k.sent_so.datagram k.data_held k.sent_so.says live ∙ ap Some k.layer in
      contains_in y _ (filter_map_in (shown_of u sent) k.hold y hs (in_contains k.hold hs k.held) e)

  pub merge_of_held : AllByRecursion (λ (h : Hold). h.place < length (stream_of h.source u sent)) hs → IsMergeOfHeld shows sent u hs (merge (filter_map (shown_of u sent) hs))
  merge_of_held within = record { layers = filter_map (shown_of u sent) hs; exactly = λ y. (to_layer within y, from_layer y); merged = refl }

-- The catch-up count over a run.
use Rattle.std.proofs.Common.{◌≡◌, ℕ, zero, suc, ◌-◌, ◌<◌, ◌≤◌, max, Bool, true, false, not, cond, List, [], ◌∷◌, ◌++◌, map, length, Option, Some, None, refl, sym, ap, subst, ◌∙◌, inl, inr, arith}
use Rattle.std.specs.Prelude.{find, slice_get, slice_set, option_map, ◌==◌, ◌&&◌, if◌then◌else◌}
use Rattle.std.specs.List.{AllByRecursion}
use Rattle.std.proofs.lemmas.Bool.{cases_Bool, eqb-true, ne_eqb, and_parts, and_from, cases_eq, eq-eqb, eqb-false}
use Rattle.std.proofs.lemmas.Option.{same_Some, slice_get-map, none-some as none_some}
use Rattle.sacn_world.proofs.All.{all_get}
use Rattle.sacn_world.proofs.Sources.{same_source, same-itself}
use Rattle.sacn_world.proofs.Lists.{found, find-map}
use Rattle.sacn_world.specs.Holdings.{RisingByCid}
use Rattle.sacn_world.proofs.Changes.{on, find_kept, find_change, find_change_other, set_same, set_other, set_there}
use Rattle.sacn_world.proofs.Maps.{sorted_put, sorted_filter, hold_of-filter}
use Rattle.sacn_world.proofs.Forward.{other_kept}
use Rattle.sacn_world.proofs.CatchUp.{delivered_count, catches_up, count_kept}
use Rattle.sacn_world.proofs.NodeSteps.{rule_from, all_kept}
use Rattle.sacn_world.proofs.Growth.{at_kept, number_kept, longer, holds_within}
use Rattle.sacn_world.proofs.Sending.{place_within}
use Rattle.sacn_world.proofs.Runs.{step_ok, after_ok, start_ok, mapped}
use Rattle.sacn_world.specs.Streams.{is_on, is_of, Sent, at, number_at, is_live, stream_of, follows, Ordered, late, place_of}
use Rattle.sacn_world.specs.Holdings.{Hold, is_renewed, unexpired, hold_of, answer, holding_after, after_delivery, newest, refusal}
use Rattle.sacn_world.specs.Nodes.{Holding, Node, nothing_held, node_of, unexpired_all, reply_on, change, node_reply, node_after, node_at, HoldOk}
use Rattle.sacn_sources.specs.Order.{same}
use Rattle.sacn_sources.specs.declared.answer.Taken.{Taken}
use Rattle.sacn_sources.specs.declared.answer.Taken.TheVariants.{SourcesExceeded, EndedNow, UnknownIgnored, OutOfSequence, Observed, Held}
use Rattle.sacn_world.specs.CatchUp.{count_after, CountOk}
use Rattle.sacn_world.specs.declared.console.Console.{Console}
use Rattle.sacn_world.specs.Worlds.{NodeOk, WorldOk, World, Outcome, step, sent_by, with_node, order_step, poll_by, poll_step, restart_console, come, arrive, deliver_step, look_step, hear_noise, noise_step, restart_node, left_by, after, new_console, new_world, Apart}
use Rattle.sacn_world.specs.Counts.{Count, no_count, count_reply, count_come, count_deliver, count_step, count_run, Shows, count_arrive}
use Rattle.std.specs.Prelude.{Ok, Err}
use Rattle.sacn_packets.specs.Data.{Data}
use Rattle.sacn_packets.specs.declared.framing.packet.Packet.{Packet}
use Rattle.sacn_packets.specs.declared.framing.packet.Packet.TheVariants.{DataPacket, PagePacket, SyncPacket}
use Rattle.sacn_packets.specs.PacketReading.{reading_packet}
use Rattle.sacn_console.specs.declared.command.Command.{Command}
use Rattle.sacn_console.specs.Shows.{ShowContent}
use Rattle.sacn_console.specs.Lines as line
use Rattle.sacn_node.specs.Readings.{Reading}
use Rattle.sacn_node.specs.Setup.{Port, universes}
use Rattle.sacn_world.specs.Worlds.{Step}
use Rattle.sacn_world.specs.declared.fault.WorldFault.{WorldFault}
use Rattle.sacn_schedule.specs.declared.event.Event.{Event}
use Rattle.sacn_schedule.specs.declared.event.Event.TheVariants.{Order, Poll, Deliver, Look, RestartConsole, RestartNode, Noise}

-- ---- a count at one node

pub record Counted (st : List Sent) (s : List ℕ) (last : Option ℕ) (c : ℕ) (hs : List Hold) : Type 0 where
  pub sorted : RisingByCid hs
  pub count : CountOk st s last c hs

counted_kept : (st : List Sent) (s : List ℕ) (last : Option ℕ) (c t : ℕ) (hs : List Hold) → Counted st s last c hs → Counted st s last c (unexpired t hs)
counted_kept st s last c t hs k = record {
  sorted = sorted_filter (is_renewed t) hs k.sorted;
  count = count_kept st s last c hs (unexpired t hs) (λ h e. hold_of-filter (is_renewed t) s hs h k.sorted e) k.count;
}

pub sorted_after : (a : Taken) (n : Hold) (hs : List Hold) → RisingByCid hs → RisingByCid (holding_after a n hs)
sorted_after Held n hs so = sorted_put n hs so
sorted_after EndedNow n hs so = sorted_put n hs so
sorted_after Observed n hs so = so
sorted_after OutOfSequence n hs so = so
sorted_after SourcesExceeded n hs so = so
sorted_after UnknownIgnored n hs so = so

abbrev pub CountNode : List Sent → List ℕ → ℕ → Count → Node → Type 0
CountNode sent s u c n = (g : Holding) → find (on u) n.holdings ≡ Some g → Counted (stream_of s u sent) s c.last c.count g.held

at_count : (sent : List Sent) (s : List ℕ) (u : ℕ) (c : Count) (m : ℕ) (n : Node) → CountNode sent s u c n → CountNode sent s u c (node_at m n)
at_count sent s u c m n k g e =
    let a = mapped _ (find (on u) n.holdings) g (sym (find_kept u (max n.moment m) n.holdings) ∙ e) in
    subst (λ (y : Holding). Counted (stream_of s u sent) s c.last c.count y.held) a.2 (counted_kept (stream_of s u sent) s c.last c.count (max n.moment m) a.0.held (k a.0 a.1))

-- another stream's packet
other_count : (sent : List Sent) (s : List ℕ) (u : ℕ) (c : Count) (r : List ℕ) (v q m : ℕ) (n : Node) → (same s r && (v == u)) ≡ false → CountNode sent s u c n → CountNode sent s u c (node_after sent r v q m n)
other_count sent s u c r v q m n ne k g e =
    let t = max n.moment m in
    let before = at_count sent s u c m n k in
    let f = after_delivery (stream_of r v sent) r q t in
    elim (cases_eq v u) [
      | inr apart ↦ before g (sym (find_change_other u v f (unexpired_all t n.holdings) apart) ∙ e)
      | inl vu ↦
          let e' : find (on u) (change u f (unexpired_all t n.holdings)) ≡ Some g = ap (λ y. find (on u) (change y f (unexpired_all t n.holdings))) (sym vu) ∙ e in
          let a = mapped _ (find (on u) (unexpired_all t n.holdings)) g (sym (find_change u f (unexpired_all t n.holdings)) ∙ e') in
          let b = before a.0 a.1 in
          let apart : same s r ≡ false = elim (cases_Bool (same s r)) [
            | inl pass ↦ absurd (let x : (same s r && (v == u)) ≡ true = ap (λ z. z && (v == u)) pass ∙ eq-eqb v u vu in cc)
            | inr fail ↦ fail
          ] in
          let w : Hold = record { source = r; place = q; moment = t } in
          let ans = answer (stream_of r v sent) r q a.0.held in
          let unexpired' = other_kept s ans w a.0.held apart in
          subst (λ (y : Holding). Counted (stream_of s u sent) s c.last c.count y.held) a.2 (record {
            sorted = sorted_after ans w a.0.held b.sorted;
            count = count_kept (stream_of s u sent) s c.last c.count a.0.held (f a.0.held) (λ h eh. sym unexpired' ∙ eh) b.count;
          })
    ]

-- the stream's own packet
module _ (sent : List Sent) (s : List ℕ) (u : ℕ) (c : Count) (q m : ℕ) (n : Node) (ord : Ordered (stream_of s u sent)) (nok : NodeOk sent n) (there : q < length (stream_of s u sent)) (may : refusal (stream_of s u sent) (newest s u n.delivered) q ≡ None) (k : CountNode sent s u c n) where
  own_held : (g : Holding) → find (on u) (unexpired_all (max n.moment m) n.holdings) ≡ Some g → Counted (stream_of s u sent) s c.last c.count g.held × ((h : Hold) → hold_of s g.held ≡ Some h → not (late (number_at (stream_of s u sent) h.place) (number_at (stream_of s u sent) q)) ≡ follows (stream_of s u sent) h.place q)
  own_held g e =
      let f = found (λ (y : Holding). AllByRecursion (HoldOk y.universe n.delivered) y.held) (on u) (unexpired_all (max n.moment m) n.holdings) g (all_kept (λ v. HoldOk v n.delivered) (max n.moment m) n.holdings nok.below) e in
      let all : AllByRecursion (HoldOk u n.delivered) g.held = subst (λ v. AllByRecursion (HoldOk v n.delivered) g.held) (eqb-true _ _ f.1) f.0 in (
        at_count sent s u c m n k g e,
        λ h eh.
            let r = rule_from u sent s q n.delivered g.held ord nok.within there may all h eh in
            let fh = found (HoldOk u n.delivered) (λ (x : Hold). same s x.source) g.held h all eh in
            let es = same_source s h.source fh.1 in
            ap (λ (x : List ℕ). not (late (number_at (stream_of x u sent) h.place) (number_at (stream_of s u sent) q))) es ∙ r,
      )

  abbrev own_c : Count
  own_c = count_reply (stream_of s u sent) q (node_reply sent s u q m n) c

  own_reply : (g : Holding) → find (on u) (unexpired_all (max n.moment m) n.holdings) ≡ Some g → own_c ≡ record { last = Some q; count = count_after (stream_of s u sent) c.last q (answer (stream_of s u sent) s q g.held) c.count }
  own_reply g e = ap (λ o. count_reply (stream_of s u sent) q (reply_on (stream_of s u sent) s q o) c) e

  own_count : CountNode sent s u own_c (node_after sent s u q m n)
  own_count g e =
      let t = max n.moment m in
      let f = after_delivery (stream_of s u sent) s q t in
      let a = mapped _ (find (on u) (unexpired_all t n.holdings)) g (sym (find_change u f (unexpired_all t n.holdings)) ∙ e) in
      let b = own_held a.0 a.1 in
      let d = delivered_count (stream_of s u sent) s c.count q t c.last a.0.held there b.0.count b.1 in
      let k' : Counted (stream_of s u sent) s (Some q) (count_after (stream_of s u sent) c.last q (answer (stream_of s u sent) s q a.0.held) c.count) (f a.0.held) = record {
        sorted = sorted_after (answer (stream_of s u sent) s q a.0.held) (record { source = s; place = q; moment = t }) a.0.held b.0.sorted;
        count = d;
      } in
      subst (λ (z : Count). Counted (stream_of s u sent) s z.last z.count g.held) (sym (own_reply a.0 a.1)) (subst (λ (y : Holding). Counted (stream_of s u sent) s (Some q) (count_after (stream_of s u sent) c.last q (answer (stream_of s u sent) s q a.0.held) c.count) y.held) a.2 k')

  own_shows : (g : Holding) → find (on u) (unexpired_all (max n.moment m) n.holdings) ≡ Some g → 21 ≤ own_c.count → (h : Hold) × (hold_of s (after_delivery (stream_of s u sent) s q (max n.moment m) g.held) ≡ Some h) × (h.place ≡ q) × ((is_live (at (stream_of s u sent) q)) ≡ true)
  own_shows g e big =
      let b = own_held g e in
      let r = ap (λ (z : Count). z.count) (own_reply g e) in
      catches_up (stream_of s u sent) s c.count q (max n.moment m) c.last g.held ord there b.0.count b.1 (omega (arith, big, r))

-- ---- a packet more is sent

grown : (sent : List Sent) (x : Sent) (s : List ℕ) (u : ℕ) (c : Count) (n : Node) → NodeOk sent n → CountNode sent s u c n → CountNode (sent ++ x ∷ []) s u c n
grown sent x s u c n nok k g e =
    let b = k g e in
    let f = found (λ (y : Holding). AllByRecursion (HoldOk y.universe n.delivered) y.held) (on u) n.holdings g nok.below e in
    let all : AllByRecursion (HoldOk u n.delivered) g.held = subst (λ v. AllByRecursion (HoldOk v n.delivered) g.held) (eqb-true _ _ f.1) f.0 in
    let ins = holds_within sent x u n.delivered nok.within g.held all in
    record {
      sorted = b.sorted;
      count = elim b.count [
        | inl none ↦ inl none
        | inr y ↦ inr (
          y.0,
          y.1,
          record {
            within = longer sent x s u y.0 y.2.within;
            reach = y.2.reach;
            alike = λ j lt.
                let p1 = at_kept sent x s u (y.0 - j) (let l = y.2.within in omega (arith, l)) in
                let p2 = at_kept sent x s u y.0 y.2.within in
                ap (λ (z : Sent). z.life) p1 ∙ y.2.alike j lt ∙ sym (ap (λ (z : Sent). z.life) p2);
            behind = λ h eh.
                let fh = found (λ (z : Hold). z.place < length (stream_of z.source u sent)) (λ (z : Hold). same s z.source) g.held h ins eh in
                let hp : h.place < length (stream_of s u sent) = subst (λ (z : List ℕ). h.place < length (stream_of z u sent)) (sym (same_source s h.source fh.1)) fh.0 in
                elim (y.2.behind h eh) [
                  | inl here ↦ inl here
                  | inr late' ↦ inr (λ j lt.
                      let n1 = number_kept sent x s u h.place hp in
                      let n2 = number_kept sent x s u (y.0 - j) (let l = y.2.within in omega (arith, l)) in
                      ap (λ z. late z (number_at (stream_of s u (sent ++ x ∷ [])) (y.0 - j))) n1 ∙ ap (late (number_at (stream_of s u sent) h.place)) n2 ∙ late' j lt)
                ];
          },
        )
      ];
    }

-- ---- a whole world

pub own_stream : (x : Sent) (y : Data) → x.packet ≡ DataPacket y → is_of x.source y.universe x ≡ true
own_stream x y e = and_from _ _ (same-itself x.source) (ap (is_on y.universe) e ∙ eq-eqb y.universe y.universe refl)

abbrev world_of : World → Step → World
world_of w s = left_by w s

abbrev pub CountWorld : World → ℕ → List ℕ → ℕ → Count → Type 0
CountWorld w i s u c = (n : Node) → slice_get w.nodes i ≡ Some n → CountNode w.sent s u c n

module _ (w : World) (ok : WorldOk w) (i : ℕ) (s : List ℕ) (u : ℕ) (c : Count) (k : CountWorld w i s u c) where
  put_node : (n : Node) (d : Count) → CountNode w.sent s u d n → CountWorld (with_node w i n) i s u d
  put_node n d h g e = subst (CountNode w.sent s u d) (set_same w.nodes i n g e) h

  put_other : (j : ℕ) (n : Node) → (j ≡ i → ⊥) → CountWorld (with_node w j n) i s u c
  put_other j n ne g e = k g (sym (set_other w.nodes i j n ne) ∙ e)

  at_world : (j m : ℕ) (n : Node) → slice_get w.nodes j ≡ Some n → CountWorld (with_node w j (node_at m n)) i s u c
  at_world j m n en =
      elim (cases_eq j i) [
        | inl e ↦ subst (λ z. CountWorld (with_node w z (node_at m n)) i s u c) (sym e) (put_node (node_at m n) c (at_count w.sent s u c m n (k n (ap (slice_get w.nodes) (sym e) ∙ en))))
        | inr ne ↦ put_other j (node_at m n) ne
      ]

  come_count : (m : ℕ) (n : Node) (r : List ℕ) (v q : ℕ) → slice_get w.nodes i ≡ Some n → q < length (stream_of r v w.sent) → (f : Option WorldFault) → refusal (stream_of r v w.sent) (newest r v n.delivered) q ≡ f → CountWorld (left_by w (come w i m n r v q f)) i s u (count_come w s u m n r v q f c)
  come_count m n r v q en there (Some f) er = k
  come_count m n r v q en there None er =
      let nok = all_get (NodeOk w.sent) w.nodes i n ok.nodes en in
      let new = node_after w.sent r v q m n in
      elim (same s r && (v == u)) as (λ b. (same s r && (v == u)) ≡ b → CountWorld (with_node w i new) i s u (if b then count_reply (stream_of s u w.sent) q (node_reply w.sent r v q m n) c else c)) [
        | true ↦ λ e.
            let es = same_source s r (and_parts _ _ e).0 in
            let eu = eqb-true v u (and_parts _ _ e).1 in
            let go : (r : List ℕ) (v : ℕ) → s ≡ r → v ≡ u → q < length (stream_of r v w.sent) → refusal (stream_of r v w.sent) (newest r v n.delivered) q ≡ None → CountNode w.sent s u (count_reply (stream_of s u w.sent) q (node_reply w.sent r v q m n) c) (node_after w.sent r v q m n) =
            λ r v er' ev. subst (λ r'. q < length (stream_of r' v w.sent) → refusal (stream_of r' v w.sent) (newest r' v n.delivered) q ≡ None → CountNode w.sent s u (count_reply (stream_of s u w.sent) q (node_reply w.sent r' v q m n) c) (node_after w.sent r' v q m n)) er'
            (subst (λ v'. q < length (stream_of s v' w.sent) → refusal (stream_of s v' w.sent) (newest s v' n.delivered) q ≡ None → CountNode w.sent s u (count_reply (stream_of s u w.sent) q (node_reply w.sent s v' q m n) c) (node_after w.sent s v' q m n)) (sym ev)
            (λ th my. own_count w.sent s u c q m n (ok.streams s u) nok th my (k n en))) in
            put_node new _ (go r v es eu there er)
        | false ↦ λ e. put_node new c (other_count w.sent s u c r v q m n e (k n en))
      ] refl

  arrive_count : (m d : ℕ) (n : Node) (x : Sent) → slice_get w.nodes i ≡ Some n → slice_get w.sent d ≡ Some x → (p : Packet) → x.packet ≡ p → CountWorld (left_by w (arrive w d i m n x.source p)) i s u (count_arrive w s u d m n x.source p c)
  arrive_count m d n x en ex (DataPacket y) ep = come_count m n x.source y.universe (place_of x.source y.universe d w.sent) en (place_within x.source y.universe w.sent d x ex (own_stream x y ep)) _ refl
  arrive_count m d n x en ex (PagePacket p) ep = at_world i m n en
  arrive_count m d n x en ex SyncPacket ep = at_world i m n en

  deliver_count : (m d : ℕ) (on' : Option Node) (ox : Option Sent) → slice_get w.nodes i ≡ on' → slice_get w.sent d ≡ ox → CountWorld (left_by w (deliver_step w d i m on' ox)) i s u (count_deliver w s u d m on' ox c)
  deliver_count m d None ox en ex = k
  deliver_count m d (Some n) None en ex = k
  deliver_count m d (Some n) (Some x) en ex = arrive_count m d n x en ex x.packet refl

  come_other : (j m : ℕ) (n : Node) (r : List ℕ) (v q : ℕ) (f : Option WorldFault) → (j ≡ i → ⊥) → CountWorld (left_by w (come w j m n r v q f)) i s u c
  come_other j m n r v q (Some f) ne = k
  come_other j m n r v q None ne = put_other j _ ne

  arrive_other : (j m d : ℕ) (n : Node) (r : List ℕ) (p : Packet) → (j ≡ i → ⊥) → CountWorld (left_by w (arrive w d j m n r p)) i s u c
  arrive_other j m d n r (DataPacket y) ne = come_other j m n r y.universe _ _ ne
  arrive_other j m d n r (PagePacket p) ne = put_other j _ ne
  arrive_other j m d n r SyncPacket ne = put_other j _ ne

  deliver_other : (j m d : ℕ) (on' : Option Node) (ox : Option Sent) → (j ≡ i → ⊥) → CountWorld (left_by w (deliver_step w d j m on' ox)) i s u c
  deliver_other j m d None ox ne = k
  deliver_other j m d (Some n) None ne = k
  deliver_other j m d (Some n) (Some x) ne = arrive_other j m d n x.source x.packet ne

  look_count : (j port m : ℕ) (on' : Option Node) → slice_get w.nodes j ≡ on' → CountWorld (left_by w (look_step w j port m on')) i s u c
  look_count j port m None en = k
  look_count j port m (Some n) en = at_world j m n en

  heard_count : (j m : ℕ) (n : Node) → slice_get w.nodes j ≡ Some n → (r : Reading) → CountWorld (left_by w (hear_noise w j m n r)) i s u c
  heard_count j m n en (Ok p) = k
  heard_count j m n en (Err f) = at_world j m n en

  noise_count : (j m : ℕ) (r : Reading) (on' : Option Node) → slice_get w.nodes j ≡ on' → CountWorld (left_by w (noise_step w j m r on')) i s u c
  noise_count j m r None en = k
  noise_count j m r (Some n) en = heard_count j m n en r

  order_count : (j m : ℕ) (command : Command) (o : Option Console) → CountWorld (left_by w (order_step w j m command o)) i s u c
  order_count j m command None = k
  order_count j m command (Some d) = k

  poll_by_count : (j m : ℕ) (d : Console) (o : Option line.Datagram) → CountWorld (poll_by w j m d o).world i s u c
  poll_by_count j m d None = k
  poll_by_count j m d (Some y) = λ n en. grown w.sent (sent_by d y) s u c n (all_get (NodeOk w.sent) w.nodes i n ok.nodes en) (k n en)

  poll_count : (j m : ℕ) (o : Option Console) → CountWorld (left_by w (poll_step w j m o)) i s u c
  poll_count j m None = k
  poll_count j m (Some d) = poll_by_count j m d _

  console_count : (j first : ℕ) (o : Option Console) → CountWorld (left_by w (restart_console w j first o)) i s u c
  console_count j first None = k
  console_count j first (Some d) = k

-- ---- a node that starts anew

empty_held : (us : List ℕ) (u : ℕ) (g : Holding) → find (on u) (map nothing_held us) ≡ Some g → g.held ≡ []
empty_held us u g e =
    let a = mapped nothing_held (find (λ v. v == u) us) g (sym (find-map nothing_held (λ v. v == u) (on u) (λ x. refl) us) ∙ e) in
    sym (ap (λ (y : Holding). y.held) a.2)

started : (sent : List Sent) (s : List ℕ) (u : ℕ) (n : Node) → ((g : Holding) → find (on u) n.holdings ≡ Some g → g.held ≡ []) → CountNode sent s u no_count n
started sent s u n none g e =
    subst (λ (hs : List Hold). Counted (stream_of s u sent) s None 0 hs) (sym (none g e)) (record { sorted = tt; count = inl refl })

module _ (w : World) (ok : WorldOk w) (i : ℕ) (s : List ℕ) (u : ℕ) (c : Count) (k : CountWorld w i s u c) where
  anew_here : (on' : Option Node) → slice_get w.nodes i ≡ on' → CountWorld (left_by w (restart_node w i on')) i s u no_count
  anew_here None en = λ n e. absurd (none_some n (sym en ∙ e))
  anew_here (Some n) en = put_node w ok i s u c k (node_of n.ports) no_count (started w.sent s u (node_of n.ports) (empty_held (universes n.ports) u))

  anew_other : (j : ℕ) (on' : Option Node) → (j ≡ i → ⊥) → CountWorld (left_by w (restart_node w j on')) i s u c
  anew_other j None ne = k
  anew_other j (Some n) ne = put_other w ok i s u c k j (node_of n.ports) ne

  pub count_ok : (e : Event) → CountWorld (left_by w (step w e)) i s u (count_step w i s u e c)
  unfolding step count_step
  count_ok (Order j m command) = order_count w ok i s u c k j m command (slice_get w.consoles j)
  count_ok (Poll j m) = poll_count w ok i s u c k j m (slice_get w.consoles j)
  count_ok (Deliver d j m) =
      elim (j == i) as (λ b. (j == i) ≡ b → CountWorld (left_by w (deliver_step w d j m (slice_get w.nodes j) (slice_get w.sent d))) i s u (if b then count_deliver w s u d m (slice_get w.nodes i) (slice_get w.sent d) c else c)) [
        | true ↦ λ e.
            subst (λ z. CountWorld (left_by w (deliver_step w d z m (slice_get w.nodes z) (slice_get w.sent d))) i s u (count_deliver w s u d m (slice_get w.nodes i) (slice_get w.sent d) c)) (sym (eqb-true j i e))
            (deliver_count w ok i s u c k m d (slice_get w.nodes i) (slice_get w.sent d) refl refl)
        | false ↦ λ e. deliver_other w ok i s u c k j m d (slice_get w.nodes j) (slice_get w.sent d) (eqb-false j i e)
      ] refl
  count_ok (Look j port m) = look_count w ok i s u c k j port m (slice_get w.nodes j) refl
  count_ok (RestartConsole j first) = console_count w ok i s u c k j first (slice_get w.consoles j)
  count_ok (RestartNode j) =
      elim (j == i) as (λ b. (j == i) ≡ b → CountWorld (left_by w (restart_node w j (slice_get w.nodes j))) i s u (if b then no_count else c)) [
        | true ↦ λ e. subst (λ z. CountWorld (left_by w (restart_node w z (slice_get w.nodes z))) i s u no_count) (sym (eqb-true j i e)) (anew_here (slice_get w.nodes i) refl)
        | false ↦ λ e. anew_other j (slice_get w.nodes j) (eqb-false j i e)
      ] refl
  count_ok (Noise j m octets) = noise_count w ok i s u c k j m (reading_packet octets.items) (slice_get w.nodes j) refl

pub counts_ok : (w : World) (i : ℕ) (s : List ℕ) (u : ℕ) (c : Count) (es : List Event) → WorldOk w → CountWorld w i s u c → CountWorld (after w es) i s u (count_run w i s u es c)
counts_ok w i s u c [] ok k = k
counts_ok w i s u c (e ∷ es) ok k =
    counts_ok (left_by w (step w e)) i s u (count_step w i s u e c) es (step_ok w ok e) (count_ok w ok i s u c k e)

pub start_count : (shows : List (ShowContent × ℕ)) (setups : List (List Port)) (i : ℕ) (s : List ℕ) (u : ℕ) → CountWorld (new_world shows setups) i s u no_count
start_count shows setups i s u n e =
    let a = mapped node_of (slice_get setups i) n (sym (slice_get-map node_of setups i) ∙ e) in
    subst (CountNode [] s u no_count) a.2 (started [] s u (node_of a.0) (empty_held (universes a.0) u))

-- ---- and what twenty-one bring

-- an accepted delivery was admissible
pub admitted : (w : World) (i m : ℕ) (n : Node) (s : List ℕ) (u q : ℕ) (f : Option WorldFault) (o : Outcome) → come w i m n s u q f ≡ Ok o → (f ≡ None) × (o.world ≡ with_node w i (node_after w.sent s u q m n))
admitted w i m n s u q (Some f) o e = cc
admitted w i m n s u q None o e = (refl, sym (ap (world_of w) e))

pub at_twenty_one : (w : World) → WorldOk w → (i d m : ℕ) (c : Count) (n : Node) (g : Holding) (x : Sent) (y : Data) (o : Outcome) → CountWorld w i x.source y.universe c → slice_get w.nodes i ≡ Some n → slice_get w.sent d ≡ Some x → x.packet ≡ DataPacket y → find (on y.universe) n.holdings ≡ Some g → step w (Deliver d i m) ≡ Ok o → 21 ≤ (count_step w i x.source y.universe (Deliver d i m) c).count → Shows o.world i x.source y.universe (place_of x.source y.universe d w.sent)
unfolding step count_step
at_twenty_one w ok i d m c n g x y o k en ex ey eg eo big =
    let s = x.source in
    let u = y.universe in
    let q = place_of s u d w.sent in
    let t = max n.moment m in
    let nok = all_get (NodeOk w.sent) w.nodes i n ok.nodes en in
    let own = own_stream x y ey in
    let there = place_within s u w.sent d x ex own in
    let eg' : find (on u) (unexpired_all t n.holdings) ≡ Some (record { universe = g.universe; held = unexpired t g.held }) = find_kept u t n.holdings ∙ ap (option_map (λ (z : Holding). record { universe = z.universe; held = unexpired t z.held })) eg in
    let new = node_after w.sent s u q m n in
    let f = refusal (stream_of s u w.sent) (newest s u n.delivered) q in
    let e0 : deliver_step w d i m (slice_get w.nodes i) (slice_get w.sent d) ≡ come w i m n s u q f =
    ap (λ z. deliver_step w d i m z (slice_get w.sent d)) en ∙ ap (deliver_step w d i m (Some n)) ex ∙ ap (arrive w d i m n s) ey in
    let may = admitted w i m n s u q f o (sym e0 ∙ eo) in
    let c1 : count_come w s u m n s u q f c ≡ own_c w.sent s u c q m n (ok.streams s u) nok there may.0 (k n en) =
    ap (λ r. count_come w s u m n s u q r c) may.0 ∙ ap (λ b. if b then count_reply (stream_of s u w.sent) q (node_reply w.sent s u q m n) c else c) (and_from _ _ (same-itself s) (eq-eqb u u refl)) in
    let c2 : (if i == i then count_deliver w s u d m (slice_get w.nodes i) (slice_get w.sent d) c else c) ≡ own_c w.sent s u c q m n (ok.streams s u) nok there may.0 (k n en) =
    ap (λ b. if b then count_deliver w s u d m (slice_get w.nodes i) (slice_get w.sent d) c else c) (eq-eqb i i refl)
    ∙ ap (λ z. count_deliver w s u d m z (slice_get w.sent d) c) en ∙ ap (λ z. count_deliver w s u d m (Some n) z c) ex ∙ ap (λ z. count_arrive w s u d m n s z c) ey ∙ c1 in
    let r = own_shows w.sent s u c q m n (ok.streams s u) nok there may.0 (k n en) (record { universe = g.universe; held = unexpired t g.held }) eg' (let c3 = ap (λ (z : Count). z.count) c2 in omega (arith, big, c3)) in
    subst (λ (v : World). Shows v i s u q) (sym may.1) (record {
      node = new;
      is_node = set_there w.nodes i n new en;
      holding = record { universe = g.universe; held = after_delivery (stream_of s u w.sent) s q t (unexpired t g.held) };
      is_holding = find_change u (after_delivery (stream_of s u w.sent) s q t) (unexpired_all t n.holdings) ∙ ap (option_map (λ (z : Holding). record { universe = z.universe; held = after_delivery (stream_of s u w.sent) s q t z.held })) eg';
      hold = r.0;
      is_hold = r.1;
      place = r.2;
      live = r.3;
    })

pub shown_at_twenty_one : (shows : List (ShowContent × ℕ)) (setups : List (List Port)) (es : List Event) (i d m : ℕ) (n : Node) (g : Holding) (x : Sent) (y : Data) (o : Outcome) → Apart (map new_console shows) → let w = after (new_world shows setups) es in slice_get w.nodes i ≡ Some n → slice_get w.sent d ≡ Some x → x.packet ≡ DataPacket y → find (on y.universe) n.holdings ≡ Some g → step w (Deliver d i m) ≡ Ok o → 21 ≤ (count_step w i x.source y.universe (Deliver d i m) (count_run (new_world shows setups) i x.source y.universe es no_count)).count → Shows o.world i x.source y.universe (place_of x.source y.universe d w.sent)
shown_at_twenty_one shows setups es i d m n g x y o apart en ex ey eg eo big =
    let w = new_world shows setups in
    let ok = start_ok shows setups apart in
    at_twenty_one (after w es) (after_ok w ok es) i d m (count_run w i x.source y.universe es no_count) n g x y o (counts_ok w i x.source y.universe no_count es ok (start_count shows setups i x.source y.universe)) en ex ey eg eo big

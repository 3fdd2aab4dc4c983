-- A datagram at a node that a world keeps.
use Rattle.std.proofs.Common.{◌≡◌, ℕ, ◌+◌, ◌≤◌, max, Bool, true, false, cond, List, [], ◌∷◌, map, Option, Some, None, Ok, refl, sym, ap, subst, ◌∙◌, inl, inr, arith}
use Rattle.std.specs.Prelude.{option_map, slice_get, nat_lt, nat_le, ◌==◌, ◌&&◌, if◌then◌else◌}
use Rattle.std.specs.List.{AllByRecursion}
use Rattle.std.proofs.lemmas.Bool.{and_parts, and_from, eqb-true, eq-eqb, leb-true, le-leb, cases_lt}
use Rattle.sacn_packets.specs.declared.framing.packet.Packet.{Packet}
use Rattle.sacn_packets.specs.declared.framing.packet.Packet.TheVariants.{DataPacket, PagePacket, SyncPacket}
use Rattle.sacn_node.specs.Cores.{Core, core_at}
use Rattle.sacn_node.specs.Readings.{reply_to, after_reading}
use Rattle.sacn_packets.specs.Universe.{Rising}
use Rattle.sacn_world.specs.declared.limits.TheConstants.{TOO_FAR_BEHIND}
use Rattle.sacn_world.specs.declared.fault.WorldFault.TheVariants.{TooFarBehind, OldLife}
use Rattle.sacn_world.specs.Streams.{Sent, is_of, is_on, stream_of, life_at, place_of}
use Rattle.sacn_world.specs.Holdings.{Hold, Delivery, RisingByCid, is_renewed, newest, add_delivery, refusal}
use Rattle.sacn_world.specs.Nodes.{Holding, Node, unexpired_all, change, node_after, node_at, seen_core}
use Rattle.sacn_world.specs.Worlds.{WorldOk, World, IsNumbered}
use Rattle.sacn_world.specs.Arrivals.{refused_for, replied, moved}
use Rattle.sacn_world.specs.Watches.{Mark, Watch, is_mark_of, mark_of, moves, mark_after, marked, mark_refusal, holding_from, delivery_of, by_places, node_by_places, taken_by, with_core, MarkOk, WatchOk}
use Rattle.sacn_world.specs.Wire.{stream_in, came_by, refusal_in}
use Rattle.sacn_world.proofs.Sources.{same_source, same-itself}
use Rattle.sacn_world.proofs.Lists.{found}
use Rattle.sacn_world.proofs.Maps.{sorted_filter}
use Rattle.sacn_world.proofs.NodeSteps.{at_seen}
use Rattle.sacn_world.proofs.Sending.{place_is}
use Rattle.sacn_world.proofs.Counts.{sorted_after}
use Rattle.sacn_world.proofs.Replies.{agrees, Agrees}
use Rattle.sacn_world.proofs.Fits.{Fits, fits_itself, got_back, fits_kept, fits_change}

-- ---- marks are the newest deliveries

newest_is : (s : List ℕ) (u : ℕ) (ms : List Mark) → newest s u (map delivery_of ms) ≡ option_map (λ (m : Mark). m.newest) (mark_of s u ms)
newest_is s u [] = refl
newest_is s u (m ∷ ms) =
    elim (is_mark_of s u m) as (λ t. (if t then Some m.newest else newest s u (map delivery_of ms)) ≡ option_map (λ (x : Mark). x.newest) (cond t (Some m) (mark_of s u ms))) [
      | true ↦ refl
      | false ↦ newest_is s u ms
    ]

noted_is : (b : Bool) (d : Mark) (ms : List Mark) → map delivery_of (marked b d ms) ≡ add_delivery (delivery_of d) (map delivery_of ms)
noted_is b d [] = refl
noted_is b d (m ∷ ms) =
    elim (is_mark_of d.source d.universe m) as (λ t. map delivery_of (if t then mark_after b d m ∷ ms else m ∷ marked b d ms) ≡ (if t then record { source = m.source; universe = m.universe; place = max d.newest m.newest } ∷ map delivery_of ms else delivery_of m ∷ add_delivery (delivery_of d) (map delivery_of ms))) [
      | true ↦ refl
      | false ↦ ap (λ (xs : List Delivery). delivery_of m ∷ xs) (noted_is b d ms)
    ]

max_up : (a b : ℕ) → b ≤ a → max a b ≡ a
max_up a b le = omega arith

max_down : (a b : ℕ) → (nat_le b a ≡ false) → max a b ≡ b
max_down a b e = elim (cases_lt a b) [
  | inl lt ↦ omega arith
  | inr ge ↦ absurd (let t = le-leb b a ge in cc)
]

remarked_ok : (sent : List Sent) (b : Bool) (d m : Mark) → MarkOk sent d → MarkOk sent m → is_mark_of d.source d.universe m ≡ true → MarkOk sent (mark_after b d m)
remarked_ok sent b d m dok mok e =
    let es : d.source ≡ m.source = same_source _ _ (and_parts _ _ e).0 in
    let eu : d.universe ≡ m.universe = sym (eqb-true _ _ (and_parts _ _ e).1) in
    let here : d.life ≡ life_at (stream_of m.source m.universe sent) d.newest =
    dok ∙ ap (λ (z : List ℕ). life_at (stream_of z d.universe sent) d.newest) es ∙ ap (λ v. life_at (stream_of m.source v sent) d.newest) eu in
    elim (nat_le m.newest d.newest) as (λ t. nat_le m.newest d.newest ≡ t → (if t then d.life else m.life) ≡ life_at (stream_of m.source m.universe sent) (max d.newest m.newest)) [
      | true ↦ λ le. here ∙ ap (life_at (stream_of m.source m.universe sent)) (sym (max_up d.newest m.newest (leb-true _ _ le)))
      | false ↦ λ gt. mok ∙ ap (life_at (stream_of m.source m.universe sent)) (sym (max_down d.newest m.newest gt))
    ] refl

marked_ok : (sent : List Sent) (b : Bool) (d : Mark) (ms : List Mark) → MarkOk sent d → AllByRecursion (MarkOk sent) ms → AllByRecursion (MarkOk sent) (marked b d ms)
marked_ok sent b d [] dok all = (dok, tt)
marked_ok sent b d (m ∷ ms) dok all =
    elim (is_mark_of d.source d.universe m) as (λ t. is_mark_of d.source d.universe m ≡ t → AllByRecursion (MarkOk sent) (if t then mark_after b d m ∷ ms else m ∷ marked b d ms)) [
      | true ↦ λ e. (remarked_ok sent b d m dok all.0 e, all.1)
      | false ↦ λ e. (all.0, marked_ok sent b d ms dok all.1)
    ] refl

refusal_with : (sent : List Sent) (s : List ℕ) (u life q : ℕ) → life ≡ life_at (stream_of s u sent) q → (o : Option Mark) → ((m : Mark) → o ≡ Some m → MarkOk sent m × (is_mark_of s u m ≡ true)) → mark_refusal life q o ≡ refusal (stream_of s u sent) (option_map (λ (m : Mark). m.newest) o) q
refusal_with sent s u life q e None h = refl
refusal_with sent s u life q e (Some m) h =
    let f = h m refl in
    let es : s ≡ m.source = same_source _ _ (and_parts _ _ f.1).0 in
    let eu : u ≡ m.universe = sym (eqb-true _ _ (and_parts _ _ f.1).1) in
    let el : m.life ≡ life_at (stream_of s u sent) m.newest =
    f.0 ∙ sym (ap (λ (z : List ℕ). life_at (stream_of z u sent) m.newest) es ∙ ap (λ v. life_at (stream_of m.source v sent) m.newest) eu) in
    ap (λ a. if (a == m.life) && nat_le (q + TOO_FAR_BEHIND) m.newest then Some TooFarBehind else if nat_lt a m.life then Some OldLife else None) e
    ∙ ap (λ b. if (life_at (stream_of s u sent) q == b) && nat_le (q + TOO_FAR_BEHIND) m.newest then Some TooFarBehind else if nat_lt (life_at (stream_of s u sent) q) b then Some OldLife else None) el

refusal_is : (sent : List Sent) (s : List ℕ) (u life q : ℕ) (ms : List Mark) → life ≡ life_at (stream_of s u sent) q → AllByRecursion (MarkOk sent) ms → mark_refusal life q (mark_of s u ms) ≡ refusal (stream_of s u sent) (newest s u (map delivery_of ms)) q
refusal_is sent s u life q ms e all =
    refusal_with sent s u life q e (mark_of s u ms) (λ m is. found (MarkOk sent) (is_mark_of s u) ms m all is)
    ∙ ap (λ o. refusal (stream_of s u sent) o q) (sym (newest_is s u ms))

-- ---- universes and orders stay

universes_kept : (t : ℕ) (gs : List Holding) → map (λ (g : Holding). g.universe) (unexpired_all t gs) ≡ map (λ (g : Holding). g.universe) gs
universes_kept t [] = refl
universes_kept t (g ∷ gs) = ap (λ us. g.universe ∷ us) (universes_kept t gs)

universes_changed : (u : ℕ) (f : List Hold → List Hold) (gs : List Holding) → map (λ (g : Holding). g.universe) (change u f gs) ≡ map (λ (g : Holding). g.universe) gs
universes_changed u f [] = refl
universes_changed u f (g ∷ gs) =
    elim (g.universe == u) as (λ b. map (λ (x : Holding). x.universe) (if b then record { universe = g.universe; held = f g.held } ∷ gs else g ∷ change u f gs) ≡ g.universe ∷ map (λ (x : Holding). x.universe) gs) [
      | true ↦ refl
      | false ↦ ap (λ us. g.universe ∷ us) (universes_changed u f gs)
    ]

sorted_kept : (t : ℕ) (gs : List Holding) → AllByRecursion (λ (g : Holding). RisingByCid g.held) gs → AllByRecursion (λ (g : Holding). RisingByCid g.held) (unexpired_all t gs)
sorted_kept t [] all = tt
sorted_kept t (g ∷ gs) all = (sorted_filter (is_renewed t) g.held all.0, sorted_kept t gs all.1)

sorted_changed : (u : ℕ) (f : List Hold → List Hold) → ((hs : List Hold) → RisingByCid hs → RisingByCid (f hs)) → (gs : List Holding) → AllByRecursion (λ (g : Holding). RisingByCid g.held) gs → AllByRecursion (λ (g : Holding). RisingByCid g.held) (change u f gs)
sorted_changed u f step [] all = tt
sorted_changed u f step (g ∷ gs) all =
    elim (g.universe == u) as (λ b. AllByRecursion (λ (x : Holding). RisingByCid x.held) (if b then record { universe = g.universe; held = f g.held } ∷ gs else g ∷ change u f gs)) [
      | true ↦ (step g.held all.0, all.1)
      | false ↦ (all.0, sorted_changed u f step gs all.1)
    ]

-- ---- a node that a world keeps is again as its places say

-- what its core then keeps is what the places of `n` look like, and the marks fit these
again : (sent : List Sent) (w : Watch) (core : Core) (ms : List Mark) (n : Node) → core ≡ seen_core sent n → Fits ms n.holdings → n.ports ≡ w.node.ports → n.delivered ≡ map delivery_of ms → by_places ms (record { ports = w.node.ports; core = core }) ≡ n
unfolding by_places seen_core
again sent w core ms n e fit ports ds =
    λ i. record {
      ports = sym ports i;
      moment = ap (λ (c : Core). c.moment) e i;
      holdings = (ap (λ (c : Core). map (holding_from ms) c.tables) e ∙ got_back sent ms n.holdings fit) i;
      delivered = sym ds i;
    }

again_ok : (sent : List Sent) (w : Watch) (core : Core) (ms : List Mark) (n : Node) → core ≡ seen_core sent n → Fits ms n.holdings → n.ports ≡ w.node.ports → n.delivered ≡ map delivery_of ms → AllByRecursion (MarkOk sent) ms → Rising (map (λ (g : Holding). g.universe) n.holdings) → AllByRecursion (λ (g : Holding). RisingByCid g.held) n.holdings → WatchOk sent (record { node = record { ports = w.node.ports; core = core }; marks = ms })
again_ok sent w core ms n e fit ports ds marks rise sorted =
    let is = again sent w core ms n e fit ports ds in
    record {
      core = e ∙ ap (seen_core sent) (sym is);
      marks = marks;
      rise = subst (λ (x : Node). Rising (map (λ (g : Holding). g.universe) x.holdings)) (sym is) rise;
      sorted = subst (λ (x : Node). AllByRecursion (λ (g : Holding). RisingByCid g.held) x.holdings) (sym is) sorted;
    }

pub record Moved (sent : List Sent) (w v : Watch) (n : Node) : Type 0 where
  pub places : node_by_places v ≡ n
  pub ok : WatchOk sent v

fits_now : (w : Watch) → Fits w.marks (node_by_places w).holdings
unfolding by_places
fits_now w = fits_itself w.marks w.node.core.tables

-- expiry alone
pub at_moved : (sent : List Sent) (m : ℕ) (w : Watch) → WatchOk sent w → Moved sent w (with_core (core_at m w.node.core) w) (node_at m (node_by_places w))
unfolding by_places
at_moved sent m w ok =
    let n = node_by_places w in
    let e : core_at m w.node.core ≡ seen_core sent (node_at m n) = ap (core_at m) ok.core ∙ at_seen sent m n in
    let fit = fits_kept w.marks (max n.moment m) n.holdings (fits_now w) in
    record {
      places = again sent w (core_at m w.node.core) w.marks (node_at m n) e fit refl refl;
      ok = again_ok sent w (core_at m w.node.core) w.marks (node_at m n) e fit refl refl ok.marks (subst Rising (sym (universes_kept (max n.moment m) n.holdings)) ok.rise) (sorted_kept (max n.moment m) n.holdings ok.sorted);
    }

-- ---- a datagram comes

module _ (w : World) (ok : WorldOk w) (k i m : ℕ) (y : Watch) (x : Sent) (there : slice_get w.nodes i ≡ Some (node_by_places y)) (ex : slice_get w.sent k ≡ Some x) (yok : WatchOk w.sent y) where
  abbrev n : Node
  n = node_by_places y

  life_is : (u : ℕ) → is_of x.source u x ≡ true → x.life ≡ life_at (stream_of x.source u w.sent) (place_of x.source u k w.sent)
  life_is u own = sym (ap (λ (z : Sent). z.life) (place_is x.source u w.sent k x ex own))

  own_stream : (p : Packet) (u : ℕ) → x.packet ≡ p → is_on u p ≡ true → is_of x.source u x ≡ true
  own_stream p u ep on = and_from _ _ (same-itself x.source) (ap (is_on u) ep ∙ on)

  pub refused : (p : Packet) → x.packet ≡ p → refusal_in x.source x.life y.marks (stream_in w.sent k x.source p) ≡ refused_for w.sent k n x.source p
  unfolding by_places
  refused (DataPacket d) ep =
      refusal_is w.sent x.source d.universe x.life (place_of x.source d.universe k w.sent) y.marks (life_is d.universe (own_stream (DataPacket d) d.universe ep (eq-eqb d.universe d.universe refl))) yok.marks
  refused (PagePacket p) ep = refl
  refused SyncPacket ep = refl

  module _ (p : Packet) (ep : x.packet ≡ p) (may : refused_for w.sent k n x.source p ≡ None) where
    agreed : Agrees w.sent k m n x.source p
    agreed = agrees w ok k i m n x there ex p ep (subst (IsNumbered w.sent k x.source) ep (ok.numbered k x ex)) may

    pub reply_is : reply_to (Ok p) m y.node.core ≡ replied w.sent k m n x.source p
    reply_is = ap (reply_to (Ok p) m) yok.core ∙ agreed.reply

    core_is : after_reading (Ok p) m y.node.core ≡ seen_core w.sent (moved w.sent k m n x.source p)
    core_is = ap (after_reading (Ok p) m) yok.core ∙ agreed.core

  ports_same : n.ports ≡ y.node.ports
  unfolding by_places
  ports_same = refl

  noted_now : (d : Mark) (ms : List Mark) (b : Bool) → marked b d y.marks ≡ ms → add_delivery (delivery_of d) n.delivered ≡ map delivery_of ms
  unfolding by_places
  noted_now d ms b e = sym (noted_is b d y.marks) ∙ ap (map delivery_of) e

  pub taken_moved : (p : Packet) → x.packet ≡ p → refused_for w.sent k n x.source p ≡ None → Moved w.sent y (taken_by (Ok p) m (came_by x.source x.life (stream_in w.sent k x.source p)) y) (moved w.sent k m n x.source p)
  taken_moved (DataPacket d) ep may =
      let s = x.source in
      let u = d.universe in
      let q = place_of s u k w.sent in
      let t = max n.moment m in
      let mark : Mark = record { source = s; universe = u; newest = q; life = x.life; held = q } in
      let core = after_reading (Ok (DataPacket d)) m y.node.core in
      let after = node_after w.sent s u q m n in
      let ms = marked (moves (reply_to (Ok (DataPacket d)) m y.node.core)) mark y.marks in
      let kept = fits_kept y.marks t n.holdings (fits_now y) in
      let rise = subst Rising (sym (universes_kept t n.holdings)) yok.rise in
      let sorted = sorted_kept t n.holdings yok.sorted in
      let fit0 = fits_change (stream_of s u w.sent) t mark y.marks (unexpired_all t n.holdings) rise sorted kept in
      let fit : Fits ms after.holdings = subst (λ r. Fits (marked (moves r) mark y.marks) after.holdings) (sym (reply_is (DataPacket d) ep may)) fit0 in
      let ds : after.delivered ≡ map delivery_of ms = noted_now mark ms (moves (reply_to (Ok (DataPacket d)) m y.node.core)) refl in
      let e : core ≡ seen_core w.sent after = core_is (DataPacket d) ep may in
      record {
        places = again w.sent y core ms after e fit ports_same ds;
        ok = again_ok w.sent y core ms after e fit ports_same ds (marked_ok w.sent (moves (reply_to (Ok (DataPacket d)) m y.node.core)) mark y.marks (life_is u (own_stream (DataPacket d) u ep (eq-eqb u u refl))) yok.marks) (subst Rising (sym (universes_changed u _ (unexpired_all t n.holdings))) rise) (sorted_changed u _ (λ hs so. sorted_after _ _ hs so) (unexpired_all t n.holdings) sorted);
      }
  taken_moved (PagePacket p) ep may = at_moved w.sent m y yok
  taken_moved SyncPacket ep may = at_moved w.sent m y yok

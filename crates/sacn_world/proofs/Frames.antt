-- The frames that a run answered: merges of what was sent, and equal where the holdings are.
use Rattle.std.proofs.Common.{get_or, ◌≡◌, ℕ, ◌+◌, ◌-◌, ◌<◌, ◌≤◌, max, List, map, take, drop, length, Option, Some, None, Ok, Err, refl, sym, ap, subst, ◌∙◌, arith, slice_get}
use Rattle.std.specs.Prelude.{find, ◌==◌, if◌then◌else◌}
use Rattle.std.specs.List.{AllByRecursion}
use Rattle.std.proofs.lemmas.Bool.{eqb-true, ne_eqb}
use Rattle.std.proofs.lemmas.Option.{same_Some}
use Rattle.std.proofs.lemmas.List.{take-append-drop}
use Rattle.std.proofs.lemmas.List.FromFn.{get_or-map-range_with_len, length-map-range_with_len}
use Rattle.sacn_sources.specs.Merge.{MergesTheSet}
use Rattle.sacn_node.specs.declared.setup.SlotRange.{SlotRange}
use Rattle.sacn_node.specs.Setup.{Port}
use Rattle.sacn_node.specs.Ports.{port_of, covers, octet_at, level_in, level_by, port_frame, frame_on}
use Rattle.sacn_world.specs.declared.answer.Answer.{Answer}
use Rattle.sacn_world.specs.declared.answer.Answer.TheVariants as answered
use Rattle.sacn_schedule.specs.declared.event.Event.{Event}
use Rattle.sacn_schedule.specs.declared.event.Event.TheVariants.{Look}
use Rattle.sacn_world.specs.Streams.{Sent, at, stream_of}
use Rattle.sacn_world.specs.Holdings.{Hold}
use Rattle.sacn_world.specs.Nodes.{Holding, Node, node_at, holding_of, unexpired_all, slots, slots_on, node_slots, frame_of, HoldOk}
use Rattle.sacn_world.specs.Members.{IsShown}
use Rattle.sacn_schedule.specs.Cids.{Desk}
use Rattle.sacn_world.specs.Worlds.{World, Step, step, after, look_step, answer_to_look, new_console, new_world, Apart, NodeOk, WorldOk}
use Rattle.sacn_world.specs.Runs.{Ran, ran}
use Rattle.sacn_world.specs.Laws.{reached}
use Rattle.sacn_world.specs.Origins.{IsMergeOfHeld, held_in, held_after_expiry, slot_by, IsMergedFrame, Looked}
use Rattle.sacn_world.specs.Looks.{LookOf, FramesAreMergesOfWhatWasSent, sent_at, held_at_look, AgreeOn, EqualHoldingsGiveEqualSlots}
use Rattle.sacn_world.proofs.All.{all_get}
use Rattle.sacn_world.proofs.NodeSteps.{all_kept}
use Rattle.sacn_world.proofs.Looks.{run_longer, found_passes, slots_same, in_all, in_contains}
use Rattle.sacn_world.proofs.Reaching.{reached_ok, each_answered, joined}
use Rattle.sacn_world.proofs.Origin.{held_within, merge_of_held}

-- ---- a look's answer

record LookedAt (w : World) (i port m : ℕ) (frame : List ℕ) : Type 0 where
  node : Node
  is_node : slice_get w.nodes i ≡ Some node
  port_there : Port
  is_port : port_of port node.ports ≡ Some port_there
  is_frame : port_frame (node_slots w.sent (node_at m node)) port_there.ranges ≡ frame

shown_frame : (slots : ℕ → List ℕ) (o : Option Port) (frame : List ℕ) → answer_to_look (frame_on slots o) ≡ answered.Shown frame → (p : Port) × (o ≡ Some p) × (port_frame slots p.ranges ≡ frame)
shown_frame slots None frame e = absurd (cc)
shown_frame slots (Some p) frame e = (p, refl, cc)

abbrev answer_in : World → Step → Answer
answer_in w (Ok o) = o.answer
answer_in w (Err f) = answered.Idle

look_by : (w : World) (i port m : ℕ) (frame : List ℕ) (on : Option Node) (v : World) → slice_get w.nodes i ≡ on → look_step w i port m on ≡ Ok (record { answer = answered.Shown frame; world = v }) → LookedAt w i port m frame
look_by w i port m frame None v en e = absurd (cc)
look_by w i port m frame (Some n) v en e =
    let a : answer_to_look (frame_of w.sent port (node_at m n)) ≡ answered.Shown frame = ap (answer_in w) e in
    let f = shown_frame (node_slots w.sent (node_at m n)) (port_of port n.ports) frame a in
    record { node = n; is_node = en; port_there = f.0; is_port = f.1; is_frame = f.2 }

look_is : (w : World) (i port m : ℕ) (frame : List ℕ) (v : World) → step w (Look i port m) ≡ Ok (record { answer = answered.Shown frame; world = v }) → LookedAt w i port m frame
unfolding step
look_is w i port m frame v e = look_by w i port m frame (slice_get w.nodes i) v refl e

-- ---- what is held after expiry

held_list : (sent : List Sent) (u : ℕ) (gs : List Holding) → ((g : Holding) → holding_of u gs ≡ Some g → AllByRecursion (λ (h : Hold). h.place < length (stream_of h.source u sent)) g.held) → AllByRecursion (λ (h : Hold). h.place < length (stream_of h.source u sent)) (held_in (holding_of u gs))
held_list sent u gs all = by (holding_of u gs) refl
  where
    by : (o : Option Holding) → holding_of u gs ≡ o → AllByRecursion (λ (h : Hold). h.place < length (stream_of h.source u sent)) (held_in o)
    by None e = tt
    by (Some g) e = all g e

after_expiry_within : (w : World) → WorldOk w → (i : ℕ) (n : Node) (u m : ℕ) → slice_get w.nodes i ≡ Some n → AllByRecursion (λ (h : Hold). h.place < length (stream_of h.source u w.sent)) (held_after_expiry u m n)
after_expiry_within w ok i n u m en =
    let nok = all_get (NodeOk w.sent) w.nodes i n ok.nodes en in
    held_list w.sent u (unexpired_all (max n.moment m) n.holdings) (held_within w ok i n u (unexpired_all (max n.moment m) n.holdings) en (all_kept (λ v. HoldOk v n.delivered) (max n.moment m) n.holdings nok.below))

slots_held : (sent : List Sent) (u : ℕ) (o : Option Holding) → ((g : Holding) → o ≡ Some g → g.universe ≡ u) → slots_on sent o ≡ slots u sent (held_in o)
slots_held sent u None is = refl
slots_held sent u (Some g) is = ap (λ v. slots v sent g.held) (is g refl)

slots_after_expiry : (sent : List Sent) (u m : ℕ) (n : Node) → node_slots sent (node_at m n) u ≡ slots u sent (held_after_expiry u m n)
slots_after_expiry sent u m n =
    let gs = unexpired_all (max n.moment m) n.holdings in
    slots_held sent u (holding_of u gs) (λ g e. eqb-true _ _ (found_passes (λ (y : Holding). y.universe == u) gs g e))

-- ---- octets of a frame

octet_start : (slots : ℕ → List ℕ) (rs : List SlotRange) → get_or (port_frame slots rs) 0 0 ≡ 0
unfolding port_frame
octet_start slots rs = get_or-map-range_with_len (octet_at slots rs) 0 513 0 0 0 (omega arith) (omega arith)

range_slot : (slots : ℕ → List ℕ) (a : ℕ) (o : Option SlotRange) → level_by slots a o ≡ slot_by slots o a
unfolding level_in
range_slot slots a None = refl
range_slot slots a (Some r) = refl

octet_slot : (slots : ℕ → List ℕ) (rs : List SlotRange) (a : ℕ) → 0 < a → a ≤ 512 → get_or (port_frame slots rs) a 0 ≡ slot_by slots (find (covers a) rs) a
unfolding port_frame
octet_slot slots rs a up le =
    get_or-map-range_with_len (octet_at slots rs) 0 513 a a 0 (omega arith) (omega arith)
    ∙ ap (λ b. if b then 0 else level_by slots a (find (covers a) rs)) (ne_eqb a 0 (λ e. absurd (omega (arith, up, e))))
    ∙ range_slot slots a (find (covers a) rs)

frame_octets : (slots : ℕ → List ℕ) (rs : List SlotRange) → length (port_frame slots rs) ≡ 513
unfolding port_frame
frame_octets slots rs = length-map-range_with_len (octet_at slots rs) 0 513

-- ---- frames are merges

merges_there : (shows : List Desk) (setups : List (List Port)) (events : List Event) → Apart (map new_console shows) → (i : ℕ) (n : Node) → slice_get (reached shows setups events).nodes i ≡ Some n → (m u : ℕ) → IsMergeOfHeld shows (reached shows setups events).sent u (held_after_expiry u m n) (node_slots (reached shows setups events).sent (node_at m n) u)
merges_there shows setups events apart i n en m u =
    let w = reached shows setups events in
    subst (IsMergeOfHeld shows w.sent u (held_after_expiry u m n)) (sym (slots_after_expiry w.sent u m n))
    (merge_of_held shows setups events u (held_after_expiry u m n) (after_expiry_within w (reached_ok shows setups events apart) i n u m en))

merged_frame : (shows : List Desk) (setups : List (List Port)) (events : List Event) → Apart (map new_console shows) → (i port m : ℕ) (frame : List ℕ) → LookedAt (reached shows setups events) i port m frame → IsMergedFrame shows (reached shows setups events) i port m frame
merged_frame shows setups events apart i port m frame l =
    let w = reached shows setups events in
    let lit = node_slots w.sent (node_at m l.node) in
    record {
      node = l.node;
      is_node = l.is_node;
      port_there = l.port_there;
      is_port = l.is_port;
      slots = lit;
      merges = merges_there shows setups events apart i l.node l.is_node m;
      octets = ap length (sym l.is_frame) ∙ frame_octets lit l.port_there.ranges;
      start = ap (λ xs. get_or xs 0 0) (sym l.is_frame) ∙ octet_start lit l.port_there.ranges;
      slot = λ a up le. ap (λ xs. get_or xs a 0) (sym l.is_frame) ∙ octet_slot lit l.port_there.ranges a up le;
    }

look_at : (shows : List Desk) (setups : List (List Port)) (events : List Event) (run : Ran) → ran (new_world shows setups) events ≡ Some run → (j i port m : ℕ) (frame : List ℕ) → Looked events run.answers j i port m frame → LookedAt (reached shows setups (take j events)) i port m frame
look_at shows setups events run is j i port m frame l =
    let a = each_answered (new_world shows setups) events run j (Look i port m) is l.event in
    let same' : a.answer ≡ answered.Shown frame = same_Some _ _ (sym a.is_answer ∙ l.answer) in
    look_is (reached shows setups (take j events)) i port m frame (reached shows setups (take (j + 1) events)) (a.stepped ∙ (λ k. Ok (record { answer = same' k; world = reached shows setups (take (j + 1) events) })))

pub frames_merge : FramesAreMergesOfWhatWasSent
frames_merge shows setups events run apart is j i port m frame l = merged_frame shows setups (take j events) apart i port m frame (look_at shows setups events run is j i port m frame l)

-- ---- equal holdings

-- a place of a prefix of the events is the same in the whole run
in_the_end : (shows : List Desk) (setups : List (List Port)) (events : List Event) (j : ℕ) (s : List ℕ) (u q : ℕ) → q < length (stream_of s u (reached shows setups (take j events)).sent) → at (stream_of s u (reached shows setups events).sent) q ≡ at (stream_of s u (reached shows setups (take j events)).sent) q
in_the_end shows setups events j s u q lt =
    let w0 = new_world shows setups in
    let e : reached shows setups events ≡ after (reached shows setups (take j events)) (drop j events) = ap (after w0) (sym (take-append-drop j events)) ∙ joined w0 (take j events) (drop j events) in
    ap (λ (v : World). at (stream_of s u v.sent) q) e ∙ (run_longer (reached shows setups (take j events)) (drop j events)).alike s u q lt

shown_there : (sent : List Sent) (u : ℕ) (hs : List Hold) → AllByRecursion (λ (h : Hold). h.place < length (stream_of h.source u sent)) hs → (s : List ℕ) (q : ℕ) → IsShown u sent hs s q → q < length (stream_of s u sent)
shown_there sent u hs within s q k =
    let h = in_all (λ (y : Hold). y.place < length (stream_of y.source u sent)) hs k.hold within (in_contains k.hold hs k.held) in
    subst (λ p. p < length (stream_of s u sent)) k.place (subst (λ (z : List ℕ). k.hold.place < length (stream_of z u sent)) k.source h)

-- slots of a frame are those of the universe, where a range fills them from it
filled : (slots : ℕ → List ℕ) (rs : List SlotRange) (a u : ℕ) (r : SlotRange) → find (covers a) rs ≡ Some r → r.universe ≡ u → slot_by slots (find (covers a) rs) a ≡ get_or (slots u) (r.slot - 1 + (a - r.port_slot)) 0
filled slots rs a u r is eu = ap (λ o. slot_by slots o a) is ∙ ap (λ v. get_or (slots v) (r.slot - 1 + (a - r.port_slot)) 0) eu

agree : (u : ℕ) (lit later : ℕ → List ℕ) (p q : Port) → lit u ≡ later u → AgreeOn u p q (port_frame lit p.ranges) (port_frame later q.ranges)
agree u lit later p q e x y xu xl yu yl is =
    octet_slot lit p.ranges x xu xl ∙ filled lit p.ranges x u is.one is.is_one is.universe
    ∙ ap (λ n. get_or (lit u) n 0) is.slot ∙ ap (λ xs. get_or xs (is.other.slot - 1 + (y - is.other.port_slot)) 0) e
    ∙ sym (octet_slot later q.ranges y yu yl ∙ filled later q.ranges y u is.other is.is_other is.other_universe)

module _ (shows : List Desk) (setups : List (List Port)) (events : List Event) (run : Ran) (is : ran (new_world shows setups) events ≡ Some run) (frame : List ℕ) (a : LookOf shows setups events run.answers frame) where
  abbrev lit : ℕ → List ℕ
  lit = node_slots (sent_at a) (node_at a.moment a.node)

  frame_is : port_frame lit a.port_there.ranges ≡ frame
  frame_is =
      let l = look_at shows setups events run is a.index a.i a.port a.moment frame a.looked in
      let n : a.node ≡ l.node = same_Some a.node l.node (sym a.is_node ∙ l.is_node) in
      let p : a.port_there ≡ l.port_there = same_Some _ _ (sym a.is_port ∙ ap (λ (z : Node). port_of a.port z.ports) n ∙ l.is_port) in
      (λ j. port_frame (node_slots (sent_at a) (node_at a.moment (n j))) (p j).ranges) ∙ l.is_frame

  within : Apart (map new_console shows) → (u : ℕ) → AllByRecursion (λ (h : Hold). h.place < length (stream_of h.source u (sent_at a))) (held_at_look u a)
  within apart u = after_expiry_within (reached shows setups (take a.index events)) (reached_ok shows setups (take a.index events) apart) a.i a.node u a.moment a.is_node

by_frames : (u : ℕ) (p q : Port) (f g frame other : List ℕ) → f ≡ frame → g ≡ other → AgreeOn u p q f g → AgreeOn u p q frame other
by_frames u p q f g frame other ef eg h = subst (λ z. AgreeOn u p q z other) ef (subst (λ z. AgreeOn u p q f z) eg h)

pub equal_slots : MergesTheSet → EqualHoldingsGiveEqualSlots
equal_slots merges = record {
  one = λ shows setups events run apart is frame other a b u same'.
      let wa = within shows setups events run is frame a apart u in
      let wb = within shows setups events run is other b apart u in
      let alike : (s : List ℕ) (q : ℕ) → IsShown u (sent_at a) (held_at_look u a) s q → at (stream_of s u (sent_at b)) q ≡ at (stream_of s u (sent_at a)) q =
      λ s q k. sym (in_the_end shows setups events b.index s u q (shown_there (sent_at b) u (held_at_look u b) wb s q ((same' s q).0 k))) ∙ in_the_end shows setups events a.index s u q (shown_there (sent_at a) u (held_at_look u a) wa s q k) in
      let e = slots_after_expiry (sent_at a) u a.moment a.node ∙ slots_same merges u (sent_at a) (sent_at b) (held_at_look u a) (held_at_look u b) same' alike ∙ sym (slots_after_expiry (sent_at b) u b.moment b.node) in
      by_frames u a.port_there b.port_there _ _ frame other (frame_is shows setups events run is frame a) (frame_is shows setups events run is other b) (agree u (lit shows setups events run is frame a) (lit shows setups events run is other b) a.port_there b.port_there e);
  two = λ shows shows_then setups setups_then events events_then run run_then apart apart_then is is_then frame other a b u same'.
      let ma = merges_there shows setups (take a.index events) apart a.i a.node a.is_node a.moment u in
      let mb = merges_there shows_then setups_then (take b.index events_then) apart_then b.i b.node b.is_node b.moment u in
      let e = ma.merged ∙ merges ma.layers mb.layers (λ y. (λ c. (mb.exactly y).1 ((same' y).0 ((ma.exactly y).0 c)), λ c. (ma.exactly y).1 ((same' y).1 ((mb.exactly y).0 c)))) ∙ sym mb.merged in
      by_frames u a.port_there b.port_there _ _ frame other (frame_is shows setups events run is frame a) (frame_is shows_then setups_then events_then run_then is_then other b) (agree u (lit shows setups events run is frame a) (lit shows_then setups_then events_then run_then is_then other b) a.port_there b.port_there e);
}

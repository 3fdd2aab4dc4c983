-- A run of a world lights its stage.
use Rattle.std.proofs.Common.{◌≡◌, ℕ, zero, suc, ◌<◌, true, false, List, [], ◌∷◌, ◌++◌, map, filter, take, drop, length, get_or, Some, refl, sym, ap, subst, ◌∙◌, arith, append_assoc, slice_get}
use Rattle.std.specs.Prelude.{Contains, if◌then◌else◌}
use Rattle.std.proofs.lemmas.Option.{same_Some, slice_get-get_or}
use Rattle.std.proofs.lemmas.List.{take-append-drop}
use Rattle.sacn_packets.specs.FramingText.{nothing}
use Rattle.sacn_packets.specs.PacketText.{data_text}
use Rattle.sacn_sources.specs.Order.{same}
use Rattle.sacn_node.specs.Setup.{Port}
use Rattle.sacn_schedule.specs.Cids.{Desk}
use Rattle.sacn_schedule.specs.declared.event.Event.{Event}
use Rattle.sacn_schedule.specs.declared.event.Event.TheVariants as event
use Rattle.sacn_desk.specs.DeskSends.{desk_sends}
use Rattle.sacn_gateway.specs.InterfaceLaws.{OffersAreOfTheirPort}
use Rattle.sacn_machine.specs.Widgets.{widget_text}
use Rattle.sacn_machine.specs.declared.device.Offer.{Offer}
use Rattle.sacn_world.specs.declared.answer.Answer.{Answer}
use Rattle.sacn_world.specs.declared.answer.Answer.TheVariants as answered
use Rattle.sacn_world.specs.Streams.{Sent}
use Rattle.sacn_world.specs.Worlds.{World, new_console, new_world, Apart}
use Rattle.sacn_world.specs.Runs.{Ran, answered_first, first_then, ran}
use Rattle.sacn_world.specs.Laws.{reached}
use Rattle.sacn_world.specs.Origins.{Looked}
use Rattle.sacn_world.specs.Headline.{Headline, HoldsOfARun}
use Rattle.sacn_world.proofs.Ran.{ran_after}
use Rattle.sacn_world.proofs.Reaching.{first_of_run, joined, run_answers}
use Rattle.sacn_world.proofs.Sources.{same-itself}
use Rattle.sacn_runs.specs.ConsoleRuns.{octets_of_packet, octets_from}
use Rattle.sacn_runs.specs.Stage.{Part, slot_in, sent_during, IsLit, DesksSendWhatTheirConsolesSend, WhatIsLitWasHandedOver, EveryPacketOfAnInterfaceIsLit, EqualHoldingsLightEqualSlots, HoldsOfAStage, Stage}
use Rattle.sacn_runs.proofs.ConsoleRunning.{desks_run}
use Rattle.sacn_runs.proofs.GatewayRunning.{gateways_run}
use Rattle.sacn_runs.proofs.Growing.{sent_stays, stands_behind}
use Rattle.sacn_runs.proofs.Places.{stands_left, both_right}

-- ---- a part of a run

record Split (w : World) (xs ys : List Event) (r : Ran) : Type 0 where
  one : Ran
  is_one : ran w xs ≡ Some one
  other : Ran
  is_other : ran one.world ys ≡ Some other
  answers : r.answers ≡ one.answers ++ other.answers

split : (w : World) (xs ys : List Event) (r : Ran) → ran w (xs ++ ys) ≡ Some r → Split w xs ys r
split w [] ys r h = record { one = record { answers = []; world = w }; is_one = refl; other = r; is_other = h; answers = refl }
split w (e ∷ xs) ys r h =
    let f = first_of_run w e (xs ++ ys) r h in
    let s = split f.outcome.world xs ys f.rest f.is_rest in
    record {
      one = record { answers = f.outcome.answer ∷ s.one.answers; world = s.one.world };
      is_one = ap (λ t. first_then t (λ v. ran v xs)) f.is_outcome ∙ ap (answered_first f.outcome.answer) s.is_one;
      other = s.other;
      is_other = s.is_other;
      answers = sym f.answers ∙ ap (λ answers. f.outcome.answer ∷ answers) s.answers;
    }

-- ---- lists

found : (s : List ℕ) (xs : List Sent) (k : ℕ) (x : Sent) → slice_get xs k ≡ Some x → same s x.source ≡ true → Contains (octets_from s xs) (octets_of_packet x.packet)
found s [] k x e own = absurd (cc)
found s (y ∷ xs) zero x e own =
    let is = same_Some y x e in
    let mine : same s y.source ≡ true = ap (λ (z : Sent). same s z.source) is ∙ own in
    subst (λ b. Contains (map (λ (z : Sent). octets_of_packet z.packet) (if b then y ∷ filter (λ (z : Sent). same s z.source) xs else filter (λ (z : Sent). same s z.source) xs)) (octets_of_packet x.packet)) (sym mine)
    (0, omega arith, ap (λ (z : Sent). octets_of_packet z.packet) is)
found s (y ∷ xs) (suc k) x e own =
    let r = found s xs k x e own in
    elim (same s y.source) as (λ b. Contains (map (λ (z : Sent). octets_of_packet z.packet) (if b then y ∷ filter (λ (z : Sent). same s z.source) xs else filter (λ (z : Sent). same s z.source) xs)) (octets_of_packet x.packet)) [
      | true ↦ (suc r.0, omega (arith, r.1), r.2)
      | false ↦ r
    ]

-- the slots of a frame stand in its packet
slot_there : (frame : List ℕ) (end : List ℕ) (x : ℕ) → x < length frame → get_or (frame ++ end) x 0 ≡ get_or frame x 0
slot_there [] end x lt = absurd (omega (arith, lt))
slot_there (y ∷ frame) end zero lt = refl
slot_there (y ∷ frame) end (suc x) lt = slot_there frame end x (omega (arith, lt))

slot_of : (packet frame : List ℕ) (x : ℕ) → packet ≡ widget_text frame → x < length frame → slot_in packet x ≡ get_or frame x 0
slot_of packet frame x is lt = ap (λ xs. slot_in xs x) is ∙ slot_there frame (0xe7 ∷ []) x lt

-- ---- the stage

module _ (shows : List Desk) (setups : List (List Port)) (events : List Event) (run : Ran) (apart : Apart (map new_console shows)) (h : ran (new_world shows setups) events ≡ Some run) (holds : HoldsOfARun shows setups events run.answers) where
  abbrev begun : World
  begun = new_world shows setups

  -- the answers of a part, and where it stands in the run
  record During (p : Part events) : Type 0 where
    part : Ran
    is_part : ran (reached shows setups p.before) p.during ≡ Some part
    left : part.world ≡ reached shows setups (p.before ++ p.during)
    placed : (k : ℕ) (e : Event) (a : Answer) → slice_get p.during k ≡ Some e → slice_get part.answers k ≡ Some a → (j : ℕ) × (slice_get events j ≡ Some e) × (slice_get run.answers j ≡ Some a)

  during_of : (p : Part events) → During p
  during_of p =
      let a = split begun p.before (p.during ++ p.later) run (ap (ran begun) (sym p.joined) ∙ h) in
      let b = split a.one.world p.during p.later a.other a.is_other in
      let is : ran (reached shows setups p.before) p.during ≡ Some b.one = ap (λ v. ran v p.during) (ran_after begun p.before a.one a.is_one) ∙ b.is_one in
      record {
        part = b.one;
        is_part = is;
        left = sym (joined begun p.before p.during ∙ ran_after (reached shows setups p.before) p.during b.one is);
        placed = λ k e answer he ha.
            let f = both_right p.before a.one.answers (p.during ++ p.later) a.other.answers k e answer (run_answers.count begun p.before a.one a.is_one)
            (stands_left p.during p.later k e he)
            (ap (λ zs. slice_get zs k) b.answers ∙ stands_left b.one.answers b.other.answers k answer ha) in
            (f.0, ap (λ es. slice_get es f.0) p.joined ∙ f.1, ap (λ zs. slice_get zs f.0) a.answers ∙ f.2);
      }

  desks_send : DesksSendWhatTheirConsolesSend shows setups events run.answers
  desks_send d =
      let m = during_of d.part in
      let r = desks_run shows setups d.part.before d.part.during m.part d.i d.console d.rounds apart m.is_part d.is_console d.asked in
      ap (λ (v : World). octets_from d.console.show.cid (drop (length (reached shows setups d.part.before).sent) v.sent)) (sym m.left) ∙ r.sent

  abbrev end : World
  end = reached shows setups events

  -- what was sent up to an event, or up to the end of a part, stands there at the end
  at_event : (j k : ℕ) (x : Sent) → slice_get (reached shows setups (take j events)).sent k ≡ Some x → slice_get end.sent k ≡ Some x
  at_event j k x there =
      ap (λ es. slice_get (reached shows setups es).sent k) (sym (take-append-drop j events))
      ∙ ap (λ (v : World). slice_get v.sent k) (joined begun (take j events) (drop j events))
      ∙ sent_stays (reached shows setups (take j events)) k x there (drop j events)

  at_part : (p : Part events) (k : ℕ) (x : Sent) → slice_get (reached shows setups (p.before ++ p.during)).sent k ≡ Some x → slice_get end.sent k ≡ Some x
  at_part p k x there =
      ap (λ es. slice_get (reached shows setups es).sent k) (p.joined ∙ sym (append_assoc p.before p.during p.later))
      ∙ ap (λ (v : World). slice_get v.sent k) (joined begun (p.before ++ p.during) p.later)
      ∙ sent_stays (reached shows setups (p.before ++ p.during)) k x there p.later

  handed_over : WhatIsLitWasHandedOver shows setups events run.answers
  handed_over i port o a u y l d own sent =
      let v = reached shows setups (d.part.before ++ d.part.during) in
      let cid = d.console.show.cid in
      let s = l.sent_so in
      let x = get_or v.sent s.number s.datagram in
      let there = slice_get-get_or v.sent s.number s.datagram sent.1 in
      let is : x ≡ s.datagram = same_Some x s.datagram (sym (at_part d.part s.number x there) ∙ at_event a.look.index s.number s.datagram s.is_datagram) in
      let at = stands_behind (length (reached shows setups d.part.before).sent) v.sent s.number x sent.0 there in
      let mine : same cid x.source ≡ true = ap (λ (z : Sent). same cid z.source) is ∙ ap (same cid) (s.source ∙ own) ∙ same-itself cid in
      let says : octets_of_packet x.packet ≡ data_text l.data_held nothing = ap (λ (z : Sent). octets_of_packet z.packet) is ∙ ap octets_of_packet s.says in
      subst (Contains (desk_sends d.console.core d.rounds)) says
      (subst (λ os. Contains os (octets_of_packet x.packet)) (desks_send d) (found cid (sent_during shows setups events run.answers d.part) at.0 x at.1 mine))

  lit_by : (i port : ℕ) (o : Offer) (frame : List ℕ) (j : ℕ) (looked : Looked events run.answers j i port o.now frame) → o.packet ≡ widget_text frame → IsLit shows setups events run.answers i port o
  lit_by i port o frame j looked packet =
      let merged = holds.merged j i port o.now frame looked in
      record {
        frame = frame;
        look = record { index = j; i = i; port = port; moment = o.now; looked = looked; node = merged.node; is_node = merged.is_node; port_there = merged.port_there; is_port = merged.is_port };
        node = refl;
        at_port = refl;
        moment = refl;
        packet = packet;
        merged = merged;
      }

  alike : EqualHoldingsLightEqualSlots shows setups events run.answers
  alike i j port other_port o p a b u shown x y px fx py fy same_slot =
      let first : x < length a.frame = omega (arith, a.merged.octets, fx) in
      let other : y < length b.frame = omega (arith, b.merged.octets, fy) in
      slot_of o.packet a.frame x a.packet first
      ∙ holds.equal a.frame b.frame a.look b.look u shown x y px fx py fy same_slot
      ∙ sym (slot_of p.packet b.frame y b.packet other)

  lit : OffersAreOfTheirPort → EveryPacketOfAnInterfaceIsLit shows setups events run.answers
  lit of_turns g port latest offers o are at =
      let m = during_of g.part in
      let r = gateways_run of_turns shows setups g.part.before g.part.during m.part g.i g.node g.senders g.turns apart m.is_part g.is_node g.whole g.comes in
      let l = r.offered port latest offers o are at in
      let f = m.placed l.index (event.Look g.i port o.now) (answered.Shown l.frame) l.looked.event l.looked.answer in
      lit_by g.i port o l.frame f.0 (record { event = f.1; answer = f.2 }) l.packet

  all_hold : OffersAreOfTheirPort → HoldsOfAStage shows setups events run.answers
  all_hold of_turns = record { world = holds; desks = desks_send; lit = lit of_turns; handed = handed_over; alike = alike }

pub stage_holds : Headline → OffersAreOfTheirPort → Stage
stage_holds headline of_turns shows setups events run apart h = all_hold shows setups events run apart h (headline.holds shows setups events run apart h) of_turns

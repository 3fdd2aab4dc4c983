-- What interfaces are offered are the frames with which looks are answered.
use Rattle.std.proofs.Common.{◌≡◌, ℕ, zero, suc, ◌<◌, true, false, List, [], ◌∷◌, ◌++◌, map, length, Option, Some, refl, sym, ap, subst, ◌∙◌, arith, slice_get, get_or}
use Rattle.std.specs.Prelude.{option_map, ◌==◌, if◌then◌else◌, Contains}
use Rattle.std.proofs.lemmas.Bool.{eqb-true}
use Rattle.std.proofs.lemmas.Option.{same_Some, slice_get-map}
use Rattle.sacn_node.specs.Setup.{Port, port_numbers}
use Rattle.sacn_node.specs.Ports.{port_of, frame_on}
use Rattle.sacn_node.specs.Cores.{Core, Node, core_slots}
use Rattle.sacn_schedule.specs.declared.event.Event.{Event}
use Rattle.sacn_schedule.specs.declared.event.Event.TheVariants as event
use Rattle.sacn_machine.specs.Hearings.{Hearing}
use Rattle.sacn_gateway.specs.GatewayText.{gateway_after}
use Rattle.sacn_gateway.specs.GatewayRun.{latest_reading}
use Rattle.sacn_gateway.specs.Interfaces.{AreOffers, frame_after}
use Rattle.sacn_gateway.specs.InterfaceLaws.{IsOfATurn, AreOfTurns, OffersAreOfTheirPort}
use Rattle.sacn_machine.specs.declared.device.Offer.{Offer}
use Rattle.sacn_world.specs.declared.answer.Answer.{Answer}
use Rattle.sacn_world.specs.declared.answer.Answer.TheVariants as answered
use Rattle.sacn_runs.specs.NodeRuns.{frame_told}
use Rattle.sacn_runs.specs.GatewayRuns.{PortLook, port_look, looks, look_of, gateway_looks, IsOfALook}
use Rattle.sacn_runs.proofs.Visits.{node_with}
use Rattle.sacn_runs.proofs.GatewayTurns.{gateway_kept}
use Rattle.sacn_runs.proofs.Places.{Stands, stands_left, stands_right}

-- a port that has a frame is among the numbers of the ports
number_stands : (slots : ℕ → List ℕ) (port : ℕ) (frame : List ℕ) (ps : List Port) → frame_on slots (port_of port ps) ≡ Some frame → Stands port (port_numbers ps)
number_stands slots port frame [] e = absurd (cc)
number_stands slots port frame (p ∷ ps) e =
    elim (p.number == port) as (λ b. (p.number == port) ≡ b → frame_on slots (if b then Some p else port_of port ps) ≡ Some frame → Stands port (p.number ∷ port_numbers ps)) [
      | true ↦ λ is h. (0, ap Some (eqb-true p.number port is))
      | false ↦ λ is h. let r = number_stands slots port frame ps h in (suc r.0, r.1)
    ] refl e

abbrev seen_look : ℕ → ℕ → List ℕ → PortLook
seen_look port now frame = port_look port now (Some frame)

module _ (ports : List Port) (c : Core) (senders : List (List ℕ)) (port : ℕ) where
  abbrev first : Node
  first = node_with ports c

  -- the frame of a port after a turn is the answer to a look
  look_stands : (later : List (List Hearing)) (hs : List Hearing) (earlier : List (List Hearing)) (frame : List ℕ) → frame_after first senders port (hs ∷ earlier) ≡ Some frame
      → Stands (seen_look port (latest_reading hs) frame) (gateway_looks first senders (later ++ hs ∷ earlier))
  look_stands [] hs earlier frame e =
      let n = (gateway_after first senders (hs ∷ earlier)).node in
      let now = latest_reading hs in
      let at = number_stands (core_slots n.core) port frame n.ports e in
      let here : slice_get (port_numbers ports) at.0 ≡ Some port = ap (λ (m : Node). slice_get (port_numbers m.ports) at.0) (sym (gateway_kept ports c senders (hs ∷ earlier))) ∙ at.1 in
      let told : slice_get (map (look_of n now) (port_numbers ports)) at.0 ≡ Some (seen_look port now frame) =
      slice_get-map (look_of n now) (port_numbers ports) at.0 ∙ ap (option_map (look_of n now)) here ∙ ap (λ f. Some (port_look port now f)) e in
      stands_right (gateway_looks first senders earlier) (map (look_of n now) (port_numbers ports)) at.0 (seen_look port now frame) told
  look_stands (h ∷ later) hs earlier frame e =
      let r = look_stands later hs earlier frame e in
      let all = later ++ hs ∷ earlier in
      let last = map (look_of (gateway_after first senders (h ∷ all)).node (latest_reading h)) (port_numbers ports) in
      (r.0, stands_left (gateway_looks first senders all) last r.0 (seen_look port (latest_reading hs) frame) r.1)

-- ---- a look among the events

framed : (a : Answer) (frame : List ℕ) → frame_told a ≡ Some frame → a ≡ answered.Shown frame
framed (answered.Shown f) frame e = ap answered.Shown (same_Some f frame e)
framed answered.NoSuchPort frame e = absurd (cc)
framed (answered.Ordered r) frame e = absurd (cc)
framed (answered.Sent k) frame e = absurd (cc)
framed answered.Idle frame e = absurd (cc)
framed (answered.Taken t) frame e = absurd (cc)
framed answered.Restarted frame e = absurd (cc)

module _ (i : ℕ) (l : PortLook) where
  abbrev Found : List Event → List Answer → Type 0
  Found events answers = (j : ℕ) × (a : Answer) × (slice_get events j ≡ Some (event.Look i l.port l.now)) × (slice_get answers j ≡ Some a) × (frame_told a ≡ l.frame)

  later_on : (e : Event) (a : Answer) (es : List Event) (answers : List Answer) → Found es answers → Found (e ∷ es) (a ∷ answers)
  later_on e a es answers f = (suc f.0, f.1, f.2, f.3, f.4)

  abbrev look_with : ℕ → ℕ → Answer → PortLook
  look_with port m a = port_look port m (frame_told a)

  here_or_later : (j port m : ℕ) (a : Answer) (es : List Event) (answers : List Answer) → j ≡ i
      → ((k : ℕ) → slice_get (looks i es answers) k ≡ Some l → Found es answers)
      → (k : ℕ) → slice_get (look_with port m a ∷ looks i es answers) k ≡ Some l → Found (event.Look j port m ∷ es) (a ∷ answers)
  here_or_later j port m a es answers own rest zero h =
      let is : look_with port m a ≡ l = same_Some (look_with port m a) l h in
      (0, a, ap (λ z. Some (event.Look z port m)) own ∙ ap (λ (x : PortLook). Some (event.Look i x.port x.now)) is, refl, ap (λ (x : PortLook). x.frame) is)
  here_or_later j port m a es answers own rest (suc k) h = later_on (event.Look j port m) a es answers (rest k h)

  look_event : (events : List Event) (answers : List Answer) (k : ℕ) → slice_get (looks i events answers) k ≡ Some l → Found events answers
  look_event [] answers k h = absurd (cc)
  look_event (e ∷ es) [] k h = absurd (cc)
  look_event (event.Order j m c ∷ es) (a ∷ answers) k h = later_on (event.Order j m c) a es answers (look_event es answers k h)
  look_event (event.Poll j m ∷ es) (a ∷ answers) k h = later_on (event.Poll j m) a es answers (look_event es answers k h)
  look_event (event.Deliver d j m ∷ es) (a ∷ answers) k h = later_on (event.Deliver d j m) a es answers (look_event es answers k h)
  look_event (event.Look j port m ∷ es) (a ∷ answers) k h =
      elim (j == i) as (λ b. (j == i) ≡ b → slice_get ((if b then look_with port m a ∷ [] else []) ++ looks i es answers) k ≡ Some l → Found (event.Look j port m ∷ es) (a ∷ answers)) [
        | true ↦ λ is g. here_or_later j port m a es answers (eqb-true j i is) (look_event es answers) k g
        | false ↦ λ is g. later_on (event.Look j port m) a es answers (look_event es answers k g)
      ] refl h
  look_event (event.RestartConsole j number ∷ es) (a ∷ answers) k h = later_on (event.RestartConsole j number) a es answers (look_event es answers k h)
  look_event (event.RestartNode j ∷ es) (a ∷ answers) k h = later_on (event.RestartNode j) a es answers (look_event es answers k h)
  look_event (event.Noise j m octets ∷ es) (a ∷ answers) k h = later_on (event.Noise j m octets) a es answers (look_event es answers k h)

-- ---- an offer

turn_of_offer : (n : Node) (senders : List (List ℕ)) (port : ℕ) (turns : List (List Hearing)) (offers : List Offer) (o : Offer) (k : ℕ)
    → k < length offers → get_or offers k o ≡ o → AreOfTurns n senders port turns offers → IsOfATurn n senders port turns o
turn_of_offer n senders port turns [] o k lt e are = absurd (omega (arith, lt))
turn_of_offer n senders port turns (p ∷ offers) o zero lt e are = subst (IsOfATurn n senders port turns) e are.0
turn_of_offer n senders port turns (p ∷ offers) o (suc k) lt e are = turn_of_offer n senders port turns offers o k (omega (arith, lt)) e are.1

pub offer_looked : OffersAreOfTheirPort → (ports : List Port) (c : Core) (senders : List (List ℕ)) (turns : List (List Hearing)) (i : ℕ) (events : List Event) (answers : List Answer)
    → looks i events answers ≡ gateway_looks (node_with ports c) senders turns
    → (port : ℕ) (latest : Option Offer) (offers : List Offer) (o : Offer) → AreOffers (node_with ports c) senders port latest turns offers → Contains offers o
    → IsOfALook events answers i port o
offer_looked of_turns ports c senders turns i events answers frames port latest offers o are at =
    let n = node_with ports c in
    let t = turn_of_offer n senders port turns offers o at.0 at.1 at.2 (of_turns n senders port latest turns offers are) in
    let l = look_stands ports c senders port t.0 t.1 t.2 t.3 t.6 in
    let x = seen_look port (latest_reading t.1) t.3 in
    let f = look_event i x events answers l.0 (ap (λ xs. slice_get xs l.0) (frames ∙ ap (gateway_looks n senders) t.4) ∙ l.1) in
    record {
      index = f.0;
      frame = t.3;
      looked = record { event = f.2 ∙ ap (λ z. Some (event.Look i port z)) (sym t.5); answer = f.3 ∙ ap Some (framed f.1 t.3 f.4) };
      packet = t.7;
    }

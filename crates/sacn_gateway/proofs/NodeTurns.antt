-- One turn after another of a gateway's nodes.
use Rattle.std.proofs.Common.{◌≡◌, ℕ, ◌<◌, List, [], ◌∷◌, ◌++◌, length, map, drop, take, refl, sym, ap, subst, ◌∙◌, append_assoc, Option}
use Rattle.std.specs.List.Sorted.{IsStrictlyIncreasing}
use Rattle.sacn_node.specs.Setup.{port_numbers}
use Rattle.sacn_node.specs.Cores.{Node}
use Rattle.sacn_node.specs.Calls.{step}
use Rattle.sacn_node.specs.declared.port_frame.PortFrame.{PortFrame}
use Rattle.sacn_node.specs.Showings.{IsShowingOf, IsNewsOf, port_after, ports_of, news_of}
use Rattle.sacn_node.specs.declared.showing.Showing.{Showing}
use Rattle.sacn_node.proofs.Looks.{unseen_numbers}
use Rattle.sacn_edge.specs.Additions.{Adds}
use Rattle.sacn_edge.specs.NodeText.{call_at, node_after, text_of}
use Rattle.sacn_edge.specs.PortLines.{FailsAmong, port_text, ports_text}
use Rattle.sacn_edge.proofs.ToldLemmas.{Adds-append}
use Rattle.sacn_edge.proofs.PortLineLemmas.{news_fail}
use Rattle.sacn_edge.proofs.PortLineLemmas as lines
use Rattle.sacn_edge.proofs.NodeLemmas.{Distinct, numbers, Remembers, rising_distinct, nothing_seen}
use Rattle.sacn_machine.specs.Hearings.{Hearing, Came}
use Rattle.sacn_machine.specs.declared.device.Offer.{Offer}
use Rattle.sacn_gateway.specs.declared.backlog.Backlog.{Backlog}
use Rattle.sacn_gateway.specs.declared.interface.Interface.{Interface}
use Rattle.sacn_gateway.specs.declared.nodes.GatewayNode.{GatewayNode}
use Rattle.sacn_gateway.specs.GatewayTurns.{turns_of, heard_of, backlog_after}
use Rattle.sacn_gateway.specs.GatewayText.{gateway_after, gateway_lines, gateway_text}
use Rattle.sacn_gateway.specs.GatewayRun.{StopsIn, latest_reading}
use Rattle.sacn_gateway.specs.PlainGateway.{backlog_at}
use Rattle.sacn_gateway.specs.Interfaces.{AreOffered, Pairwise, frame_in, frame_after}
use Rattle.sacn_gateway.specs.GatewayNodes.{cores_of, HasBegun, IsMoved, IsLooked, IsNodeServed, IsAsAlone, news_text, news_texts, FailsAtOne}
use Rattle.sacn_gateway.specs.GatewaysText.{turn_text, turn_texts, gateways_text, OneStopsIn}
use Rattle.sacn_gateway.proofs.Draining.{node_more}
use Rattle.sacn_gateway.proofs.Turning.{gate_more, turn_adds, more_remembered, more_numbers, stops_in}
use Rattle.sacn_gateway.proofs.PlainLines.{backlog_same}
use Rattle.sacn_gateway.proofs.NodeLists.{pairwise_join}
use Rattle.sacn_gateway.proofs.Serving.{frame_is, not_offered, all_more}

-- ---- within a turn

-- one hearing more
pub moved_more : {D : Type 0} (senders : List (List ℕ)) (start waits : Backlog) (now : ℕ) (came : Came) (hs : List Hearing) (x y z : GatewayNode D)
    → waits ≡ backlog_after start hs
    → IsMoved (λ n. node_after n (turns_of senders start hs)) x y → IsMoved (step (call_at now (heard_of senders waits now came))) y z
    → IsMoved (λ n. node_after n (turns_of senders start (record { now = now; came = came } ∷ hs))) x z
moved_more senders start waits now came hs x y z at first next =
    (node_more senders start waits now came hs x.core y.core z.core at first.0 next.0, next.1, next.2 ∙ first.2, next.3 ∙ first.3)

-- ---- a node after some turns, whose ports were looked at after each

abbrev pub IsInRun : {D : Type 0} → (D → Option (List Offer)) → List (List ℕ) → List (List Hearing) → GatewayNode D → GatewayNode D → Type 0
IsInRun told senders turns a b =
    (b.core ≡ (gateway_after a.core senders turns).node)
    × Distinct (port_numbers a.core.ports)
    × IsShowingOf b.showing b.core
    × (numbers (ports_of b.showing) ≡ port_numbers a.core.ports)
    × Remembers (gateway_lines a.core senders turns) (ports_of b.showing)
    × AreOffered told a.core senders turns a.interfaces.items b.interfaces.items

pub begun : {D : Type 0} (told : D → Option (List Offer)) (senders : List (List ℕ)) (a b : GatewayNode D) → HasBegun a b → IsInRun told senders [] a b
begun {D} told senders a b has =
    let ports = port_numbers a.core.ports in (
      has.0,
      rising_distinct ports has.1,
      has.3,
      ap numbers has.2 ∙ unseen_numbers ports,
      subst (Remembers []) (sym has.2) (nothing_seen ports),
      subst (λ (is : List (Interface D)). AreOffered told a.core senders [] a.interfaces.items is) (sym has.4) (not_offered told a.core senders a.interfaces.items),
    )

pub as_alone : {D : Type 0} (told : D → Option (List Offer)) (senders : List (List ℕ)) (turns : List (List Hearing)) (a b : GatewayNode D)
    → IsInRun told senders turns a b → IsAsAlone told senders turns turns a b
as_alone told senders turns a b run = (run.0, run.5)

-- ---- the lines of a turn

drop_first : {X : Type 0} (xs ys : List X) → drop (length xs) (xs ++ ys) ≡ ys
drop_first [] ys = refl
drop_first (x ∷ xs) ys = drop_first xs ys

-- where a text is cut, so it is after what was written before
fails_later : (m : ℕ) (ps : List PortFrame) (before more : List ℕ) → FailsAmong m ps (λ xs. xs ≡ []) (λ xs. xs ≡ more) → FailsAmong m ps (λ xs. xs ≡ before) (λ xs. xs ≡ before ++ more)
fails_later m ps before more fails =
    let part : List ℕ = ports_text m fails.0 ++ take fails.3 (port_text m fails.1) in
    let own = fails.6 more refl in
    let is : more ≡ part = own.2 ∙ ap (λ xs. xs ++ part) own.1 in
    (fails.0, fails.1, fails.2, fails.3, fails.4, fails.5, λ ys told. (before, refl, told ∙ ap (λ xs. before ++ xs) is))

-- a node whose ports were looked at after the turn hs too, and whose interfaces weren't served yet
abbrev pub IsTurned : {D : Type 0} → (D → Option (List Offer)) → List (List ℕ) → List Hearing → List (List Hearing) → GatewayNode D → GatewayNode D → Type 0
IsTurned told senders hs turns a d =
    (d.core ≡ (gateway_after a.core senders (hs ∷ turns)).node)
    × Distinct (port_numbers a.core.ports)
    × IsShowingOf d.showing d.core
    × (numbers (ports_of d.showing) ≡ port_numbers a.core.ports)
    × Remembers (gateway_lines a.core senders (hs ∷ turns)) (ports_of d.showing)
    × AreOffered told a.core senders turns a.interfaces.items d.interfaces.items
    × (news_text d ≡ turn_text a.core senders hs turns)
    × ((port : ℕ) → frame_in port (ports_of d.showing) ≡ frame_after a.core senders port (hs ∷ turns))
    × ((more : List ℕ) → FailsAmong d.core.core.moment (news_of d.showing) (λ xs. xs ≡ []) (λ xs. xs ≡ more)
    → StopsIn a.core senders hs turns (λ xs. xs ≡ []) (λ xs. xs ≡ gateway_text a.core senders turns ++ more))

module _ {D : Type 0} (told : D → Option (List Offer)) (senders : List (List ℕ)) (waits : Backlog) (hs : List Hearing) (turns : List (List Hearing)) (at : waits ≡ backlog_at turns) (a b c d : GatewayNode D) (run : IsInRun told senders turns a b) (moved : IsMoved (λ n. node_after n (turns_of senders waits hs)) b c) (looked : IsLooked c d) where
  abbrev first : Node
  first = a.core

  abbrev n : Node
  n = c.core

  abbrev ss : List PortFrame
  ss = ports_of b.showing

  abbrev sofar : List ℕ
  sofar = gateway_text a.core senders turns

  abbrev written : List ℕ
  written = ports_text c.core.core.moment (map (port_after c.core) (ports_of b.showing))

  is : n ≡ (gateway_after first senders (hs ∷ turns)).node
  is = gate_more first senders hs turns b.core n waits run.0 (at ∙ sym (backlog_same first senders turns)) moved.0

  seen : ports_of d.showing ≡ map (port_after n) ss
  seen = looked.1 ∙ ap (map (port_after n)) moved.2

  moment : d.core.core.moment ≡ n.core.moment
  moment = ap (λ (m : Node). m.core.moment) looked.0

  own_text : news_text d ≡ turn_text first senders hs turns
  own_text =
      ap (λ m. ports_text m (news_of d.showing)) moment
      ∙ lines.news_text n.core.moment (news_of d.showing) (ports_of d.showing) looked.3
      ∙ ap (ports_text n.core.moment) seen
      ∙ sym (drop_first sofar written)
      ∙ ap (drop (length sofar)) (turn_adds first n senders ss hs turns is run.3 run.1 run.4)

  stops : (more : List ℕ) → FailsAmong d.core.core.moment (news_of d.showing) (λ xs. xs ≡ []) (λ xs. xs ≡ more)
      → StopsIn first senders hs turns (λ xs. xs ≡ []) (λ xs. xs ≡ sofar ++ more)
  stops more fails =
      let among : FailsAmong d.core.core.moment (ports_of d.showing) (λ xs. xs ≡ []) (λ xs. xs ≡ more) =
      news_fail d.core.core.moment (news_of d.showing) (ports_of d.showing) (λ xs. xs ≡ []) (λ xs. xs ≡ more) looked.3 fails in
      let own : FailsAmong n.core.moment (map (port_after n) ss) (λ xs. xs ≡ []) (λ xs. xs ≡ more) =
      subst (λ m. FailsAmong m (map (port_after n) ss) (λ xs. xs ≡ []) (λ xs. xs ≡ more)) moment
      (subst (λ ps. FailsAmong d.core.core.moment ps (λ xs. xs ≡ []) (λ xs. xs ≡ more)) seen among) in
      stops_in first n senders ss hs turns is run.3 run.1 run.4 (λ xs. xs ≡ []) (λ xs. xs ≡ sofar) (λ xs. xs ≡ sofar ++ more)
      (λ ys told. ([], refl, told)) (fails_later n.core.moment (map (port_after n) ss) sofar more own)

  pub turned : IsTurned told senders hs turns a d
  turned = (
    looked.0 ∙ is,
    run.1,
    looked.2,
    ap numbers seen ∙ more_numbers first n senders ss hs turns is run.3 run.1 run.4,
    subst (Remembers (gateway_lines first senders (hs ∷ turns))) (sym seen) (more_remembered first n senders ss hs turns is run.3 run.1 run.4),
    subst (λ (is : List (Interface D)). AreOffered told first senders turns a.interfaces.items is) (sym (looked.4 ∙ moved.3)) run.5,
    own_text,
    λ port. ap (frame_in port) seen ∙ frame_is first n senders hs turns ss port is run.3,
    stops,
  )

-- its interfaces are served
pub served : {D : Type 0} (told : D → Option (List Offer)) (senders : List (List ℕ)) (hs : List Hearing) (turns : List (List Hearing)) (now : ℕ) (at : now ≡ latest_reading hs) (a d e : GatewayNode D)
    → IsTurned told senders hs turns a d → IsNodeServed told now d e → IsInRun told senders (hs ∷ turns) a e
served told senders hs turns now at a d e turned done = (
  done.0 ∙ turned.0,
  turned.1,
  subst (λ (n : Node). IsShowingOf e.showing n) (sym done.0) (subst (λ (s : Showing). IsShowingOf s d.core) (sym done.1) turned.2),
  ap (λ (s : Showing). numbers (ports_of s)) done.1 ∙ turned.3,
  subst (λ (s : Showing). Remembers (gateway_lines a.core senders (hs ∷ turns)) (ports_of s)) (sym done.1) turned.4,
  all_more told a.core senders hs turns now (ports_of d.showing) at turned.7 a.interfaces.items d.interfaces.items e.interfaces.items turned.5 done.2,
)

pub stopped_as_alone : {D : Type 0} (told : D → Option (List Offer)) (senders : List (List ℕ)) (hs : List Hearing) (turns : List (List Hearing)) (a d : GatewayNode D)
    → IsTurned told senders hs turns a d → IsAsAlone told senders (hs ∷ turns) turns a d
stopped_as_alone told senders hs turns a d turned = (turned.0, turned.5)

-- ---- all nodes

abbrev Between : {D : Type 0} → (Node → Node) → GatewayNode D → GatewayNode D → Type 0
Between {D} by b d = (c : GatewayNode D) × IsMoved by b c × IsLooked c d

pub all_turned : {D : Type 0} (told : D → Option (List Offer)) (senders : List (List ℕ)) (waits : Backlog) (hs : List Hearing) (turns : List (List Hearing)) (firsts bs cs ds : List (GatewayNode D))
    → waits ≡ backlog_at turns
    → Pairwise (IsInRun told senders turns) firsts bs → Pairwise (IsMoved (λ n. node_after n (turns_of senders waits hs))) bs cs → Pairwise IsLooked cs ds
    → Pairwise (IsTurned told senders hs turns) firsts ds
all_turned told senders waits hs turns firsts bs cs ds at run moved looked =
    let by : Node → Node = λ n. node_after n (turns_of senders waits hs) in
    pairwise_join (IsInRun told senders turns) (Between by) (IsTurned told senders hs turns) (λ a b d r m. turned told senders waits hs turns at a b m.0 d r m.1 m.2) firsts bs ds run
    (pairwise_join (IsMoved by) IsLooked (Between by) (λ b c d m l. (c, m, l)) bs cs ds moved looked)

pub all_served : {D : Type 0} (told : D → Option (List Offer)) (senders : List (List ℕ)) (hs : List Hearing) (turns : List (List Hearing)) (now : ℕ) (firsts ds es : List (GatewayNode D))
    → now ≡ latest_reading hs
    → Pairwise (IsTurned told senders hs turns) firsts ds → Pairwise (IsNodeServed told now) ds es → Pairwise (IsInRun told senders (hs ∷ turns)) firsts es
all_served told senders hs turns now firsts ds es at =
    pairwise_join (IsTurned told senders hs turns) (IsNodeServed told now) (IsInRun told senders (hs ∷ turns)) (λ a d e t s. served told senders hs turns now at a d e t s) firsts ds es

-- ---- the text of all

module _ {D : Type 0} (told : D → Option (List Offer)) (senders : List (List ℕ)) (hs : List Hearing) (turns : List (List Hearing)) where
  pub turned_texts : (firsts ds : List (GatewayNode D)) → Pairwise (IsTurned told senders hs turns) firsts ds → news_texts ds ≡ turn_texts (cores_of firsts) senders hs turns
  turned_texts [] [] all = refl
  turned_texts [] (d ∷ ds) all = absurd all
  turned_texts (a ∷ firsts) [] all = absurd all
  turned_texts (a ∷ firsts) (d ∷ ds) all =
      ap (λ x. x ++ news_texts ds) all.0.6 ∙ ap (λ x. turn_text a.core senders hs turns ++ x) (turned_texts firsts ds all.1)

  -- the nodes before one, and that one
  parted : (firsts done : List (GatewayNode D)) (n : GatewayNode D) (rest : List (GatewayNode D)) → Pairwise (IsTurned told senders hs turns) firsts (done ++ n ∷ rest)
      → (before : List (GatewayNode D)) × (a : GatewayNode D) × (after : List (GatewayNode D))
      × (cores_of firsts ≡ cores_of before ++ a.core ∷ cores_of after)
      × Pairwise (IsTurned told senders hs turns) before done
      × IsTurned told senders hs turns a n
  parted [] [] n rest all = absurd all
  parted [] (d ∷ done) n rest all = absurd all
  parted (a ∷ firsts) [] n rest all = ([], a, firsts, refl, tt, all.0)
  parted (a ∷ firsts) (d ∷ done) n rest all =
      let more = parted firsts done n rest all.1 in
      (a ∷ more.0, more.1, more.2, ap (λ l. a.core ∷ l) more.3, (all.0, more.4), more.5)

  pub stops_at_one : (old middle new : List ℕ → Type 0) (firsts ds : List (GatewayNode D)) → Pairwise (IsTurned told senders hs turns) firsts ds
      → Adds old middle (gateways_text (cores_of firsts) senders turns) → FailsAtOne ds middle new → OneStopsIn (cores_of firsts) senders hs turns old new
  stops_at_one old middle new firsts ds all sofar fails =
      let parts = parted firsts fails.0 fails.1 fails.2 (subst (Pairwise (IsTurned told senders hs turns) firsts) fails.4 all) in
      let before = cores_of parts.0 in
      let more = fails.3 in
      let texts : news_texts fails.0 ≡ turn_texts before senders hs turns = turned_texts parts.0 fails.0 parts.4 in
      let text = gateways_text (cores_of firsts) senders turns in (
        before,
        parts.1.core,
        cores_of parts.2,
        more,
        parts.3,
        parts.5.8 more fails.5,
        subst (Adds old new) (ap (λ x. text ++ (x ++ more)) texts ∙ sym (append_assoc text (turn_texts before senders hs turns) more))
            (Adds-append text (news_texts fails.0 ++ more) sofar fails.6),
      )

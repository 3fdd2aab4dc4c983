-- One turn after another of a gateway.
use Rattle.std.proofs.Common.{◌≡◌, ℕ, List, [], ◌∷◌, ◌++◌, length, map, sym, ap, subst, ◌∙◌, arith, Option}
use Rattle.sacn_node.specs.Setup.{port_numbers}
use Rattle.sacn_node.specs.Cores.{Node}
use Rattle.sacn_node.specs.declared.port_frame.PortFrame.{PortFrame}
use Rattle.sacn_node.specs.Showings.{port_after}
use Rattle.sacn_node.proofs.Looks.{numbers_after}
use Rattle.sacn_edge.specs.Additions.{Adds, Extends}
use Rattle.sacn_edge.specs.NodeText.{with_ports, node_after, text_of}
use Rattle.sacn_edge.specs.PortLines.{ports_text, FailsAmong}
use Rattle.sacn_edge.proofs.ToldLemmas.{Adds-append}
use Rattle.sacn_edge.proofs.NodeLemmas.{Distinct, numbers, Remembers, turn_text, turn_remembered, stops, Extends-append}
use Rattle.sacn_gateway.specs.declared.backlog.Backlog.{Backlog}
use Rattle.sacn_machine.specs.Hearings.{Hearing, in_order, all_heard}
use Rattle.sacn_gateway.specs.GatewayTurns.{turns_of, backlog_after}
use Rattle.sacn_gateway.specs.GatewayText.{gateway_after, gateway_lines}
use Rattle.sacn_gateway.specs.GatewayRun.{AllBefore, IsRun, StopsIn}

-- a run that made all its turns
pub run_ends : (most until : ℕ) (turns : List (List Hearing)) → AllBefore until turns → length turns ≡ most → IsRun most until turns
run_ends most until [] before all = sym all
run_ends most until (hs ∷ turns) before all = (before.1, omega (arith, all), λ _. all)

-- what is heard in one turn more
pub heard_more : (a b c : Option (List Hearing)) (hs : List Hearing) (turns : List (List Hearing)) → Extends a b (all_heard turns) → Extends b c (in_order hs) → Extends a c (all_heard (hs ∷ turns))
heard_more a b c hs turns sofar more = Extends-append a b c (all_heard turns) (in_order hs) sofar more

-- the node after one turn more
pub gate_more : (first : Node) (senders : List (List ℕ)) (hs : List Hearing) (turns : List (List Hearing)) (old new : Node) (waits : Backlog)
    → old ≡ (gateway_after first senders turns).node → waits ≡ (gateway_after first senders turns).waits
    → new ≡ node_after old (turns_of senders waits hs) → new ≡ (gateway_after first senders (hs ∷ turns)).node
gate_more first senders hs turns old new waits was at is =
    is ∙ ap (λ e. node_after old (turns_of senders e hs)) at
    ∙ ap (λ n. node_after n (turns_of senders (gateway_after first senders turns).waits hs)) was

pub backlog_later : (first : Node) (senders : List (List ℕ)) (hs : List Hearing) (turns : List (List Hearing)) (waits new : Backlog)
    → waits ≡ (gateway_after first senders turns).waits → new ≡ backlog_after waits hs → new ≡ (gateway_after first senders (hs ∷ turns)).waits
backlog_later first senders hs turns waits new at is = is ∙ ap (λ e. backlog_after e hs) at

-- the lines of one turn more, where ss is what is kept of the ports before it
module _ (first n : Node) (senders : List (List ℕ)) (ss : List PortFrame) (hs : List Hearing) (turns : List (List Hearing)) (is : n ≡ (gateway_after first senders (hs ∷ turns)).node) (own : numbers ss ≡ port_numbers first.ports) (distinct : Distinct (port_numbers first.ports)) (all : Remembers (gateway_lines first senders turns) ss) where
  lines_are : with_ports n (numbers ss) (gateway_lines first senders turns) ≡ gateway_lines first senders (hs ∷ turns)
  lines_are =
      ap (λ m. with_ports m (numbers ss) (gateway_lines first senders turns)) is
      ∙ ap (λ ps. with_ports (gateway_after first senders (hs ∷ turns)).node ps (gateway_lines first senders turns)) own

  apart : Distinct (numbers ss)
  apart = subst Distinct (sym own) distinct

  pub turn_adds : text_of (gateway_lines first senders turns) ++ ports_text n.core.moment (map (port_after n) ss) ≡ text_of (gateway_lines first senders (hs ∷ turns))
  turn_adds = sym (turn_text n ss (gateway_lines first senders turns) apart all) ∙ ap text_of lines_are

  pub more_remembered : Remembers (gateway_lines first senders (hs ∷ turns)) (map (port_after n) ss)
  more_remembered = subst (λ ls. Remembers ls (map (port_after n) ss)) lines_are (turn_remembered n ss (gateway_lines first senders turns) apart all)

  pub more_numbers : numbers (map (port_after n) ss) ≡ port_numbers first.ports
  more_numbers = numbers_after n ss ∙ own

  pub stops_in : (a b c : List ℕ → Type 0) → Adds a b (text_of (gateway_lines first senders turns)) → FailsAmong n.core.moment (map (port_after n) ss) b c → StopsIn first senders hs turns a c
  stops_in a b c sofar fails =
      let s = stops n ss (gateway_lines first senders turns) a b c apart all sofar fails in
      (s.0, s.1, s.2, s.3, sym lines_are ∙ s.4, s.5, s.6)

-- A gateway's lines are those of the plain rule.
use Rattle.std.proofs.Common.{◌≡◌, ℕ, ◌<◌, List, [], ◌∷◌, ◌++◌, length, take, refl, sym, ap, subst, ◌∙◌}
use Rattle.sacn_node.specs.Setup.{Port, port_numbers}
use Rattle.sacn_node.specs.Cores.{Node, core_at}
use Rattle.sacn_node.specs.Calls.{Call, step, after_calls}
use Rattle.sacn_node.specs.Laws.{AnswersByThePlainRule, KeepsItsPorts, UsesTheGreatestMoment}
use Rattle.sacn_edge.specs.Additions.{Adds}
use Rattle.sacn_edge.specs.NodeText.{Turn, FrameLine, call_at, node_after, with_ports, line_text, text_of}
use Rattle.sacn_edge.proofs.Settling.{turn_settled}
use Rattle.sacn_edge.proofs.PlainTexts.{asked_stays, ports_same}
use Rattle.sacn_gateway.specs.declared.backlog.Backlog.{Backlog}
use Rattle.sacn_machine.specs.Hearings.{Hearing}
use Rattle.sacn_gateway.specs.GatewayTurns.{turns_of, heard_of, backlog_after}
use Rattle.sacn_gateway.specs.GatewayText.{gateway_after, gateway_lines}
use Rattle.sacn_gateway.specs.GatewayRun.{AreWhole, IsWhole, latest_reading}
use Rattle.sacn_gateway.specs.PlainGateway.{backlog_at, with_calls, calls_of, plain_lines, GatewayLinesAreByThePlainRule, GatewayTextIsByThePlainRule, GatewayStopsByThePlainRule}

pub backlog_same : (first : Node) (senders : List (List ℕ)) (turns : List (List Hearing)) → (gateway_after first senders turns).waits ≡ backlog_at turns
backlog_same first senders [] = refl
backlog_same first senders (hs ∷ turns) = ap (λ e. backlog_after e hs) (backlog_same first senders turns)

called : (ports : List Port) (ts : List Turn) (earlier : List Call) (n : Node) → after_calls ports earlier ≡ n → after_calls ports (with_calls ts earlier) ≡ node_after n ts
called ports [] earlier n is = is
called ports (t ∷ ts) earlier n is = ap (step (call_at t.now t.heard)) (called ports ts earlier n is)

-- after a turn nothing more is lost at its last reading
whole_settled : (senders : List (List ℕ)) (start : Backlog) (n : Node) (hs : List Hearing) → IsWhole hs
    → core_at (latest_reading hs) (node_after n (turns_of senders start hs)).core ≡ (node_after n (turns_of senders start hs)).core
whole_settled senders start n [] whole = absurd whole
whole_settled senders start n (h ∷ hs) whole =
    turn_settled h.now (heard_of senders (backlog_after start hs) h.now h.came) (node_after n (turns_of senders start hs)).core

-- the node after the calls of some turns
module _ (ports : List Port) (senders : List (List ℕ)) (before : List Call) where
  abbrev first : Node
  first = after_calls ports before

  abbrev came : List Hearing → List (List Hearing) → List Turn
  came hs turns = turns_of senders (backlog_at turns) hs

  node_same : (hs : List Hearing) (turns : List (List Hearing)) → (gateway_after first senders (hs ∷ turns)).node ≡ node_after (gateway_after first senders turns).node (came hs turns)
  node_same hs turns = ap (λ e. node_after (gateway_after first senders turns).node (turns_of senders e hs)) (backlog_same first senders turns)

  after_turns : (turns : List (List Hearing)) → AreWhole turns → after_calls ports (calls_of ports senders before turns) ≡ (gateway_after first senders turns).node
  after_turns [] whole = refl
  after_turns (hs ∷ turns) whole =
      let n = (gateway_after first senders turns).node in
      asked_stays ports (latest_reading hs) (port_numbers ports) (with_calls (came hs turns) (calls_of ports senders before turns)) (node_after n (came hs turns)) (whole_settled senders (backlog_at turns) n hs whole.0) (called ports (came hs turns) (calls_of ports senders before turns) n (after_turns turns whole.1))
      ∙ sym (node_same hs turns)

-- of all lines, one after the earlier ones was not written whole
abbrev StopsAmong : (List ℕ → Type 0) → (List ℕ → Type 0) → List FrameLine → List FrameLine → Type 0
StopsAmong old new all earlier =
    (unwritten : List FrameLine) × (l : FrameLine) × (written : List FrameLine) × (k : ℕ)
    × (all ≡ unwritten ++ l ∷ (written ++ earlier))
    × (k < length (line_text l))
    × Adds old new (text_of (written ++ earlier) ++ take k (line_text l))

module _ (answers : AnswersByThePlainRule) (keeps : KeepsItsPorts) (greatest : UsesTheGreatestMoment) where
  pub lines_same : GatewayLinesAreByThePlainRule
  lines_same ports senders before [] whole = refl
  lines_same ports senders before (hs ∷ turns) whole =
      let start = after_calls ports before in
      let n = (gateway_after start senders turns).node in
      let ts = turns_of senders (backlog_at turns) hs in
      let calls = calls_of ports senders before turns in
      let next = (gateway_after start senders (hs ∷ turns)).node in
      let earlier = plain_lines ports senders before turns in
      ap (λ ps. with_ports next (port_numbers ps) (gateway_lines start senders turns)) (keeps ports before)
      ∙ ap (with_ports next (port_numbers ports)) (lines_same ports senders before turns whole.1)
      ∙ ap (λ (m : Node). with_ports m (port_numbers ports) earlier) (node_same ports senders before hs turns)
      ∙ sym (ports_same answers keeps greatest ports (latest_reading hs) (port_numbers ports) (with_calls ts calls) (node_after n ts) earlier (whole_settled senders (backlog_at turns) n hs whole.0) (called ports ts calls n (after_turns ports senders before turns whole.1)))

  pub text_same : GatewayTextIsByThePlainRule
  text_same ports senders before turns whole = ap text_of (lines_same ports senders before turns whole)

  pub stops_same : GatewayStopsByThePlainRule
  stops_same ports senders before hs turns old new whole stops =
      let earlier : List FrameLine = gateway_lines (after_calls ports before) senders turns in
      let P : List FrameLine → Type 0 = λ all. StopsAmong (λ xs. xs ≡ old) (λ ys. ys ≡ new) all earlier in
      let Q : List FrameLine → Type 0 = λ ls. StopsAmong (λ xs. xs ≡ old) (λ ys. ys ≡ new) (plain_lines ports senders before (hs ∷ turns)) ls in
      subst Q (lines_same ports senders before turns whole.1) (subst P (lines_same ports senders before (hs ∷ turns) whole) stops)

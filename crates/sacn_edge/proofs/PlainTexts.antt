-- A node's lines are those of the plain rule.
use Rattle.std.proofs.Common.{◌≡◌, ℕ, ◌<◌, List, [], ◌∷◌, ◌++◌, length, take, refl, sym, ap, subst, ◌∙◌}
use Rattle.sacn_node.specs.Setup.{Port, port_numbers}
use Rattle.sacn_node.specs.Cores.{Node, Core, core_at, node_frame}
use Rattle.sacn_node.specs.Calls.{Call, Frame, step, after_calls, moment_in_use}
use Rattle.sacn_node.specs.PlainRule.{plain_rule}
use Rattle.sacn_node.specs.Laws.{AnswersByThePlainRule, KeepsItsPorts, UsesTheGreatestMoment}
use Rattle.sacn_edge.specs.NodeText.{Turn, FrameLine, call_at, node_after, with_frame, with_ports, line_text, lines_after, text_of}
use Rattle.sacn_edge.specs.Additions.{Adds}
use Rattle.sacn_edge.specs.PlainText.{asked, calls_of, frame_told, plain_ports, plain_lines, LinesAreByThePlainRule, StopsByThePlainRule, TextIsByThePlainRule}
use Rattle.sacn_edge.proofs.Settling.{turn_settled}

-- asking for a frame leaves a node as it is, where all that is lost is dropped
frame_stays : (now p : ℕ) (n : Node) → core_at now n.core ≡ n.core → step (Frame now p) n ≡ n
frame_stays now p n settled = ap (λ (c : Core). let m : Node = record { ports = n.ports; core = c } in m) settled

pub asked_stays : (ports : List Port) (now : ℕ) (ps : List ℕ) (earlier : List Call) (n : Node) → core_at now n.core ≡ n.core → after_calls ports earlier ≡ n → after_calls ports (asked now ps earlier) ≡ n
asked_stays ports now [] earlier n settled is = is
asked_stays ports now (p ∷ ps) earlier n settled is = asked_stays ports now ps (Frame now p ∷ earlier) n settled (ap (step (Frame now p)) is ∙ frame_stays now p n settled)

after_turns : (ports : List Port) (ps : List ℕ) (before : List Call) (ts : List Turn) → after_calls ports (calls_of ps before ts) ≡ node_after (after_calls ports before) ts
after_turns ports ps before [] = refl
after_turns ports ps before (t ∷ ts) =
    let n = node_after (after_calls ports before) ts in
    asked_stays ports t.now ps (call_at t.now t.heard ∷ calls_of ps before ts) (step (call_at t.now t.heard) n) (turn_settled t.now t.heard n.core) (ap (step (call_at t.now t.heard)) (after_turns ports ps before ts))

-- of all lines, one after the earlier ones was not written whole
abbrev StopsAmong : (List ℕ → Type 0) → (List ℕ → Type 0) → List FrameLine → List FrameLine → Type 0
StopsAmong old new all earlier =
    (unwritten : List FrameLine) × (l : FrameLine) × (written : List FrameLine) × (k : ℕ)
    × (all ≡ unwritten ++ l ∷ (written ++ earlier))
    × (k < length (line_text l))
    × Adds old new (text_of (written ++ earlier) ++ take k (line_text l))

module _ (answers : AnswersByThePlainRule) (keeps : KeepsItsPorts) (greatest : UsesTheGreatestMoment) where
  pub ports_same : (ports : List Port) (now : ℕ) (ps : List ℕ) (earlier : List Call) (n : Node) (ls : List FrameLine) → core_at now n.core ≡ n.core → after_calls ports earlier ≡ n → plain_ports ports now ps earlier ls ≡ with_ports n ps ls
  ports_same ports now [] earlier n ls settled is = refl
  ports_same ports now (p ∷ ps) earlier n ls settled is =
      let stays : after_calls ports (Frame now p ∷ earlier) ≡ n = ap (step (Frame now p)) is ∙ frame_stays now p n settled in
      let moment : moment_in_use (Frame now p ∷ earlier) ≡ n.core.moment = sym (greatest ports (Frame now p ∷ earlier)).0 ∙ ap (λ (m : Node). m.core.moment) stays in
      let frame : frame_told (plain_rule ports (Frame now p) earlier) ≡ node_frame p n = ap frame_told (sym (answers ports (Frame now p) earlier)) ∙ ap (node_frame p) stays in
      ap (λ m. plain_ports ports now ps (Frame now p ∷ earlier) (with_frame p m (frame_told (plain_rule ports (Frame now p) earlier)) ls)) moment
      ∙ ap (λ f. plain_ports ports now ps (Frame now p ∷ earlier) (with_frame p n.core.moment f ls)) frame
      ∙ ports_same ports now ps (Frame now p ∷ earlier) n (with_frame p n.core.moment (node_frame p n) ls) settled stays

  pub lines_same : LinesAreByThePlainRule
  lines_same ports before [] = refl
  lines_same ports before (t ∷ ts) =
      let first = after_calls ports before in
      let n = node_after first ts in
      let next = step (call_at t.now t.heard) n in
      ap (λ ps. with_ports next (port_numbers ps) (lines_after first ts)) (keeps ports before)
      ∙ ap (with_ports next (port_numbers ports)) (lines_same ports before ts)
      ∙ sym (ports_same ports t.now (port_numbers ports) (call_at t.now t.heard ∷ calls_of (port_numbers ports) before ts) next (plain_lines ports before ts) (turn_settled t.now t.heard n.core) (ap (step (call_at t.now t.heard)) (after_turns ports (port_numbers ports) before ts)))

  pub text_same : TextIsByThePlainRule
  text_same ports before ts = ap text_of (lines_same ports before ts)

  pub stops_same : StopsByThePlainRule
  stops_same ports before t ts old new stops =
      let earlier : List FrameLine = lines_after (after_calls ports before) ts in
      let P : List FrameLine → Type 0 = λ all. StopsAmong (λ xs. xs ≡ old) (λ ys. ys ≡ new) all earlier in
      let Q : List FrameLine → Type 0 = λ ls. StopsAmong (λ xs. xs ≡ old) (λ ys. ys ≡ new) (plain_lines ports before (t ∷ ts)) ls in
      subst Q (lines_same ports before ts) (subst P (lines_same ports before (t ∷ ts)) stops)

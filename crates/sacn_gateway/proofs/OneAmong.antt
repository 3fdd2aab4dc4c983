-- What a gateway writes of a node among others.
use Rattle.std.proofs.Common.{◌≡◌, ℕ, List, [], ◌∷◌, ◌++◌, length, drop, take, refl, sym, ap, subst, ◌∙◌, append_assoc, Option, None, Some, true, false, cond}
use Rattle.sacn_node.specs.Setup.{port_numbers}
use Rattle.sacn_node.specs.Cores.{Node, node_frame}
use Rattle.sacn_node.specs.Showings.{is_shown}
use Rattle.sacn_edge.specs.Additions.{Adds}
use Rattle.sacn_edge.specs.NodeText.{FrameLine, last_frame, with_frame, with_ports, line_text, text_of}
use Rattle.sacn_edge.proofs.PortLineLemmas.{append_nil}
use Rattle.sacn_machine.specs.Hearings.{Hearing}
use Rattle.sacn_gateway.specs.GatewayText.{gateway_after, gateway_lines, gateway_text}
use Rattle.sacn_gateway.specs.GatewayRun.{StopsIn}
use Rattle.sacn_gateway.specs.GatewaysText.{turn_text, turn_texts, gateways_text, own_text, OneStopsIn, NodesWriteAsAlone, OneWritesItsText, OneStopsAsItself}

-- ---- a turn adds to the text

frame_adds : (p m : ℕ) (f : Option (List ℕ)) (ls : List FrameLine) → (more : List ℕ) × (text_of (with_frame p m f ls) ≡ text_of ls ++ more)
frame_adds p m None ls = ([], sym (append_nil (text_of ls)))
frame_adds p m (Some f) ls =
    let l : FrameLine = record { port = p; moment = m; frame = f } in
    elim (is_shown (last_frame p ls) f) as (λ b. (more : List ℕ) × (text_of (cond b ls (l ∷ ls)) ≡ text_of ls ++ more)) [
      | true ↦ ([], sym (append_nil (text_of ls)))
      | false ↦ (line_text l, refl)
    ]

ports_add : (n : Node) (ps : List ℕ) (ls : List FrameLine) → (more : List ℕ) × (text_of (with_ports n ps ls) ≡ text_of ls ++ more)
ports_add n [] ls = ([], sym (append_nil (text_of ls)))
ports_add n (p ∷ ps) ls =
    let one = frame_adds p n.core.moment (node_frame p n) ls in
    let rest = ports_add n ps (with_frame p n.core.moment (node_frame p n) ls) in
    (one.0 ++ rest.0, rest.1 ∙ ap (λ t. t ++ rest.0) one.1 ∙ append_assoc (text_of ls) one.0 rest.0)

drop_first : {X : Type 0} (xs ys : List X) → drop (length xs) (xs ++ ys) ≡ ys
drop_first [] ys = refl
drop_first (x ∷ xs) ys = drop_first xs ys

turn_more : (core : Node) (senders : List (List ℕ)) (hs : List Hearing) (turns : List (List Hearing))
    → gateway_text core senders turns ++ turn_text core senders hs turns ≡ gateway_text core senders (hs ∷ turns)
turn_more core senders hs turns =
    let sofar = gateway_text core senders turns in
    let all = gateway_text core senders (hs ∷ turns) in
    let adds = ports_add (gateway_after core senders (hs ∷ turns)).node (port_numbers core.ports) (gateway_lines core senders turns) in
    ap (λ t. sofar ++ drop (length sofar) t) adds.1 ∙ ap (λ t. sofar ++ t) (drop_first sofar adds.0) ∙ sym adds.1

-- ---- the laws

pub as_alone : NodesWriteAsAlone
as_alone core senders [] = refl
as_alone core senders (hs ∷ turns) = ap (λ t. t ++ turn_text core senders hs turns) (as_alone core senders turns) ∙ turn_more core senders hs turns

pub one_text : OneWritesItsText
one_text core senders [] = refl
one_text core senders (hs ∷ turns) =
    ap (λ t. t ++ (turn_text core senders hs turns ++ [])) (one_text core senders turns)
    ∙ ap (λ t. gateway_text core senders turns ++ t) (append_nil (turn_text core senders hs turns))
    ∙ turn_more core senders hs turns

not_empty : {X : Type 0} (xs : List X) (y : X) (zs : List X) → [] ≡ xs ++ y ∷ zs → ⊥
not_empty [] y zs is = absurd (cc)
not_empty (x ∷ xs) y zs is = absurd (cc)

abbrev head_or : {X : Type 0} → X → List X → X
head_or d [] = d
head_or d (x ∷ xs) = x

-- of one node, it is that one, and there is none before it
sole : {X : Type 0} (x : X) (before : List X) (y : X) (after : List X) → x ∷ [] ≡ before ++ y ∷ after → (before ≡ []) × (y ≡ x)
sole x [] y after is = (refl, sym (ap (head_or y) is))
sole x (b ∷ before) y after is = absurd (not_empty before y after (ap (drop 1) is))

pub one_stops : OneStopsAsItself
one_stops core senders hs turns old new stops =
    let sofar = gateway_text core senders turns in
    let more = stops.3 in
    let only = sole core stops.0 stops.1 stops.2 stops.4 in
    let s = subst (λ (n : Node). StopsIn n senders hs turns (λ xs. xs ≡ []) (λ xs. xs ≡ gateway_text n senders turns ++ more)) only.1 stops.5 in
    let own = s.6 (sofar ++ more) refl in
    let text : List ℕ = text_of (s.2 ++ gateway_lines core senders turns) ++ take s.3 (line_text s.1) in
    let is : sofar ++ more ≡ text = own.2 ∙ ap (λ xs. xs ++ text) own.1 in
    let adds : Adds (λ xs. xs ≡ old) (λ xs. xs ≡ new) ((gateways_text (core ∷ []) senders turns ++ []) ++ more) =
    subst (λ (before : List Node). Adds (λ xs. xs ≡ old) (λ xs. xs ≡ new) ((gateways_text (core ∷ []) senders turns ++ turn_texts before senders hs turns) ++ more)) only.0 stops.6 in
    let same : (gateways_text (core ∷ []) senders turns ++ []) ++ more ≡ text =
    ap (λ t. t ++ more) (append_nil (gateways_text (core ∷ []) senders turns) ∙ one_text core senders turns) ∙ is in
    (s.0, s.1, s.2, s.3, s.4, s.5, subst (Adds (λ xs. xs ≡ old) (λ xs. xs ≡ new)) same adds)

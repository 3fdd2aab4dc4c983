-- What a gateway of several nodes writes: turn by turn, node by node, what a gateway of that node alone writes in that turn. Lists of turns
-- and hearings have the latest first.
use Rattle.std.specs.Prelude.{◌≡◌, ℕ, List, [], ◌∷◌, ◌++◌, drop, length}
use Rattle.sacn_node.specs.Cores.{Node}
use Rattle.sacn_edge.specs.Additions.{Adds}
use Rattle.sacn_machine.specs.Hearings.{Hearing}
use Rattle.sacn_gateway.specs.GatewayText.{gateway_text}
use Rattle.sacn_gateway.specs.GatewayRun.{StopsIn}

-- what a gateway of one node alone writes in the turn hs
abbrev pub turn_text : Node → List (List ℕ) → List Hearing → List (List Hearing) → List ℕ
turn_text core senders hs turns = drop (length (gateway_text core senders turns)) (gateway_text core senders (hs ∷ turns))

abbrev pub turn_texts : List Node → List (List ℕ) → List Hearing → List (List Hearing) → List ℕ
turn_texts [] senders hs turns = []
turn_texts (core ∷ cores) senders hs turns = turn_text core senders hs turns ++ turn_texts cores senders hs turns

abbrev pub gateways_text : List Node → List (List ℕ) → List (List Hearing) → List ℕ
gateways_text cores senders [] = []
gateways_text cores senders (hs ∷ turns) = gateways_text cores senders turns ++ turn_texts cores senders hs turns

-- of one of the nodes a line of the turn hs was not written whole: what is written has the text before it, and of this node's what a gateway of
-- it alone would have written more when it stopped there
abbrev pub OneStopsIn : List Node → List (List ℕ) → List Hearing → List (List Hearing) → (List ℕ → Type 0) → (List ℕ → Type 0) → Type 0
OneStopsIn cores senders hs turns old new =
    (before : List Node) × (core : Node) × (after : List Node) × (more : List ℕ)
    × (cores ≡ before ++ core ∷ after)
    × StopsIn core senders hs turns (λ xs. xs ≡ []) (λ xs. xs ≡ gateway_text core senders turns ++ more)
    × Adds old new ((gateways_text cores senders turns ++ turn_texts before senders hs turns) ++ more)

-- ---- laws

-- the part of a node in the text, turn by turn
abbrev pub own_text : Node → List (List ℕ) → List (List Hearing) → List ℕ
own_text core senders [] = []
own_text core senders (hs ∷ turns) = own_text core senders turns ++ turn_text core senders hs turns

-- what is written of a node among others is what a gateway of it alone writes
abbrev pub NodesWriteAsAlone : Type 0
NodesWriteAsAlone =
    (core : Node) (senders : List (List ℕ)) (turns : List (List Hearing)) → own_text core senders turns ≡ gateway_text core senders turns

-- the text of one node is that node's
abbrev pub OneWritesItsText : Type 0
OneWritesItsText =
    (core : Node) (senders : List (List ℕ)) (turns : List (List Hearing)) → gateways_text (core ∷ []) senders turns ≡ gateway_text core senders turns

-- and it stops as that node does
abbrev pub OneStopsAsItself : Type 0
OneStopsAsItself =
    (core : Node) (senders : List (List ℕ)) (hs : List Hearing) (turns : List (List Hearing)) (old new : List ℕ)
    → OneStopsIn (core ∷ []) senders hs turns (λ xs. xs ≡ old) (λ xs. xs ≡ new)
    → StopsIn core senders hs turns (λ xs. xs ≡ old) (λ xs. xs ≡ new)

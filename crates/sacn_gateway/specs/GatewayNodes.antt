-- What the nodes of a gateway become in a receive, in a turn, and over a run. Each hears all that the gateway hears.
use Rattle.std.specs.Prelude.{◌≡◌, ℕ, List, [], ◌∷◌, ◌++◌, ◌<◌, ◌≤◌, ⊤, map, Option}
use Rattle.std.specs.List.Sorted.{IsStrictlyIncreasing}
use Rattle.sacn_edge.specs.Additions.{Adds}
use Rattle.sacn_edge.specs.PortLines.{FailsAmong, ports_text}
use Rattle.sacn_node.specs.Cores.{Node, core_lost}
use Rattle.sacn_node.specs.Setup.{port_numbers}
use Rattle.sacn_node.specs.Showings.{IsShowingOf, IsNewsOf, ports_of, news_of, port_after, unseen}
use Rattle.sacn_machine.specs.Hearings.{Hearing}
use Rattle.sacn_machine.specs.declared.device.Offer.{Offer}
use Rattle.sacn_gateway.specs.declared.nodes.GatewayNode.{GatewayNode}
use Rattle.sacn_gateway.specs.GatewayText.{gateway_after}
use Rattle.sacn_gateway.specs.Interfaces.{AreOffered, IsServed, Pairwise, earliest}

abbrev pub cores_of : {D : Type 0} → List (GatewayNode D) → List Node
cores_of [] = []
cores_of (n ∷ ns) = n.core ∷ cores_of ns

-- what each shows is kept as its core is
abbrev pub AreShown : {D : Type 0} → List (GatewayNode D) → Type 0
AreShown [] = ⊤
AreShown (n ∷ ns) = IsShowingOf n.showing n.core × AreShown ns

-- none of its ports was looked at
abbrev pub HasBegun : {D : Type 0} → GatewayNode D → GatewayNode D → Type 0
HasBegun old new =
    (new.core ≡ old.core)
    × IsStrictlyIncreasing (port_numbers old.core.ports)
    × (ports_of new.showing ≡ map unseen (port_numbers old.core.ports))
    × IsShowingOf new.showing new.core
    × (new.interfaces.items ≡ old.interfaces.items)

-- something came to its core
abbrev pub IsMoved : {D : Type 0} → (Node → Node) → GatewayNode D → GatewayNode D → Type 0
IsMoved by old new =
    (new.core ≡ by old.core)
    × IsShowingOf new.showing new.core
    × (ports_of new.showing ≡ ports_of old.showing)
    × (new.interfaces.items ≡ old.interfaces.items)

-- its ports were looked at
abbrev pub IsLooked : {D : Type 0} → GatewayNode D → GatewayNode D → Type 0
IsLooked old new =
    (new.core ≡ old.core)
    × (ports_of new.showing ≡ map (port_after old.core) (ports_of old.showing))
    × IsShowingOf new.showing new.core
    × IsNewsOf (news_of new.showing) (ports_of new.showing)
    × (new.interfaces.items ≡ old.interfaces.items)

-- its interfaces were offered what is due at this reading
abbrev pub IsNodeServed : {D : Type 0} → (D → Option (List Offer)) → ℕ → GatewayNode D → GatewayNode D → Type 0
IsNodeServed told now old new =
    (new.core ≡ old.core)
    × (new.showing ≡ old.showing)
    × Pairwise (IsServed told now (ports_of old.showing)) old.interfaces.items new.interfaces.items

-- over a run: its core is that of a gateway of this node alone that heard the same, and so is what its interfaces were offered, over the
-- turns in which they were
abbrev pub IsAsAlone : {D : Type 0} → (D → Option (List Offer)) → List (List ℕ) → List (List Hearing) → List (List Hearing) → GatewayNode D → GatewayNode D → Type 0
IsAsAlone told senders heard served old new =
    (new.core ≡ (gateway_after old.core senders heard).node)
    × AreOffered told old.core senders served old.interfaces.items new.interfaces.items

-- ---- lines

-- what is written of a node after a look
abbrev pub news_text : {D : Type 0} → GatewayNode D → List ℕ
news_text n = ports_text n.core.core.moment (news_of n.showing)

abbrev pub news_texts : {D : Type 0} → List (GatewayNode D) → List ℕ
news_texts [] = []
news_texts (n ∷ ns) = news_text n ++ news_texts ns

-- the texts of some nodes were written, and of the next node's the texts of some ports and a proper part of that of the next port
abbrev pub FailsAtOne : {D : Type 0} → List (GatewayNode D) → (List ℕ → Type 0) → (List ℕ → Type 0) → Type 0
FailsAtOne {D} ns old new =
    (done : List (GatewayNode D)) × (n : GatewayNode D) × (rest : List (GatewayNode D)) × (more : List ℕ)
    × (ns ≡ done ++ n ∷ rest)
    × FailsAmong n.core.core.moment (news_of n.showing) (λ xs. xs ≡ []) (λ xs. xs ≡ more)
    × Adds old new (news_texts done ++ more)

-- ---- how long is waited

-- up to this moment it loses no source, and no packet of an interface is due before it, where they are asked up to the latest
abbrev pub Sleeps : {D : Type 0} → ℕ → ℕ → ℕ → GatewayNode D → Type 0
Sleeps now latest wake n = ((t : ℕ) → t < wake → core_lost t n.core.core ≡ 0) × (wake ≤ earliest n.interfaces.items now latest)

abbrev pub AllSleep : {D : Type 0} → ℕ → ℕ → ℕ → List (GatewayNode D) → Type 0
AllSleep now latest wake [] = ⊤
AllSleep now latest wake (n ∷ ns) = Sleeps now latest wake n × AllSleep now latest wake ns

-- What a node shows on its ports, look by look, and what may have changed since the latest look.
use Rattle.std.specs.Prelude.{◌≡◌, ◌==◌, ◌||◌, ◌⊎◌, ℕ, Bool, false, not, List, [], ◌∷◌, map, Option, None, Some, ⊤, if◌then◌else◌}
use Rattle.std.specs.Bool.{nat_eq}
use Rattle.std.specs.Coded.{Coded-set, coded_bool, coded_ℕ, coded_list, coded_option, ×_prop, →_prop, Unit-prop}
use Rattle.std.specs.Cmp.Lexicographic.{pointwise}
use Rattle.std.specs.List.{list_any}
use Rattle.sacn_node.specs.declared.showing.Showing.{Showing}
use Rattle.sacn_node.specs.declared.port_frame.PortFrame.{PortFrame}
use Rattle.sacn_node.specs.Setup.{port_numbers}
use Rattle.sacn_node.specs.Cores.{Node, node_frame}
use Rattle.sacn_node.specs.Changes.{node_shows}

-- ---- a port

unfoldable pub same : List ℕ → List ℕ → Bool
same a b = pointwise nat_eq a b

-- this frame is that of the latest look
abbrev pub is_shown : Option (List ℕ) → List ℕ → Bool
is_shown None frame = false
is_shown (Some last) frame = same last frame

-- a port that wasn't looked at yet
abbrev pub unseen : ℕ → PortFrame
unseen port = record { port = port; last = None; is_new = false }

-- a port after a look that found this frame, or none
abbrev pub with_found : PortFrame → Option (List ℕ) → PortFrame
with_found p None = record { port = p.port; last = p.last; is_new = false }
with_found p (Some frame) = record { port = p.port; last = Some frame; is_new = not (is_shown p.last frame) }

-- a port of a node after a look
abbrev pub port_after : Node → PortFrame → PortFrame
port_after n p = with_found p (node_frame p.port n)

-- ---- all ports, and what may have changed

abbrev pub ports_of : Showing → List PortFrame
ports_of s = s.ports.items

-- a port has a new frame
abbrev pub news_in : List PortFrame → Bool
news_in ps = list_any (λ p. p.is_new) ps

-- the ports, where one may have a new frame
abbrev pub news_of : Showing → List PortFrame
news_of s = if s.has_news then s.ports.items else []

-- these are the ports, or none where no port has a new frame
abbrev pub IsNewsOf : List PortFrame → List PortFrame → Type 0
IsNewsOf news ps = (news ≡ ps) ⊎ ((news ≡ []) × (news_in ps ≡ false))

-- the slots of a universe may have changed
abbrev pub changes_universe : Showing → ℕ → Bool
changes_universe s u = s.all || list_any (λ v. v == u) s.universes.items

-- the frame of a port may have changed
abbrev pub concerns : Bool → List ℕ → Node → ℕ → Bool
concerns all universes n port = all || node_shows port universes n

-- a port's frame is that of the latest look
abbrev pub IsCurrent : Node → PortFrame → Type 0
IsCurrent n p = (with_found p (node_frame p.port n)).last ≡ p.last

-- so is that of each port, unless it may have changed
abbrev pub AreCurrentBut : Bool → List ℕ → Node → List PortFrame → Type 0
AreCurrentBut all universes n [] = ⊤
AreCurrentBut all universes n (p ∷ ps) = (concerns all universes n p.port ≡ false → IsCurrent n p) × AreCurrentBut all universes n ps

-- the ports are those of the node, and what is noted is all that changed since the latest look
pub record IsShowingOf (s : Showing) (n : Node) : Type 0 where
  pub numbers : map (λ p. p.port) s.ports.items ≡ port_numbers n.ports
  pub current : AreCurrentBut s.all s.universes.items n s.ports.items
  pub quiet : s.has_news ≡ false → news_in s.ports.items ≡ false

-- which is said in one way at most
AreCurrentBut-prop : (all : Bool) (universes : List ℕ) (n : Node) (ps : List PortFrame) → IsProp (AreCurrentBut all universes n ps)
AreCurrentBut-prop all universes n [] = Unit-prop
AreCurrentBut-prop all universes n (p ∷ ps) = ×_prop (→_prop (Coded-set (coded_option (coded_list coded_ℕ)) _ _)) (AreCurrentBut-prop all universes n ps)

pub IsShowingOf-prop : (s : Showing) (n : Node) → IsProp (IsShowingOf s n)
IsShowingOf-prop s n x y = λ i. record {
  numbers = Coded-set (coded_list coded_ℕ) _ _ x.numbers y.numbers i;
  current = AreCurrentBut-prop s.all s.universes.items n s.ports.items x.current y.current i;
  quiet = →_prop (Coded-set coded_bool _ _) x.quiet y.quiet i;
}

-- Which packets are shown, as a set.
use Rattle.std.specs.Prelude.{◌≡◌, ◌↔◌, ℕ, true, List, slice_get, Some, Contains}
use Rattle.sacn_world.specs.Streams.{Sent, at, is_live, stream_of}
use Rattle.sacn_world.specs.Holdings.{Hold}
use Rattle.sacn_world.specs.Nodes.{Holding, Node, holding_of}
use Rattle.sacn_world.specs.Worlds.{World}

-- the live packet at place q of the stream of s and u is held
pub record IsShown (u : ℕ) (sent : List Sent) (hs : List Hold) (s : List ℕ) (q : ℕ) : Type 0 where
  pub hold : Hold
  pub held : Contains hs hold
  pub source : hold.source ≡ s
  pub place : hold.place ≡ q
  pub live : is_live (at (stream_of s u sent) q) ≡ true

-- the same places of the same sources are shown
abbrev pub SameShown : ℕ → List Sent → List Hold → List Sent → List Hold → Type 0
SameShown u sent hs later gs = (s : List ℕ) (q : ℕ) → IsShown u sent hs s q ↔ IsShown u later gs s q

-- what node i holds on universe u
pub record HeldOn (w : World) (i u : ℕ) (hs : List Hold) : Type 0 where
  pub node : Node
  pub is_node : slice_get w.nodes i ≡ Some node
  pub holding : Holding
  pub is_holding : holding_of u node.holdings ≡ Some holding
  pub holds : holding.held ≡ hs

-- A universe whose levels are shown, and who gives them.
use Rattle.std.specs.Prelude.{ℕ, List, map, replicate, Option, None, option_and_then}
use Rattle.sacn_monitor.specs.Books.{place_of}
use Rattle.sacn_monitor.specs.declared.stream.Stream.{Stream}
use Rattle.sacn_sources.specs.LatestMerge.{Kept, new_kept}

-- which it is, its sources as a node holds them, the levels that are shown, and the CID of the source that gives each
pub record Lit : Type 0 where
  pub universe : ℕ
  pub sources : Kept
  pub shown : List ℕ
  pub givers : List (Option (List ℕ))

-- a universe of which nothing was heard
abbrev pub nothing_lit : ℕ → Lit
nothing_lit universe = record { universe = universe; sources = new_kept; shown = replicate 512 0; givers = replicate 512 None }

-- the place of a giver's stream on its universe
abbrev pub giver_place : ℕ → List Stream → Option (List ℕ) → Option ℕ
giver_place universe ss giver = option_and_then (λ cid. place_of universe cid ss) giver

-- slot by slot
abbrev pub giver_places : ℕ → List Stream → List (Option (List ℕ)) → List (Option ℕ)
giver_places universe ss givers = map (giver_place universe ss) givers

-- Which source of a node is lost next, if no packet comes (E1.31, 6.7.1).
use Rattle.std.specs.Prelude.{ℕ, List}
use Rattle.sacn_sources.specs.Wakes.{oldest_by, oldest_of}
use Rattle.sacn_node.specs.Cores.{Table}

-- the moment of the row of all tables that was renewed the longest ago
abbrev pub oldest_in : List Table → ℕ
oldest_in gs = oldest_by (λ g. oldest_of g.rows) gs

-- How a node stores its ports and its tables.
use Rattle.std.specs.Prelude.{ℕ, ◌-◌, ◌<◌, ◌≤◌, max, List, length, map, All, AllPairs}
use Rattle.std.specs.List.{sum_by, AllByRecursion}
use Rattle.std.specs.List.Sorted.{IsStrictlyIncreasing}
use Rattle.sacn_sources.specs.Rows.{rows_lost}
use Rattle.sacn_sources.specs.LatestMerge.{new_kept, kept_after_expire}
use Rattle.sacn_node.specs.declared.tables.OneUniverse.{OneUniverse}
use Rattle.sacn_node.specs.declared.limits.TheConstants.{MAX_PORTS, MAX_UNIVERSES}
use Rattle.sacn_node.specs.Setup.{Port, port_numbers}
use Rattle.sacn_node.specs.Ports.{IsShown}
use Rattle.sacn_node.specs.Cores.{Table, Core}
use Rattle.sacn_node.specs.Wakes.{oldest_in}
use Rattle.sacn_sources.specs.declared.limits.TheConstants.{NETWORK_DATA_LOSS}

abbrev pub seen : OneUniverse → Table
seen o = record { universe = o.universe; rows = o.table.table.rows }

abbrev pub core_of : ℕ → List OneUniverse → Core
core_of moment os = record { moment = moment; tables = map seen os }

abbrev pub new_one : ℕ → OneUniverse
new_one u = record { universe = u; table = new_kept }

abbrev pub one_expired : ℕ → OneUniverse → OneUniverse
one_expired now o = record { universe = o.universe; table = kept_after_expire now o.table }

abbrev pub lost_in : ℕ → List OneUniverse → ℕ
lost_in now os = sum_by (λ o. rows_lost (max o.table.table.moment now) o.table.table.rows) os

-- the universes strictly rise, no table was handed a later moment than the node, no row was renewed before the moment
-- `earliest`, and one that was renewed at it isn't lost yet
pub record AreTables (moment earliest : ℕ) (os : List OneUniverse) : Type 0 where
  pub rising : AllPairs (λ a b. a.universe < b.universe) os
  pub moments : AllByRecursion (λ o. o.table.table.moment ≤ moment) os
  pub few : length os ≤ MAX_UNIVERSES
  pub rows : earliest ≤ oldest_in (map seen os)
  pub past : earliest ≤ moment
  pub young : moment - earliest < NETWORK_DATA_LOSS

-- the numbers rise, they are few, and each range can be shown
pub record ArePorts (ps : List Port) : Type 0 where
  pub rising : IsStrictlyIncreasing (port_numbers ps)
  pub few : length ps ≤ MAX_PORTS
  pub shown : All (λ p. All IsShown p.ranges) ps

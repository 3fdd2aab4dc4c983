-- What is lost next, if no packet comes (E1.31, 6.7.1).
use Rattle.std.specs.Prelude.{◌≡◌, ℕ, ◌-◌, ◌<◌, ◌≤◌, ◌⊎◌, nat_lt, not, max, Bool, true, false, List}
use Rattle.std.specs.List.{list_any}
use Rattle.sacn_sources.specs.Rows.{rows_lost}
use Rattle.sacn_sources.specs.Wakes.{oldest_by}
use Rattle.sacn_sources.specs.declared.limits.TheConstants.{NETWORK_DATA_LOSS}
use Rattle.sacn_slots.specs.SlotTables.{SlotSources}
use Rattle.sacn_slots.specs.declared.given.Given.{Given}

-- the moment of what was given the longest ago
abbrev pub oldest_given : List Given → ℕ
oldest_given gs = oldest_by (λ (g : Given). g.moment) gs

-- what was given is as old as a source that is lost
abbrev pub is_old : ℕ → Given → Bool
is_old t g = not (nat_lt (t - g.moment) NETWORK_DATA_LOSS)

-- nothing that was given is lost yet
abbrev pub IsYoung : ℕ → List Given → Type 0
IsYoung t gs = t - oldest_given gs < NETWORK_DATA_LOSS

-- at this moment no source is lost, and nothing that was given for slots
pub record NothingIsLost (s : SlotSources) (t : ℕ) : Type 0 where
  pub sources : rows_lost (max s.sources.table.moment t) s.sources.table.rows ≡ 0
  pub given : list_any (is_old (max s.sources.table.moment t)) s.given ≡ false

-- at this moment a source is lost, or something that was given for slots
abbrev pub SomethingIsLost : SlotSources → ℕ → Type 0
SomethingIsLost s t = (1 ≤ rows_lost (max s.sources.table.moment t) s.sources.table.rows) ⊎ (list_any (is_old (max s.sources.table.moment t)) s.given ≡ true)

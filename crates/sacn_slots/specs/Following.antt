-- What one source more changes in a slot. A slot in which no source takes part is kept as priority 0 and level 0.
use Rattle.std.specs.Prelude.{ℕ, max, nat_lt, ◌==◌, Option, Some, None, if◌then◌else◌}
use Rattle.sacn_packets.specs.declared.universe.TheConstants.{MAX_PRIORITY}
use Rattle.sacn_sources.specs.Merge.{Shown, level}

-- the level of a slot, 0 where nothing is shown
abbrev pub level_shown : ℕ → Option Shown → ℕ
level_shown slot None = 0
level_shown slot (Some shown) = level slot shown

-- the level that is followed of two, each with its priority: that of the greater priority, and of equals the higher
abbrev pub level_followed : ℕ → ℕ → ℕ → ℕ → ℕ
level_followed priority level other_priority other = if nat_lt priority other_priority then other else if nat_lt other_priority priority then level else max level other

-- the priority of a slot as it counts: 0 above the greatest of a source
abbrev pub counted : ℕ → ℕ
counted priority = if nat_lt MAX_PRIORITY priority then 0 else priority

-- the level of a slot as it counts, by the priority that was given for it
abbrev pub level_counted : ℕ → ℕ → ℕ
level_counted priority level = if counted priority == 0 then 0 else level

-- How steep a fade is: it is reckoned as the fade begins, so that a level costs a product and no quotient.
use Rattle.std.specs.Prelude.{ℕ, ◌+◌, ◌-◌, ◌*◌, ◌/◌, nat_lt, ◌||◌, ◌==◌, if◌then◌else◌}
use Rattle.sacn_cues.specs.declared.slope.TheConstants.{PARTS, LONGEST}

-- how far one level is from the other
abbrev pub distance : ℕ → ℕ → ℕ
distance from to = (from - to) + (to - from)

-- by how many parts of a step of level so great a distance moves in a millisecond, rounded up
unfoldable pub steepness : ℕ → ℕ → ℕ
steepness far time = (far * PARTS + (time - 1)) / time

-- 0 for a fade at once, and for one of which this would not be exact
unfoldable pub slope_of : ℕ → ℕ → ℕ → ℕ
slope_of from to time = if time == 0 || nat_lt LONGEST time then 0 else steepness (distance from to) time

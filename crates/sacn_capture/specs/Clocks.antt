-- Moments from a clock's ticks.
use Rattle.std.specs.Prelude.{ℕ, ◌+◌, ◌*◌, ◌/◌, ◌-◌, ◌^◌, [], ◌∷◌, min, nat_lt, Option, None, Some, Result, if◌then◌else◌}
use Rattle.sacn_capture.specs.declared.clock.Shift.{Shift}
use Rattle.sacn_capture.specs.declared.clock.Shift.TheVariants.{Later, Earlier}
use Rattle.sacn_capture.specs.declared.faults.FaultKind.{FaultKind}
use Rattle.sacn_capture.specs.declared.faults.FaultKind.TheVariants.{Resolution}
use Rattle.sacn_capture.specs.Check.{checked}

-- whole milliseconds, at most what 64 bits hold
abbrev pub milliseconds : ℕ → ℕ → ℕ
milliseconds ticks units = min (ticks * 1000 / units) (2 ^ 64 - 1)

-- the ticks of a second, by the octet of if_tsresol
abbrev pub units_of : ℕ → ℕ
units_of resolution = if nat_lt resolution 128 then 10 ^ resolution else 2 ^ (resolution - 128)

abbrev pub reading_units : ℕ → Result ℕ FaultKind
reading_units resolution = checked ((nat_lt (units_of resolution) (2 ^ 64), Resolution) ∷ []) (units_of resolution)

-- the seconds of if_tsoffset: 64 bits in two's complement
abbrev pub shift_of : ℕ → Shift
shift_of seconds = if nat_lt seconds (2 ^ 63) then Later seconds else Earlier (2 ^ 64 - seconds)

-- a moment of a clock so many seconds later or earlier, from 0 to what 64 bits hold
abbrev pub shifted : Option Shift → ℕ → ℕ
shifted None moment = moment
shifted (Some (Later seconds)) moment = min (moment + seconds * 1000) (2 ^ 64 - 1)
shifted (Some (Earlier seconds)) moment = moment - seconds * 1000

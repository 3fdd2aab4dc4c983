-- How fast a recording is played, in thousandths of the speed at which it was made.
use Rattle.std.specs.Prelude.{ℕ, nat_le, ◌&&◌, Result, Ok, Err, if◌then◌else◌}
use Rattle.sacn_replay.specs.declared.fault.ReplayFault.{ReplayFault}
use Rattle.sacn_replay.specs.declared.fault.ReplayFault.TheVariants.{SpeedRange}

-- 1 to 1 000 000 thousandths are a speed
abbrev pub speed_with : ℕ → Result ℕ ReplayFault
speed_with n = if nat_le 1 n && nat_le n 1000000 then Ok n else Err SpeedRange

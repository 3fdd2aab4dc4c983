-- A clock that stands still while this program doesn't run. Moments are milliseconds.
use Rattle.std.specs.Prelude.{ℕ, ◌+◌, ◌-◌, Bool, nat_lt, max, if◌then◌else◌}
use Rattle.sacn_watch.specs.declared.running.TheConstants.{MOST_BETWEEN}

-- the latest reading of the machine's clock, for how long the program was stopped in all, and how much of that was told
pub record RunningTime : Type 0 where
  pub latest : ℕ
  pub stopped : ℕ
  pub told : ℕ

-- this clock's own reading
abbrev pub reading : RunningTime → ℕ
reading c = c.latest - c.stopped

-- the machine's clock went on by more than a running program leaves between two readings
abbrev pub is_stop : ℕ → ℕ → Bool
is_stop latest now = nat_lt MOST_BETWEEN (now - latest)

-- the machine's clock was read: what a stop took isn't counted
abbrev pub after_reading : ℕ → RunningTime → RunningTime
after_reading now c = record {
  latest = max c.latest now;
  stopped = if is_stop c.latest now then c.stopped + (now - c.latest) else c.stopped;
  told = c.told;
}

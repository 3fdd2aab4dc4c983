-- How many packets there were in a second, by whole seconds of the clock.
use Rattle.std.specs.Prelude.{ℕ, ◌+◌, ◌/◌, ◌==◌, if◌then◌else◌}
use Rattle.sacn_monitor.specs.declared.rate.Rate.{Rate}
use Rattle.sacn_monitor.specs.Kinds.{more}

abbrev pub second_of : ℕ → ℕ
second_of t = t / 1000

abbrev pub first_rate : ℕ → Rate
first_rate t = record { second = second_of t; count = 1; before = 0 }

-- a packet more at t
abbrev pub rate_after : ℕ → Rate → Rate
rate_after t r =
    if second_of t == r.second
    then record r { count = more 1 r.count }
    else record { second = second_of t; count = 1; before = if second_of t == r.second + 1 then r.count else 0 }

-- the packets of the last whole second before t
abbrev pub last_second : ℕ → Rate → ℕ
last_second t r = if second_of t == r.second then r.before else (if second_of t == r.second + 1 then r.count else 0)

-- How long what is received can have waited.
use Rattle.std.specs.Prelude.{ℕ, suc, ◌-◌, Bool, nat_lt, if◌then◌else◌}
use Rattle.sacn_gateway.specs.declared.backlog.Backlog.{Backlog}
use Rattle.sacn_sources.specs.declared.limits.TheConstants.{NETWORK_DATA_LOSS}
use Rattle.sacn_gateway.specs.declared.limits.TheConstants.{MOST_WAITING}

-- nothing waits at a reading, so what is received later came after it
abbrev pub nothing_waits : ℕ → Backlog
nothing_waits now = record { emptied = now; mark = now; received = 0 }

-- a datagram was received at a reading: once more were received since the mark than can have waited then, the next ones came after the mark
abbrev pub with_datagram : ℕ → Backlog → Backlog
with_datagram now b =
    if nat_lt b.received MOST_WAITING then record { emptied = b.emptied; mark = b.mark; received = suc b.received }
    else record { emptied = b.mark; mark = now; received = 0 }

-- what is received now may have waited for longer than the network data loss time
abbrev pub is_late : Backlog → ℕ → Bool
is_late b now = nat_lt NETWORK_DATA_LOSS (now - b.emptied)

-- What ends by silence, each thing at its own moment.
use Rattle.std.specs.Prelude.{ℕ, zero, suc, ◌+◌, ◌-◌, ◌^◌, min, max, is_some, List, [], ◌∷◌, ◌++◌, slice_get, Option, None, Some, if◌then◌else◌}
use Rattle.sacn_sources.specs.declared.limits.TheConstants.{NETWORK_DATA_LOSS}
use Rattle.sacn_monitor.specs.declared.news.Noted.{Noted}
use Rattle.sacn_monitor.specs.declared.news.Noted.TheVariants as noted
use Rattle.sacn_monitor.specs.declared.stream.Stream.{Stream}
use Rattle.sacn_monitor.specs.Books.{after_tick, next_loss, silent_place}
use Rattle.sacn_network.specs.declared.ledger.Ledger.{Ledger}
use Rattle.sacn_network.specs.Telling.{Told, told_now}
use Rattle.sacn_network.specs.declared.occurrence.What.TheVariants.{Lost}
use Rattle.sacn_network.specs.Contests.{contest_in, universe_of, with_contest_in}

-- the clock at the next loss, or at t where that comes first
abbrev pub next_end : ℕ → Ledger → ℕ
next_end t n = min t (next_loss n.monitor.streams)

abbrev pub at_end : ℕ → Ledger → Ledger
at_end t n = record n { monitor = after_tick (next_end t n) n.monitor }

-- the place of the first stream that is lost then, if there is one
unfoldable pub lost_place : ℕ → Ledger → Option ℕ
lost_place t n = silent_place (max n.monitor.moment (next_end t n)) n.monitor.streams

-- its loss, and then the contest of its universe
abbrev pub loss_told : Option ℕ → Ledger → List Told
loss_told None n = []
loss_told (Some place) n = told_now (Lost place) n.monitor ∷ contest_in (universe_of (slice_get n.monitor.streams place)) n

abbrev pub after_loss : Option ℕ → Ledger → Ledger
after_loss None n = n
after_loss (Some place) n = with_contest_in (universe_of (slice_get n.monitor.streams place)) n

unfoldable pub end_told : ℕ → Ledger → List Told
end_told t n = loss_told (lost_place t n) (at_end t n)

unfoldable pub after_end : ℕ → Ledger → Ledger
after_end t n = after_loss (lost_place t n) (at_end t n)

-- one loss after the other, each no later than t, so many steps at most; the last step finds none, and leaves the clock at t
unfoldable pub silence_told : ℕ → ℕ → Ledger → List Told
silence_told zero t n = []
silence_told (suc steps) t n = end_told t n ++ (if is_some (lost_place t n) then silence_told steps t (after_end t n) else [])

unfoldable pub silenced : ℕ → ℕ → Ledger → Ledger
silenced zero t n = n
silenced (suc steps) t n = if is_some (lost_place t n) then silenced steps t (after_end t n) else after_end t n

-- ---- a packet keeps its stream for a while

abbrev pub lost_from : Option Stream → ℕ
lost_from None = 2 ^ 64 - 1
lost_from (Some s) = min (s.account.latest + NETWORK_DATA_LOSS) (2 ^ 64 - 1)

-- before this moment the stream of a packet isn't lost
abbrev pub soonest_loss : Noted → List Stream → ℕ
soonest_loss (noted.Heard place news) ss = lost_from (slice_get ss place)
soonest_loss (noted.Refused fault) ss = 2 ^ 64 - 1
soonest_loss noted.Page ss = 2 ^ 64 - 1
soonest_loss noted.Sync ss = 2 ^ 64 - 1
soonest_loss noted.Untracked ss = 2 ^ 64 - 1

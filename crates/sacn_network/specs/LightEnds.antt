-- Lights that go out while their sources are heard on: a node loses levels 2500 ms after the latest of them (E1.31, 6.7.1), whatever else comes.
use Rattle.std.specs.Prelude.{ℕ, zero, suc, ◌+◌, ◌-◌, ◌^◌, min, nat_lt, Bool, ◌||◌, is_some, List, [], ◌∷◌, ◌++◌, Option, None, Some, if◌then◌else◌}
use Rattle.sacn_monitor.specs.declared.stream.Stream.{Stream}
use Rattle.sacn_monitor.specs.Holdings.{light_end}
use Rattle.sacn_monitor.specs.Books.{Book, next_light_end, next_loss}
use Rattle.sacn_network.specs.declared.ledger.Ledger.{Ledger}
use Rattle.sacn_network.specs.declared.ledger.TheConstants.{MOST_STEPS}
use Rattle.sacn_network.specs.Telling.{Told}
use Rattle.sacn_network.specs.Contests.{contest_in, with_contest_in}
use Rattle.sacn_network.specs.Losses.{lost_place, silence_told, silenced}

-- the next light goes out at this moment
abbrev pub light_end_of : Book → ℕ
light_end_of b = next_light_end b.moment b.streams

-- the first moment at which something ends by itself: a stream, or a light
abbrev pub first_end : Book → ℕ
first_end b = min (next_loss b.streams) (light_end_of b)

-- a moment comes by t; the last moment of all never comes
abbrev pub comes_by : ℕ → ℕ → Bool
comes_by t moment = nat_lt moment (min (t + 1) (2 ^ 64 - 1))

-- the universe of a source, where its light, which was on at one moment, is out by another
abbrev pub out_universe : ℕ → ℕ → Option Stream → Option ℕ
out_universe before t None = None
out_universe before t (Some s) = if comes_by t (light_end before s.account.holding) then Some s.universe else None

-- the contests of the universes of these sources, where their lights went out since a moment
unfoldable pub outs_told : ℕ → List Stream → Ledger → List Told
outs_told before [] n = []
outs_told before (s ∷ ss) n = let o = out_universe before n.monitor.moment (Some s) in contest_in o n ++ outs_told before ss (with_contest_in o n)

unfoldable pub after_outs : ℕ → List Stream → Ledger → Ledger
after_outs before [] n = n
after_outs before (s ∷ ss) n = after_outs before ss (with_contest_in (out_universe before n.monitor.moment (Some s)) n)

-- up to t, when the next light goes out: the losses, and then the contests
unfoldable pub light_told : ℕ → Ledger → List Told
light_told t n = let m = silenced MOST_STEPS t n in silence_told MOST_STEPS t n ++ outs_told n.monitor.moment m.monitor.streams m

unfoldable pub after_light : ℕ → Ledger → Ledger
after_light t n = let m = silenced MOST_STEPS t n in after_outs n.monitor.moment m.monitor.streams m

-- one such moment after the other, each no later than t, so many at most; and then the losses up to t
unfoldable pub ends_told : ℕ → ℕ → Ledger → List Told
ends_told zero t n = silence_told MOST_STEPS t n
ends_told (suc steps) t n =
    let at = light_end_of n.monitor in
    if comes_by t at then light_told at n ++ ends_told steps t (after_light at n) else silence_told MOST_STEPS t n

unfoldable pub after_ends : ℕ → ℕ → Ledger → Ledger
after_ends zero t n = silenced MOST_STEPS t n
after_ends (suc steps) t n = let at = light_end_of n.monitor in if comes_by t at then after_ends steps t (after_light at n) else silenced MOST_STEPS t n

-- a source is lost in these
unfoldable pub ends_lose : ℕ → ℕ → Ledger → Bool
ends_lose zero t n = is_some (lost_place t n)
ends_lose (suc steps) t n = let at = light_end_of n.monitor in if comes_by t at then is_some (lost_place at n) || ends_lose steps t (after_light at n) else is_some (lost_place t n)

-- Contests of universes: what is told of them, and what is kept.
use Rattle.std.specs.Prelude.{ℕ, nat_le, ◌&&◌, ◌==◌, Bool, List, [], ◌∷◌, Option, None, Some, if◌then◌else◌}
use Rattle.sacn_monitor.specs.declared.stream.Stream.{Stream}
use Rattle.sacn_monitor.specs.Books.{Book}
use Rattle.sacn_monitor.specs.Rivals.{lights, priority_at, rivals, top_priority}
use Rattle.sacn_network.specs.declared.ledger.Ledger.{Ledger}
use Rattle.sacn_network.specs.declared.occurrence.Contest.{Contest as ContestOf}
use Rattle.sacn_network.specs.declared.occurrence.What.TheVariants.{Contest}
use Rattle.sacn_network.specs.Telling.{Told, told_now}
use Rattle.sacn_network.specs.Sets.{has_bit, is_otherwise, marked}

-- at t a source lights the universe of a contest at its priority
abbrev pub takes_part : ℕ → ContestOf → Stream → Bool
takes_part t c s = lights c.universe t s && (priority_at t s == c.priority)

-- two sources or more light a universe at its top priority
abbrev pub is_contested : ℕ → Book → Bool
is_contested universe b = nat_le 2 (rivals universe b.moment b.streams)

-- how many they are from now on
abbrev pub contest_of : ℕ → Book → Told
contest_of universe b = told_now (Contest (record { universe = universe; sources = rivals universe b.moment b.streams; priority = top_priority universe b.moment b.streams })) b

-- that, where the universe is contested and wasn't, or isn't and was
unfoldable pub contest_told : ℕ → Ledger → List Told
contest_told universe n = if is_otherwise (is_contested universe n.monitor) (has_bit n.contested universe) then contest_of universe n.monitor ∷ [] else []

unfoldable pub with_contest : ℕ → Ledger → Ledger
with_contest universe n = record n { contested = marked universe (is_contested universe n.monitor) n.contested }

-- of a universe, where there is one
abbrev pub contest_in : Option ℕ → Ledger → List Told
contest_in None n = []
contest_in (Some universe) n = contest_told universe n

abbrev pub with_contest_in : Option ℕ → Ledger → Ledger
with_contest_in None n = n
with_contest_in (Some universe) n = with_contest universe n

-- that of a stream
abbrev pub universe_of : Option Stream → Option ℕ
universe_of None = None
universe_of (Some s) = Some s.universe

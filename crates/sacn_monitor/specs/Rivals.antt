-- Sources that rival one another on a universe: those of which a node holds levels there, at the greatest priority of these.
use Rattle.std.specs.Prelude.{ℕ, Bool, ◌&&◌, ◌==◌, List, max, filter, fold, count_by, is_some, Option, Some, None}
use Rattle.sacn_monitor.specs.declared.stream.Stream.{Stream}
use Rattle.sacn_monitor.specs.Holdings.{light_at}

-- at t a node holds levels of a source on a universe
abbrev pub lights : ℕ → ℕ → Stream → Bool
lights universe t s = (s.universe == universe) && is_some (light_at t s.account.holding)

-- their priority, 0 where there are none
abbrev pub light_or_0 : Option ℕ → ℕ
light_or_0 None = 0
light_or_0 (Some priority) = priority

abbrev pub priority_at : ℕ → Stream → ℕ
priority_at t s = light_or_0 (light_at t s.account.holding)

-- the greatest priority of those that light it, 0 where none does
abbrev pub top_priority : ℕ → ℕ → List Stream → ℕ
top_priority universe t ss = fold (λ top s. max top (priority_at t s)) 0 (filter (lights universe t) ss)

-- how many light it at that priority
abbrev pub rivals : ℕ → ℕ → List Stream → ℕ
rivals universe t ss = count_by (λ s. lights universe t s && (priority_at t s == top_priority universe t ss)) ss

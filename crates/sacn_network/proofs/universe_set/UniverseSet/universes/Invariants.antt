use Rattle.std.proofs.Common.{◌≡◌, ◌*◌}
use Rattle.sacn_network.specs.declared.universe_set.TheConstants.{BITS}
use Rattle.sacn_network.specs.Sets.{universes_below}
use Rattle.sacn_network.proofs.universe_set.UniverseSet.universes.Given as goal

-- those of the words so far
abbrev pub invariant-loop-place : goal.invariant-loop-place
invariant-loop-place l = l.universes.items ≡ universes_below (l.place * BITS) l.self

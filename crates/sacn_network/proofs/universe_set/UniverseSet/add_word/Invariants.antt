use Rattle.std.proofs.Common.{◌≡◌, ◌*◌}
use Rattle.sacn_network.specs.declared.universe_set.TheConstants.{BITS}
use Rattle.sacn_network.specs.Sets.{universes_below}
use Rattle.sacn_network.proofs.universe_set.UniverseSet.add_word.Given as goal

-- those below the number
abbrev pub invariant-loop-number : goal.invariant-loop-number
invariant-loop-number l = l.fn.universes.items ≡ universes_below (l.place * BITS) l.self → l.universes.items ≡ universes_below l.number l.self

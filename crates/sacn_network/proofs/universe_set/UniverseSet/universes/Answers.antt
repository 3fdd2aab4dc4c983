use Rattle.sacn_network.specs.Sets.{universes_below}
use Rattle.sacn_network.proofs.universe_set.UniverseSet.universes.Goals as goal

pub loop-place-init : goal.loop-place-init
unfolding universes_below
loop-place-init c = c.new-universes.ensures.items

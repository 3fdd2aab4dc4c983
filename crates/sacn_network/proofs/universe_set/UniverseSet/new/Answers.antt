use Rattle.std.proofs.Common.{◌≡◌, replicate}
use Rattle.sacn_network.specs.declared.universe_set.TheConstants.{WORDS}
use Rattle.sacn_network.specs.Sets.{no_universes}
use Rattle.sacn_network.proofs.universe_set.UniverseSet.new.Goals as goal

pub returns : goal.returns
unfolding no_universes
returns c = let empty : c.in_ok-vec.field-0.items ≡ replicate WORDS 0 = c.in_ok-vec.ensures.items_if_clones_equal (λ y same. same) in empty

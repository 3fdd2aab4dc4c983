use Rattle.std.proofs.Common.{◌≡◌, map}
use Rattle.sacn_world.specs.Watches.{new_watch}
use Rattle.sacn_world.proofs.world.new_nodes.Given as goal

abbrev pub invariant-loop-setup : goal.invariant-loop-setup
invariant-loop-setup l = l.nodes.items ≡ map (λ n. new_watch n.ports) l.yielded

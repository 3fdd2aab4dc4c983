use Rattle.std.proofs.Common.{◌≡◌, map}
use Rattle.sacn_world.specs.Worlds.{new_console}
use Rattle.sacn_world.proofs.world.new_consoles.Given as goal

abbrev pub invariant-loop-show : goal.invariant-loop-show
invariant-loop-show l = l.consoles.items ≡ map new_console l.yielded

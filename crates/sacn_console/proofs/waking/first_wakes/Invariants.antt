use Rattle.std.proofs.Common.{◌≡◌, ◌++◌, map, drop}
use Rattle.sacn_console.specs.Wakes.{awake}
use Rattle.sacn_console.proofs.waking.first_wakes.Given as goal

abbrev pub invariant-loop-place : goal.invariant-loop-place
invariant-loop-place l = l.wakes.items ++ map awake (drop l._place l.universes) ≡ map awake l.universes

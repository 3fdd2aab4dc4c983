use Rattle.std.proofs.Common.{◌≡◌, ◌+◌, ◌*◌, ◌-◌}
use Rattle.sacn_patch.specs.Flat.{with_run}
use Rattle.sacn_patch.proofs.flat.copy_high_octets.Given as goal

abbrev pub invariant-loop-done : goal.invariant-loop-done
invariant-loop-done l = with_run l.octets 2 (l.count - l.done) (l.slot + l.done) (l.octet + 2 * l.done) l.slots ≡ with_run l.octets 2 l.count l.slot l.octet l.fn.slots

use Rattle.std.proofs.Common.{◌≡◌, ◌-◌, take, length}
use Rattle.std.specs.Prelude.{count_by}
use Rattle.sacn_world.specs.Wire.{is_filed}
use Rattle.sacn_world.proofs.datagram.count_filed.Given as goal

-- none of the later ones stands in the stream
abbrev pub invariant-loop-later : goal.invariant-loop-later
invariant-loop-later l = count_by (is_filed l.source l.universe) (take (length l.sent - l.later) l.sent) ≡ count_by (is_filed l.source l.universe) l.sent

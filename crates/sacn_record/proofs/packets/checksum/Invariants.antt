use Rattle.std.proofs.Common.{◌≡◌, ◌*◌, drop}
use Rattle.sacn_record.specs.Packets.{ones_sum}
use Rattle.sacn_record.proofs.packets.checksum.Given as goal

-- the sum of what is left upon that of what is done is that of all
abbrev pub invariant-loop-i : goal.invariant-loop-i
invariant-loop-i l = ones_sum l.sum (drop (2 * l.i) l.octets) ≡ ones_sum 0 l.octets

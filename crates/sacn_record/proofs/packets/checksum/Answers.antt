use Rattle.std.proofs.Common.{◌-◌, ap, arith}
use Rattle.sacn_record.specs.Packets.{checksum}
use Rattle.sacn_record.proofs.Sums.{sum_step, sum_done}
use Rattle.sacn_record.proofs.packets.checksum.Goals as goal

pub loop-i-preserved : goal.loop-i-preserved
loop-i-preserved c = sum_step c.args.octets.now c.loop-i.sum c.from_be_bytes.result c.ones_add-sum.result c.loop-i.i (omega arith) c.from_be_bytes.ensures c.ones_add-sum.ensures c.loop-i.invariant

pub returns : goal.returns
unfolding checksum
returns c = ap (λ s. 65535 - s) (sum_done c.args.octets.now c.loop-i.sum c.loop-i.i (omega arith) c.loop-i.invariant)

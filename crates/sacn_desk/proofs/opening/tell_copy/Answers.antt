use Rattle.std.proofs.Common.{arith}
use Rattle.sacn_desk.proofs.Copies.{copy_told}
use Rattle.sacn_desk.proofs.opening.tell_copy.Goals as goal

pub returns : goal.returns
returns c = λ begun u opens read. copy_told c.args.datagram.now u begun (λ i. omega (arith, c.type_inv.datagram i)) read opens

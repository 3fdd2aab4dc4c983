use Rattle.std.proofs.Common.{◌≡◌, ◌+◌, ◌-◌, ◌*◌, ◌/◌, length, arith}
use Rattle.sacn_edge.proofs.DigitBlocks.{block_more, rest_written}
use Rattle.sacn_edge.proofs.digits.write_digits.Goals as goal

pub loop-block-preserved : goal.loop-block-preserved
loop-block-preserved c =
    let at = 16 * c.loop-block.block in
    let next : 16 * (c.loop-block.block + 1) ≡ at + 16 = omega arith in
    rw next (block_more c.args.octets.now c.loop-block.digits c.write_block.new.digits at (omega arith) c.loop-block.invariant (2 * at + 32 - 2 * at) (at + 16 - at) (omega arith) (omega arith) (omega arith) c.write_block.ensures)

pub returns : goal.returns
returns c =
    let octets = c.args.octets.now in
    let at = 16 * (length octets / 16) in
    let end : c.loop-block.block ≡ length octets / 16 = omega arith in
    rest_written octets c.loop-block.digits c.write_rest.new.digits at (omega arith) (rw end at c.loop-block.invariant) (length c.loop-block.digits - 2 * at) (length octets - at) (omega arith) (omega arith) c.write_rest.ensures

use Rattle.std.proofs.Common.{◌≡◌, ◌*◌, ◌++◌, take, drop}
use Rattle.hex.specs.Hex.{encode_lower}
use Rattle.sacn_edge.proofs.digits.write_digits.Given as goal

-- the digits of the blocks so far, and then those of the octets that are left, are all
abbrev pub invariant-loop-block : goal.invariant-loop-block
invariant-loop-block l = take (2 * (16 * l.block)) l.digits ++ encode_lower (drop (16 * l.block) l.octets) ≡ encode_lower l.octets

use Rattle.std.proofs.Common.{◌%◌, bit_and, arith}
use Rattle.std.proofs.lemmas.Nat.{and_mask}
use Rattle.hex.specs.Hex.{lower_digits}
use Rattle.sacn_edge.proofs.DigitBlocks.{looked_up, within}
use Rattle.sacn_edge.proofs.digits.low_digits.Goals as goal

pub swizzle : goal.swizzle
swizzle c = within bit_and (λ x. x % 16) 15 c.args.octets c.fits-octets (λ x. and_mask x 4) (λ x h. omega arith)

pub returns : goal.returns
returns c = looked_up bit_and (λ x. x % 16) 15 c.args.octets c.fits-octets (λ x. and_mask x 4) (λ x h. omega arith) lower_digits

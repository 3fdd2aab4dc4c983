use Rattle.std.proofs.Common.{◌/◌, ◌^◌, refl, arith}
use Rattle.hex.specs.Hex.{lower_digits}
use Rattle.sacn_edge.proofs.DigitBlocks.{looked_up, within}
use Rattle.sacn_edge.proofs.digits.high_digits.Goals as goal

pub swizzle : goal.swizzle
swizzle c = within (λ a b. a / 2 ^ b) (λ x. x / 16) 4 c.args.octets c.fits-octets (λ x. refl) (λ x h. omega arith)

pub returns : goal.returns
returns c = looked_up (λ a b. a / 2 ^ b) (λ x. x / 16) 4 c.args.octets c.fits-octets (λ x. refl) (λ x h. omega arith) lower_digits

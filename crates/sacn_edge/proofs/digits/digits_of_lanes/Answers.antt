use Rattle.sacn_edge.proofs.DigitBlocks.{woven_is}
use Rattle.sacn_edge.proofs.digits.digits_of_lanes.Goals as goal

pub returns-clause-digits : goal.returns-clause-digits
returns-clause-digits c = woven_is c.args.octets c.high_digits.result c.low_digits.result c.fits-octets.0 c.high_digits.ensures c.low_digits.ensures

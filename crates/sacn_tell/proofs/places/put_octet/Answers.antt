use Rattle.std.proofs.Common.{arith}
use Rattle.sacn_tell.proofs.PlaceDigits.{octet_short}
use Rattle.sacn_tell.proofs.places.put_octet.Goals as goal

pub put_after-requires : goal.put_after-requires
put_after-requires c = omega (arith, octet_short c.from.result (omega (arith, c.from.ensures, c.ranges.octet.fits)))

pub returns-clause-near : goal.returns-clause-near
returns-clause-near c = omega (arith, octet_short c.from.result (omega (arith, c.from.ensures, c.ranges.octet.fits)), c.put_after.ensures.place)

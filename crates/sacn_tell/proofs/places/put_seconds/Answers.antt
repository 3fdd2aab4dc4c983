use Rattle.std.proofs.Common.{arith}
use Rattle.sacn_tell.proofs.PlaceDigits.{seconds_short, before_earlier}
use Rattle.sacn_tell.proofs.places.put_seconds.Goals as goal

pub write_digits-requires : goal.write_digits-requires
write_digits-requires c = omega (arith, seconds_short c.args.seconds c.ranges.seconds.fits)

pub returns-clause-before : goal.returns-clause-before
returns-clause-before c = before_earlier c.write_digits.result 20 _ _ _ (omega (arith, c.write_digits.ensures.start)) c.write_digits.ensures.before c.put_places.ensures.before

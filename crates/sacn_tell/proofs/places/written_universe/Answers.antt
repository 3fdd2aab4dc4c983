use Rattle.std.proofs.Common.{arith, sym, subst}
use Rattle.std.specs.Str.{IsAscii}
use Rattle.sacn_tell.proofs.PlaceDigits.{port_short, universe_is, universe_ascii}
use Rattle.sacn_tell.proofs.places.written_universe.Goals as goal

pub write_digits-requires : goal.write_digits-requires
write_digits-requires c = omega (arith, port_short c.from.result (omega (arith, c.from.ensures, c.ranges.universe.fits)))

pub returns-clause-text : goal.returns-clause-text
returns-clause-text c = universe_is c.args.universe c.write_digits.result _ c.ranges.universe.fits (rw c.from.ensures at c.write_digits.ensures.start) c.write_digits.ensures.before (rw c.from.ensures at c.write_digits.ensures.written)

pub returns-clause-ascii : goal.returns-clause-ascii
returns-clause-ascii c = subst IsAscii (sym (universe_is c.args.universe c.write_digits.result _ c.ranges.universe.fits (rw c.from.ensures at c.write_digits.ensures.start) c.write_digits.ensures.before (rw c.from.ensures at c.write_digits.ensures.written))) (universe_ascii c.args.universe c.ranges.universe.fits)

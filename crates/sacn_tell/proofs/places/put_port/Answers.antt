use Rattle.std.proofs.Common.{arith, sym, subst, drop}
use Rattle.std.specs.Str.{IsAscii}
use Rattle.sacn_tell.proofs.PlaceDigits.{port_short, port_ascii}
use Rattle.sacn_tell.proofs.places.put_port.Goals as goal

pub put_after-requires : goal.put_after-requires
put_after-requires c = omega (arith, port_short c.from.result (omega (arith, c.from.ensures, c.ranges.port.fits)))

pub returns-clause-near : goal.returns-clause-near
returns-clause-near c = omega (arith, port_short c.from.result (omega (arith, c.from.ensures, c.ranges.port.fits)), c.put_after.ensures.place)

pub returns-clause-ascii : goal.returns-clause-ascii
returns-clause-ascii c ends = subst IsAscii (sym c.put_after.ensures.written) (port_ascii c.from.result (drop 24 c.args.room.now) (omega (arith, c.from.ensures, c.ranges.port.fits)) ends)

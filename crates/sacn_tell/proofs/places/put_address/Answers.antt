use Rattle.std.proofs.Common.{arith, sym, subst, drop}
use Rattle.std.specs.Str.{IsAscii}
use Rattle.sacn_tell.proofs.PlaceDigits.{octet_short, address_is, address_ascii}
use Rattle.sacn_tell.proofs.places.put_address.Goals as goal

pub write_digits-requires : goal.write_digits-requires
write_digits-requires c = omega (arith, octet_short c.from.result (omega (arith, c.from.ensures, c.fits-address 0)))

pub returns-clause-written : goal.returns-clause-written
returns-clause-written c = address_is c.args.address.now _ _ _ _ _ (rw c.from.ensures at c.write_digits.ensures.written) c.put_octet-end-3.ensures.written c.put_octet-end-2.ensures.written c.put_octet-end.ensures.written

pub returns-clause-ascii : goal.returns-clause-ascii
returns-clause-ascii c ends = subst IsAscii (sym (address_is c.args.address.now _ _ _ _ _ (rw c.from.ensures at c.write_digits.ensures.written) c.put_octet-end-3.ensures.written c.put_octet-end-2.ensures.written c.put_octet-end.ensures.written)) (address_ascii c.args.address.now (drop c.args.end c.args.room.now) (λ i. omega (arith, c.fits-address i)) ends)

-- How what a handle stands for is lent.
use Rattle.std.specs.Prelude.{Some}
use Rattle.std.specs.Borrow.{Lends, MutBor, Fml}
use Rattle.sacn_c.specs.declared.handle.Handle.{Handle}
use Rattle.sacn_c.specs.contracts.handle.Handle.{the_row}
use Rattle.sacn_c.specs.declared.held_value.Held.{Held}
use Rattle.sacn_c.specs.contracts.held_value.Held as held

-- once the borrow ends, the handle stands for what was left behind it
abbrev pub LendsHeld : MutBor Handle → MutBor Held → Fml
LendsHeld h r = Lends the_row held.the_row h r (λ w. record h.now { value = Some w })

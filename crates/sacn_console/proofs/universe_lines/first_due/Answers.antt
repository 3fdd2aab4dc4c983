use Rattle.std.proofs.Common.{arith, None}
use Rattle.sacn_console.specs.declared.line.UniverseLine.{UniverseLine}
use Rattle.sacn_console.specs.declared.line.State.TheVariants.{Running}
use Rattle.sacn_console.proofs.WakeLists.{quiet_more, wakes_from, wakes_looked, quiet_looked, first_found, none_found, all_ahead, wakes_as, ahead_as}
use Rattle.sacn_console.proofs.WakeCores.{here_at}
use Rattle.sacn_console.proofs.universe_lines.first_due.Goals as goal

abbrev blank : UniverseLine
blank = record { universe = 0; state = Running None; sequence_number = 0; last = None }

pub loop-place-init : goal.loop-place-init
loop-place-init c = (c.requires.wakes, rw c.from-place.ensures c.requires.wakes.quiet)

pub loop-place-preserved-then-moment-at : goal.loop-place-preserved-then-moment-at
loop-place-preserved-then-moment-at c = (
  c.loop-place.invariant.0,
  quiet_more c.loop-place.wakes _ _ _ c.loop-place.place c.loop-place.invariant.0 c.loop-place.invariant.1 c.loop-place-test.true (omega (arith, c.if-moment-at.true, c.at.ensures)),
)

pub returns-in-Due-clause-wakes : goal.returns-in-Due-clause-wakes
returns-in-Due-clause-wakes c = rw c.start_at.ensures (wakes_from c.loop-place.wakes _ _ _ _ _ c.loop-place.invariant.0 c.loop-place.invariant.1)

pub returns-in-Due-clause-found : goal.returns-in-Due-clause-found
returns-in-Due-clause-found c = (c.loop-place-test.true, first_found c.loop-place.wakes.each _ _ _ c.loop-place.place _ _ c.loop-place.invariant.1 c.loop-place-test.true (here_at c.args.lines.now c.loop-place.place blank) c.in-Due.ensures)

pub loop-place-preserved : goal.loop-place-preserved
loop-place-preserved c = rw c.put.ensures (
  wakes_looked c.loop-place.wakes _ _ _ c.loop-place.place c.in-Asleep.wake _ _ c.loop-place.invariant.0 c.loop-place-test.true (here_at c.args.lines.now c.loop-place.place blank) c.in-Asleep.ensures,
  quiet_looked c.loop-place.wakes _ _ _ c.loop-place.place c.in-Asleep.wake _ c.loop-place.invariant.0 c.loop-place.invariant.1 c.loop-place-test.true (here_at c.args.lines.now c.loop-place.place blank) c.in-Asleep.ensures.0,
)

pub returns-clause-wakes : goal.returns-clause-wakes
returns-clause-wakes c = wakes_as c.loop-place.wakes _ _ _ _ c.loop-place.invariant.0 c.note_least.ensures.each c.note_least.ensures.from

pub returns-clause-found : goal.returns-clause-found
returns-clause-found c = none_found c.loop-place.wakes.each _ _ _ c.loop-place.place c.loop-place.invariant.1 c.loop-place-test.false

pub returns-clause-ahead : goal.returns-clause-ahead
returns-clause-ahead c = ahead_as c.loop-place.wakes.each _ _ (all_ahead c.loop-place.wakes _ _ _ c.loop-place.place c.loop-place.invariant.0 c.loop-place.invariant.1 c.loop-place-test.false) c.note_least.ensures.each

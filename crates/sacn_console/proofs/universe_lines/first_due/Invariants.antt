use Rattle.sacn_console.specs.Wakes.{WakesOk, QuietBefore}
use Rattle.sacn_console.proofs.universe_lines.first_due.Given as goal

abbrev pub invariant-loop-place : goal.invariant-loop-place
invariant-loop-place l =
    WakesOk l.wakes (record { patch = l.patch; player = l.player.player.now }) l.moment l.lines
    × QuietBefore l.wakes.each (record { patch = l.patch; player = l.player.player.now }) l.moment l.lines l.place

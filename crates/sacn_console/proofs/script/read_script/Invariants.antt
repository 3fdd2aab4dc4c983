use Rattle.std.proofs.Common.{◌≡◌}
use Rattle.sacn_files.specs.Lines.{entries_of, after_entries}
use Rattle.sacn_files.proofs.LineLemmas.{said_in}
use Rattle.sacn_console.specs.Scripts.{order_in, script_in}
use Rattle.sacn_console.proofs.script.read_script.Given as goal

-- the orders so far, then those of the lines that are left, are all
abbrev pub invariant-loop-i : goal.invariant-loop-i
invariant-loop-i l = script_in l.text ≡ after_entries l.orders.items (entries_of order_in (said_in l.lines.items l.i))

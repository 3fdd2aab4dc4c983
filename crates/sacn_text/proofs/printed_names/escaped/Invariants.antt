use Rattle.std.proofs.Common.{◌≡◌, ◌++◌, drop}
use Rattle.sacn_text.specs.Words.{escaped}
use Rattle.sacn_text.proofs.printed_names.escaped.Given as goal

abbrev pub invariant-loop-i : goal.invariant-loop-i
invariant-loop-i l = l.text.items ++ escaped (drop l.i l.name) ≡ escaped l.name

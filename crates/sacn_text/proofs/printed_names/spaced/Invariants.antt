use Rattle.std.proofs.Common.{◌≡◌, ◌++◌, drop}
use Rattle.sacn_text.specs.Words.{spaced}
use Rattle.sacn_text.proofs.printed_names.spaced.Given as goal

abbrev pub invariant-loop-i : goal.invariant-loop-i
invariant-loop-i l = l.text.items ++ spaced (drop l.i l.numbers) ≡ spaced l.numbers

use Rattle.std.proofs.Common.{◌≡◌, ◌++◌, ◌∷◌, drop, string_bytes}
use Rattle.sacn_tell.specs.Numbers.{ranges_text, runs_from, runs_text}
use Rattle.sacn_tell.proofs.numbers.push_runs.Given as goal

-- what is written, and then the runs of the numbers that are left, is all
abbrev pub invariant-loop-number : goal.invariant-loop-number
invariant-loop-number l = string_bytes l.text ++ runs_text (runs_from l.run (drop l.number-index l.rest)) ≡ string_bytes l.fn.text ++ ranges_text (l.first ∷ l.rest)

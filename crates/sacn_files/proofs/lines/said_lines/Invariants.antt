use Rattle.std.proofs.Common.{◌≡◌, ◌+◌, map, drop}
use Rattle.sacn_files.specs.Lines.{said, said_after, said_lines}
use Rattle.sacn_files.proofs.lines.said_lines.Given as goal

abbrev pub invariant-loop-i : goal.invariant-loop-i
invariant-loop-i l = said_lines l.text ≡ said_after (map said l.found.items) (l.i + 1) (map (λ t. t.now) (drop l.i l.lines.items))

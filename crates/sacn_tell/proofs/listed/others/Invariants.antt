use Rattle.std.proofs.Common.{◌≡◌, ◌==◌, filter, not, take}
use Rattle.std.specs.List.{list_any}
use Rattle.sacn_tell.proofs.listed.others.Given as goal

abbrev pub invariant-loop-i : goal.invariant-loop-i
invariant-loop-i l = l.left.items ≡ filter (λ number. not (list_any (λ n. n == number) l.heard)) (take l.i l.numbers)

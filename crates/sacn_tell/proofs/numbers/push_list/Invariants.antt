use Rattle.std.proofs.Common.{◌≡◌, ◌++◌, drop, codes, decimal, string_bytes}
use Rattle.std.specs.List.{flat_map}
use Rattle.sacn_tell.specs.Numbers.{number_list}
use Rattle.sacn_tell.proofs.numbers.push_list.Given as goal

-- what is written, and then the numbers that are left, is all
abbrev pub invariant-loop-number : goal.invariant-loop-number
invariant-loop-number l = string_bytes l.text ++ flat_map (λ n. codes "," ++ decimal n) (drop l.number-index l.rest) ≡ string_bytes l.fn.text ++ number_list l.numbers

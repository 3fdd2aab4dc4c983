use Rattle.std.proofs.Common.{◌≡◌, filter, map, take}
use Rattle.std.specs.Str.{bytes_eq}
use Rattle.sacn_tell.proofs.listed.universes_of.Given as goal

abbrev pub invariant-loop-i : goal.invariant-loop-i
invariant-loop-i l = l.found.items ≡ map (λ s. s.universe) (filter (λ s. bytes_eq s.cid l.cid) (take l.i l.streams))

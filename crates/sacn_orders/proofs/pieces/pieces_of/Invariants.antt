use Rattle.std.proofs.Common.{◌≡◌, ◌++◌, map, drop}
use Rattle.sacn_orders.specs.Pieces.{pieces_of}
use Rattle.sacn_orders.proofs.pieces.pieces_of.Given as goal

abbrev pub invariant-loop-i : goal.invariant-loop-i
invariant-loop-i l = pieces_of (map (λ w. w.now) l.words) ≡ map (λ w. w.now) l.found.items ++ pieces_of (map (λ w. w.now) (drop l.i l.words))

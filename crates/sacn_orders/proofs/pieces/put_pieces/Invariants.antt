use Rattle.std.proofs.Common.{◌≡◌, ◌≤◌, ◌-◌, ◌++◌, map, take, drop}
use Rattle.std.specs.Str.{IsCharBoundary}
use Rattle.sacn_orders.specs.Pieces.{pieces_in, pieces_after}
use Rattle.sacn_orders.proofs.pieces.put_pieces.Given as goal

-- what was found, then what is left gives, is all
abbrev pub invariant-loop-i : goal.invariant-loop-i
invariant-loop-i l = record {
  within : l.start ≤ l.i;
  cut : IsCharBoundary l.word l.start;
  left : map (λ w. w.now) l.fn.found.items ++ pieces_in l.word ≡ map (λ w. w.now) l.found.items ++ pieces_after (take (l.i - l.start) (drop l.start l.word)) (drop l.i l.word);
}

use Rattle.std.proofs.Common.{◌≡◌, ◌+◌, map, drop}
use Rattle.std.specs.List.{position_or_len}
use Rattle.sacn_orders.specs.Orders.{is_at}
use Rattle.sacn_orders.proofs.grammar.place_of_at.Given as goal

abbrev pub invariant-loop-i : goal.invariant-loop-i
invariant-loop-i l = position_or_len is_at (map (λ w. w.now) l.pieces) ≡ l.i + position_or_len is_at (map (λ w. w.now) (drop l.i l.pieces))

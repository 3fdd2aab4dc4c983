use Rattle.std.proofs.Common.{◌≡◌, ◌≤◌, ◌-◌, map, take, drop}
use Rattle.sacn_orders.specs.Orders.{joined_after, parts_in}
use Rattle.sacn_orders.proofs.Selecting.{more_parts}
use Rattle.sacn_orders.proofs.grammar.parts_in.Given as goal

-- the parts so far, then those of the pieces that are left, are all
abbrev pub invariant-loop-i : goal.invariant-loop-i
invariant-loop-i l = record {
  within : l.start ≤ l.i;
  left : parts_in (map (λ w. w.now) l.pieces) ≡ more_parts l.selection (joined_after l.is_added (map (λ w. w.now) (take (l.i - l.start) (drop l.start l.pieces))) (map (λ w. w.now) (drop l.i l.pieces)));
}

use Rattle.std.proofs.Common.{◌≡◌, find}
use Rattle.sacn_orders.specs.Orders.{channels_from, is_chosen, next_chosen}
use Rattle.sacn_orders.proofs.selection.Selection.next_from.Given as goal

abbrev pub invariant-loop-next : goal.invariant-loop-next
invariant-loop-next l = next_chosen l.self l.channel ≡ find (is_chosen l.self) (channels_from l.next)

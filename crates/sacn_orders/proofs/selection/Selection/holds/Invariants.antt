use Rattle.std.proofs.Common.{◌≡◌, take}
use Rattle.sacn_orders.specs.Orders.{is_chosen}
use Rattle.sacn_orders.proofs.selection.Selection.holds.Given as goal

abbrev pub invariant-loop-part : goal.invariant-loop-part
invariant-loop-part l = l.is_held ≡ is_chosen (take l.part-index l.parts) l.channel

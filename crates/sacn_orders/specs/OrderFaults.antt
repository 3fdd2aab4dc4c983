-- The numbers of the faults of orders.
use Rattle.std.specs.Prelude.{ℕ}
use Rattle.sacn_orders.specs.declared.fault.OrderFault.{OrderFault}
use Rattle.sacn_orders.specs.declared.fault.OrderFault.TheVariants.{OutOfMemory, Text, NoChannels, Word, Channel, Backwards, TooManyParts, Level}

abbrev pub order_fault_number : OrderFault → ℕ
order_fault_number OutOfMemory = 1
order_fault_number (Text fault) = 2
order_fault_number NoChannels = 3
order_fault_number Word = 4
order_fault_number Channel = 5
order_fault_number Backwards = 6
order_fault_number TooManyParts = 7
order_fault_number Level = 8

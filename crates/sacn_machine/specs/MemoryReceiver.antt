-- What a receiver over memory tells.
use Rattle.std.specs.Prelude.{◌==◌, ℕ, List, Option, None, Some, if◌then◌else◌}
use Rattle.sacn_machine.specs.declared.memory.TimedArrival.{TimedArrival}
use Rattle.sacn_machine.specs.declared.memory.MemoryReceiver.{MemoryReceiver}
use Rattle.sacn_machine.specs.Hearings.{Hearing}
use Rattle.sacn_machine.specs.MemoryHearings.{first_brought}

-- what it brought, until it can't count its receives any more
abbrev pub receiver_told : MemoryReceiver → Option (List Hearing)
receiver_told r = if r.received == 18446744073709551615 then None else Some (first_brought r.last r.incoming.items r.received)

-- what it will bring, in order, and the reading past that
abbrev pub brings : MemoryReceiver → List TimedArrival
brings r = r.incoming.items

abbrev pub ends_at : MemoryReceiver → ℕ
ends_at r = r.last

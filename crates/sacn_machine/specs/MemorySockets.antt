-- What sockets over memory tell.
use Rattle.std.specs.Prelude.{List, map, Option, None, Some, if◌then◌else◌}
use Rattle.sacn_machine.specs.declared.memory_sockets.Sent.{Sent}
use Rattle.sacn_machine.specs.declared.memory_sockets.MemorySockets.{MemorySockets}
use Rattle.sacn_machine.specs.Sendings.{Sending, sending}

abbrev pub sending_of : Sent → Sending
sending_of s = sending s.to s.octets.items s.is_taken

-- what was sent, until a datagram couldn't be kept
abbrev pub sockets_told : MemorySockets → Option (List Sending)
sockets_told s = if s.is_lost then None else Some (map sending_of s.sent.items)

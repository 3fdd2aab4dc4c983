-- What a desk's link sends through, and where.
use Rattle.sacn_desk.specs.declared.destinations.Destinations.{Destinations}
use Rattle.sacn_desk.specs.declared.desk_sender.DeskSender.{DeskSender}

abbrev pub sockets_of : {S C E : Type 0} → DeskSender S C E → S
sockets_of sender = sender.sockets

abbrev pub destinations_of : {S C E : Type 0} → DeskSender S C E → Destinations
destinations_of sender = sender.destinations

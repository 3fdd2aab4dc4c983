-- What a device over memory tells.
use Rattle.std.specs.Prelude.{List, Option, None, Some, if◌then◌else◌}
use Rattle.sacn_machine.specs.declared.device.Offer.{Offer}
use Rattle.sacn_machine.specs.declared.memory_device.MemoryDevice.{MemoryDevice}

-- what it was offered, until it couldn't keep it
abbrev pub device_told : MemoryDevice → Option (List Offer)
device_told d = if d.is_lost then None else Some d.offers.items

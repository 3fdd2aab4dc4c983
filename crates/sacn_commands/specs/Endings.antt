-- How a run ends: its exit status, and which ending a fault of the crates below is (profile).
use Rattle.std.specs.Prelude.{ℕ}
use Rattle.hex.specs.declared.error.FromHexError.{FromHexError}
use Rattle.hex.specs.declared.error.FromHexError.TheVariants as hex
use Rattle.sacn_check.specs.declared.report.ReportFault.{ReportFault}
use Rattle.sacn_check.specs.declared.report.ReportFault.TheVariants as report
use Rattle.sacn_text.specs.declared.fault.DecodeFault.{DecodeFault}
use Rattle.sacn_text.specs.declared.fault.DecodeFault.TheVariants as decode
use Rattle.sacn_text.specs.declared.fault.SimFault.{SimFault}
use Rattle.sacn_text.specs.declared.fault.SimFault.TheVariants as sim
use Rattle.sacn_text.specs.declared.input.ReadFault.{ReadFault}
use Rattle.sacn_text.specs.declared.input.ReadFault.TheVariants as read
use Rattle.sacn_commands.specs.declared.ending.Ending.{Ending}
use Rattle.sacn_commands.specs.declared.ending.Ending.TheVariants.{OutOfMemory, TooLarge, Hex, NotText, Packet, Show, Setup, Line, World, Event, DeviceRead, DeviceWrite, DeviceSocket, Said}

-- 3 where input is refused, 4 where a device failed; what was said already has its own
abbrev pub status_of : Ending → ℕ
status_of OutOfMemory = 3
status_of TooLarge = 3
status_of Hex = 3
status_of NotText = 3
status_of (Packet fault) = 3
status_of (Show fault) = 3
status_of (Setup fault) = 3
status_of (Line fault) = 3
status_of (World fault) = 3
status_of (Event step fault) = 3
status_of DeviceRead = 4
status_of DeviceWrite = 4
status_of DeviceSocket = 4
status_of (Said status) = status

-- what a file or standard input couldn't be read for
abbrev pub ending_of_read : ReadFault → Ending
ending_of_read read.OutOfMemory = OutOfMemory
ending_of_read read.Device = DeviceRead
ending_of_read read.TooLarge = TooLarge

-- what datagrams weren't printed to their end for
abbrev pub ending_of_decode : DecodeFault → Ending
ending_of_decode decode.OutOfMemory = OutOfMemory
ending_of_decode (decode.Refused at fault) = Packet fault
ending_of_decode decode.WriteFailed = DeviceWrite

-- what a simulation ended early for
abbrev pub ending_of_simulation : SimFault → Ending
ending_of_simulation sim.OutOfMemory = OutOfMemory
ending_of_simulation (sim.World fault) = World fault
ending_of_simulation (sim.Schedule fault) = Line fault
ending_of_simulation (sim.Event step fault) = Event step fault
ending_of_simulation sim.WriteFailed = DeviceWrite

-- what a text isn't an even number of digits for
abbrev pub ending_of_digits : FromHexError → Ending
ending_of_digits (hex.InvalidHexCharacter c index) = Hex
ending_of_digits hex.OddLength = Hex
ending_of_digits hex.InvalidStringLength = Hex
ending_of_digits hex.OutOfMemory = OutOfMemory

-- what was wrong with a file couldn't be printed for
abbrev pub ending_of_report : ReportFault → Ending
ending_of_report report.OutOfMemory = OutOfMemory
ending_of_report report.WriteFailed = DeviceWrite

-- Whose a fault is: of what tells, or of the recording.
use Rattle.std.specs.Prelude.{◌≡◌, ◌⊎◌, ⊤, Some}
use Rattle.sacn_capture.specs.declared.faults.CaptureFault.{CaptureFault}
use Rattle.sacn_capture.specs.declared.faults.FaultKind.TheVariants.{OutOfMemory as NoMemory}
use Rattle.sacn_capture.specs.Files.{IsOutside}
use Rattle.sacn_capture.specs.Recordings.{Told}
use Rattle.sacn_tell.specs.declared.fault.ExplainFault.{ExplainFault}
use Rattle.sacn_tell.specs.declared.fault.ExplainFault.TheVariants.{OutOfMemory, Capture, Device}

-- no recording is at fault
abbrev pub IsOfTelling : ExplainFault → Type 0
IsOfTelling OutOfMemory = ⊤
IsOfTelling (Capture fault) = ⊥
IsOfTelling Device = ⊤

-- a reader's fault is told as it is, but for want of memory
abbrev pub IsMadeOf : CaptureFault → ExplainFault → Type 0
IsMadeOf fault OutOfMemory = fault.kind ≡ NoMemory
IsMadeOf fault (Capture told) = told ≡ fault
IsMadeOf fault Device = ⊥

-- a fault that is told of a recording is the recording's own, or comes from outside
abbrev pub IsFaultOf : Told → ExplainFault → Type 0
IsFaultOf all OutOfMemory = ⊤
IsFaultOf all (Capture fault) = IsOutside fault.kind ⊎ (all.fault ≡ Some fault)
IsFaultOf all Device = ⊤

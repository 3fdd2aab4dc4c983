-- Why a watch ends before its time.
use Rattle.sacn_tell.specs.declared.fault.ExplainFault.{ExplainFault}
use Rattle.sacn_tell.specs.declared.fault.ExplainFault.TheVariants as explain
use Rattle.sacn_watch.specs.declared.fault.WatchFault.{WatchFault}
use Rattle.sacn_watch.specs.declared.fault.WatchFault.TheVariants.{OutOfMemory, Device}

-- want of memory as such; whatever else can't be told can't be written
abbrev pub watch_fault_of : ExplainFault → WatchFault
watch_fault_of explain.OutOfMemory = OutOfMemory
watch_fault_of (explain.Capture fault) = Device
watch_fault_of explain.Device = Device

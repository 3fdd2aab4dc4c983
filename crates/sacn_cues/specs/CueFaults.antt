-- The numbers of the faults.
use Rattle.std.specs.Prelude.{ℕ}
use Rattle.sacn_cues.specs.declared.fault.CueFault.{CueFault}
use Rattle.sacn_cues.specs.declared.fault.CueFault.TheVariants as cue
use Rattle.sacn_cues.specs.declared.fault.PlayFault.{PlayFault}
use Rattle.sacn_cues.specs.declared.fault.PlayFault.TheVariants as play

abbrev pub cue_fault_number : CueFault → ℕ
cue_fault_number cue.OutOfMemory = 1
cue_fault_number cue.NumberTaken = 2
cue_fault_number cue.ChannelRange = 3
cue_fault_number cue.FadeRange = 4
cue_fault_number cue.Full = 5

abbrev pub play_fault_number : PlayFault → ℕ
play_fault_number play.NoCue = 1
play_fault_number play.ChannelRange = 2

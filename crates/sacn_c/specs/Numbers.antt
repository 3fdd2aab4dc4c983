-- The numbers by which C is told what became of a datagram.
use Rattle.std.specs.Prelude.{ℕ, List, Option, Some, None}
use Rattle.sacn_c.specs.declared.status.TheConstants.{DONE, RANGE}
use Rattle.sacn_packets.specs.PacketFaults.{fault_number}
use Rattle.sacn_sources.specs.declared.answer.Taken.{Taken}
use Rattle.sacn_sources.specs.declared.answer.Taken.TheVariants.{Held, Observed, EndedNow, OutOfSequence, SourcesExceeded, UnknownIgnored}
use Rattle.sacn_node.specs.declared.answer.NodeTaken.{NodeTaken}
use Rattle.sacn_node.specs.declared.answer.NodeTaken.TheVariants.{FromTable, OtherUniverse, Discovery, Sync, Refused}

abbrev pub taken_number : Taken → ℕ
taken_number Held = 1
taken_number Observed = 2
taken_number EndedNow = 3
taken_number OutOfSequence = 4
taken_number SourcesExceeded = 5
taken_number UnknownIgnored = 6

-- what a node says of a datagram, and 0 where it is no packet
abbrev pub node_taken_number : NodeTaken → ℕ
node_taken_number (FromTable taken) = taken_number taken
node_taken_number OtherUniverse = 7
node_taken_number Discovery = 8
node_taken_number Sync = 9
node_taken_number (Refused fault) = 0

-- the status: the fault of a datagram that is no packet
abbrev pub node_taken_status : NodeTaken → ℕ
node_taken_status (FromTable taken) = 0
node_taken_status OtherUniverse = 0
node_taken_status Discovery = 0
node_taken_status Sync = 0
node_taken_status (Refused fault) = fault_number fault

-- the status of a call that has a frame to give, or has none
abbrev pub frame_status : Option (List ℕ) → ℕ
frame_status None = RANGE
frame_status (Some frame) = DONE

-- the frame, or what was there before
abbrev pub frame_or : List ℕ → Option (List ℕ) → List ℕ
frame_or before None = before
frame_or before (Some frame) = frame

-- the status of a call that has what it was asked for, or has none
abbrev pub found_status : {X : Type 0} → Option X → ℕ
found_status None = RANGE
found_status (Some x) = DONE

-- what was found, or what was there before
abbrev pub found_or : {X : Type 0} → X → Option X → X
found_or before None = before
found_or before (Some x) = x

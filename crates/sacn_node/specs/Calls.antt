-- Calls on one node, and the steps that they make of its value. A history is the list of the calls so far, the latest first.
use Rattle.std.specs.Prelude.{◌≡◌, ℕ, ◌≤◌, ◌⊎◌, max, List, [], ◌∷◌, All, Any, Option}
use Rattle.sacn_packets.specs.PacketReading.{reading_packet}
use Rattle.sacn_node.specs.declared.answer.NodeTaken.{NodeTaken}
use Rattle.sacn_node.specs.Setup.{Port}
use Rattle.sacn_node.specs.Cores.{Core, Node, new_node, core_at, core_lost, node_frame}
use Rattle.sacn_node.specs.Readings.{Reading, reply_to, after_reading}

-- a call, with the moment that it hands in: a datagram's octets, expiry alone, or the frame of a port
pub data Call : Type 0 where
  Take : ℕ → List ℕ → Call
  Tick : ℕ → Call
  Frame : ℕ → ℕ → Call

-- what a call answers: a datagram's reply, how many sources were lost, or a frame, none where the node lacks the port
pub data Answer : Type 0 where
  Replied : NodeTaken → Answer
  Lost : ℕ → Answer
  Shown : Option (List ℕ) → Answer

abbrev pub moment_of : Call → ℕ
moment_of (Take now octets) = now
moment_of (Tick now) = now
moment_of (Frame now port) = now

-- what the contracts of the calls say: the value after, and the answer
abbrev pub core_step : Call → Core → Core
core_step (Take now octets) n = after_reading (reading_packet octets) now n
core_step (Tick now) n = core_at now n
core_step (Frame now port) n = core_at now n

abbrev pub step : Call → Node → Node
step call n = record { ports = n.ports; core = core_step call n.core }

abbrev pub answer_to : Call → Node → Answer
answer_to (Take now octets) n = Replied (reply_to (reading_packet octets) now n.core)
answer_to (Tick now) n = Lost (core_lost now n.core)
answer_to (Frame now port) n = Shown (node_frame port (step (Frame now port) n))

-- a node that was given what a datagram was read as
abbrev pub with_reading : ℕ → Reading → Node → Node
with_reading now reading n = record { ports = n.ports; core = after_reading reading now n.core }

-- the value that a history leaves, from that of `new`
abbrev pub after_calls : List Port → List Call → Node
after_calls ports [] = new_node ports
after_calls ports (call ∷ earlier) = step call (after_calls ports earlier)

-- the moment in use after a history: the greatest that was handed in
abbrev pub moment_in_use : List Call → ℕ
moment_in_use [] = 0
moment_in_use (call ∷ earlier) = max (moment_in_use earlier) (moment_of call)

-- no call handed in a greater moment, and some call this one, or it is 0
pub record IsGreatestMoment (calls : List Call) (moment : ℕ) : Type 0 where
  pub greatest : All (λ call. moment_of call ≤ moment) calls
  pub handed_in : (moment ≡ 0) ⊎ Any (λ call. moment_of call ≡ moment) calls

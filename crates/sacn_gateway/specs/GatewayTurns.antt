-- What of what a gateway hears goes to its node. Lists of hearings have the latest first.
use Rattle.std.specs.Prelude.{◌||◌, ◌==◌, length, ℕ, Bool, not, List, [], ◌∷◌, if◌then◌else◌}
use Rattle.std.specs.List.{list_any}
use Rattle.sacn_node.specs.Showings.{same}
use Rattle.sacn_edge.specs.Hearings.{Heard, Silence, Octets, Fault}
use Rattle.sacn_edge.specs.NodeText.{Turn}
use Rattle.sacn_gateway.specs.declared.backlog.Backlog.{Backlog}
use Rattle.sacn_gateway.specs.Backlogs.{nothing_waits, with_datagram, is_late}
use Rattle.sacn_machine.specs.Hearings.{Came, None_there, From, Broken, Hearing}

-- the senders of an empty list are all that there are
abbrev pub is_admitted : List (List ℕ) → List ℕ → Bool
is_admitted senders sender = (length senders == 0) || list_any (λ s. same s sender) senders

-- a datagram that may be too old, or comes from another sender, isn't taken; the node's clock moves
abbrev pub heard_of : List (List ℕ) → Backlog → ℕ → Came → Heard
heard_of senders waits now None_there = Silence
heard_of senders waits now (From sender octets) = if is_late waits now || not (is_admitted senders sender) then Silence else Octets octets
heard_of senders waits now Broken = Fault

-- what is known of what waits, after a receive
abbrev pub backlog_with : Backlog → ℕ → Came → Backlog
backlog_with waits now None_there = nothing_waits now
backlog_with waits now (From sender octets) = with_datagram now waits
backlog_with waits now Broken = waits

abbrev pub backlog_by : Hearing → Backlog → Backlog
backlog_by h waits = backlog_with waits h.now h.came

-- the same after some hearings
abbrev pub backlog_after : Backlog → List Hearing → Backlog
backlog_after start [] = start
backlog_after start (h ∷ hs) = backlog_by h (backlog_after start hs)

-- what goes to the node, a turn for each hearing
abbrev pub turn_of : List (List ℕ) → Backlog → Hearing → Turn
turn_of senders waits h = record { now = h.now; heard = heard_of senders waits h.now h.came }

abbrev pub turns_of : List (List ℕ) → Backlog → List Hearing → List Turn
turns_of senders start [] = []
turns_of senders start (h ∷ hs) = turn_of senders (backlog_after start hs) h ∷ turns_of senders start hs

-- What a receiver brought, and in which order. Lists of hearings and of turns have the latest first.
use Rattle.std.specs.Prelude.{◌≤◌, ℕ, Bool, true, false, List, [], ◌∷◌, ◌++◌, take, ⊤}
use Rattle.sacn_machine.specs.declared.receiver.Arrival.{Arrival}
use Rattle.sacn_machine.specs.declared.receiver.Arrival.TheVariants.{Nothing, Datagram, Failed}
use Rattle.sacn_machine.specs.declared.receiver.Receipt.{Receipt}

-- what a receive brought: nothing, a sender's octets from an address, or a failure of the device
pub data Came : Type 0 where
  None_there : Came
  From : List ℕ → List ℕ → Came
  Broken : Came

-- the reading of the clock before a receive, and what it brought
pub record Hearing : Type 0 where
  pub now : ℕ
  pub came : Came

abbrev pub came_of : Arrival → List ℕ → Came
came_of Nothing buffer = None_there
came_of (Datagram n sender) buffer = From sender (take n buffer)
came_of Failed buffer = Broken

abbrev pub hearing_in : ℕ → Arrival → List ℕ → Hearing
hearing_in now arrival buffer = record { now = now; came = came_of arrival buffer }

-- what an answer of `receive` says of the buffer
abbrev pub hearing_of : Receipt → List ℕ → Hearing
hearing_of r buffer = hearing_in r.now r.arrival buffer

-- a datagram fits the buffer
abbrev pub FitsBuffer : Arrival → Type 0
FitsBuffer Nothing = ⊤
FitsBuffer (Datagram n sender) = n ≤ 2048
FitsBuffer Failed = ⊤

abbrev pub is_datagram : Came → Bool
is_datagram None_there = false
is_datagram (From sender octets) = true
is_datagram Broken = false

-- in the order of the calls
abbrev pub in_order : List Hearing → List Hearing
in_order [] = []
in_order (h ∷ hs) = in_order hs ++ h ∷ []

-- all that was heard, in the order of the calls
abbrev pub all_heard : List (List Hearing) → List Hearing
all_heard [] = []
all_heard (hs ∷ turns) = all_heard turns ++ in_order hs

abbrev pub ends_with_datagram : List Hearing → Bool
ends_with_datagram [] = true
ends_with_datagram (h ∷ hs) = is_datagram h.came

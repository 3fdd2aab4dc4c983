-- What a link brought and was given.
use Rattle.std.specs.Prelude.{◌≡◌, ◌≤◌, ℕ, Bool, true, false, List, ◌++◌, take, Option, None, Some, ⊤}
use Rattle.sacn_edge.specs.declared.link.Received.{Received}
use Rattle.sacn_edge.specs.declared.link.Received.TheVariants.{Nothing, Datagram, Failed}

-- what one receive brought: nothing, a datagram's octets, or a failure of the device
pub data Heard : Type 0 where
  Silence : Heard
  Octets : List ℕ → Heard
  Fault : Heard

-- each receive, and each datagram handed to `send` with the answer, in the order of the calls
pub record Transcript : Type 0 where
  pub heard : List Heard
  pub handed : List (List ℕ × Bool)

-- what an answer of `receive` says of the buffer
abbrev pub heard_of : Received → List ℕ → Heard
heard_of Nothing buffer = Silence
heard_of (Datagram n) buffer = Octets (take n buffer)
heard_of Failed buffer = Fault

-- a datagram fits the buffer
abbrev pub FitsBuffer : Received → Type 0
FitsBuffer Nothing = ⊤
FitsBuffer (Datagram n) = n ≤ 2048
FitsBuffer Failed = ⊤

-- a transcript told after some receives was told before them, and has these added
abbrev pub Hears : Option Transcript → Option Transcript → List Heard → Type 0
Hears old None more = ⊤
Hears None (Some new) more = ⊥
Hears (Some old) (Some new) more = (new.heard ≡ old.heard ++ more) × (new.handed ≡ old.handed)

-- the same of some sends
abbrev pub Hands : Option Transcript → Option Transcript → List (List ℕ × Bool) → Type 0
Hands old None more = ⊤
Hands None (Some new) more = ⊥
Hands (Some old) (Some new) more = (new.heard ≡ old.heard) × (new.handed ≡ old.handed ++ more)

abbrev pub is_datagram : Heard → Bool
is_datagram Silence = false
is_datagram (Octets octets) = true
is_datagram Fault = false

abbrev pub is_failure : Heard → Bool
is_failure Silence = false
is_failure (Octets octets) = false
is_failure Fault = true

-- What a link and a clock over memory bring.
use Rattle.std.specs.Prelude.{◌==◌, ◌-◌, ℕ, zero, suc, ◌+◌, Bool, not, false, List, [], ◌∷◌, ◌++◌, take, slice_get, slice_index, length, min, Option, None, Some, Vec}
use Rattle.std.specs.declared.alloc.Global.{Global}
use Rattle.sacn_edge.specs.Hearings.{Heard, Silence, Octets, Fault}
use Rattle.sacn_edge.specs.declared.memory.Incoming.{Incoming}
use Rattle.sacn_edge.specs.declared.memory.Incoming.TheVariants.{Nothing, Datagram, Failed}

-- what an item of the list brings, and what comes past its end; a datagram is cut to the buffer
abbrev pub heard_in : Option Incoming → Heard
heard_in None = Silence
heard_in (Some Nothing) = Silence
heard_in (Some (Datagram v)) = Octets (take 2048 v.items)
heard_in (Some Failed) = Fault

-- what the first receives bring
abbrev pub first_heard : List Incoming → ℕ → List Heard
first_heard items zero = []
first_heard items (suc n) = first_heard items n ++ heard_in (slice_get items n) ∷ []

-- whether the send at a place, from 0, fails
abbrev pub fails_at : Option ℕ → ℕ → Bool
fails_at None n = false
fails_at (Some k) n = k == n

-- each datagram with its answer, by its number
abbrev pub answered_from : Option ℕ → ℕ → List (Vec ℕ Global) → List (List ℕ × Bool)
answered_from failing n [] = []
answered_from failing n (v ∷ vs) = (v.items, not (fails_at failing n)) ∷ answered_from failing (n + 1) vs

-- the reading of a number: the list's, and past its end its last, 0 where it is empty
abbrev pub reading_at : List ℕ → ℕ → ℕ
reading_at list n = slice_index list (min n (length list - 1))

abbrev pub first_readings : List ℕ → ℕ → List ℕ
first_readings list zero = []
first_readings list (suc n) = first_readings list n ++ reading_at list n ∷ []

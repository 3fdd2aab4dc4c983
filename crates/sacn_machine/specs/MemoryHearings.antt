-- What a receiver over memory brings.
use Rattle.std.specs.Prelude.{ℕ, zero, suc, List, [], ◌∷◌, ◌++◌, take, slice_get, Option, None, Some}
use Rattle.sacn_machine.specs.declared.memory.TimedArrival.{TimedArrival}
use Rattle.sacn_machine.specs.declared.memory.TimedArrival.TheVariants.{Nothing, Datagram, Failed}
use Rattle.sacn_machine.specs.Hearings.{Hearing, None_there, From, Broken}

-- what an item of the list brings, and what comes past its end; a datagram is cut to the buffer
abbrev pub brought : ℕ → Option TimedArrival → Hearing
brought last None = record { now = last; came = None_there }
brought last (Some (Nothing now)) = record { now = now; came = None_there }
brought last (Some (Datagram now sender v)) = record { now = now; came = From sender (take 2048 v.items) }
brought last (Some (Failed now)) = record { now = now; came = Broken }

-- what the first receives bring, in order
abbrev pub first_brought : ℕ → List TimedArrival → ℕ → List Hearing
first_brought last items zero = []
first_brought last items (suc n) = first_brought last items n ++ brought last (slice_get items n) ∷ []

-- What a run of events answers and leaves.
use Rattle.std.specs.Prelude.{◌≡◌, ◌⊎◌, true, List, [], ◌∷◌, take, slice_get, Option, Some, None, Ok, Err}
use Rattle.sacn_world.specs.declared.answer.Answer.{Answer}
use Rattle.sacn_schedule.specs.declared.event.Event.{Event}
use Rattle.sacn_world.specs.declared.fault.RunFault.{RunFault}
use Rattle.sacn_world.specs.declared.fault.WorldFault.TheVariants.{OutOfMemory}
use Rattle.sacn_world.specs.Worlds.{World, Step, step, takes_memory}
use Rattle.sacn_world.specs.Invariants.{IsAccepted}

pub record Ran : Type 0 where
  pub answers : List Answer
  pub world : World

abbrev pub answered_first : Answer → Option Ran → Option Ran
answered_first a None = None
answered_first a (Some r) = Some (record { answers = a ∷ r.answers; world = r.world })

abbrev pub first_then : Step → (World → Option Ran) → Option Ran
first_then (Err fault) rest = None
first_then (Ok o) rest = answered_first o.answer (rest o.world)

-- the answers of a list of events, and the world after them; none where one is refused
abbrev pub ran : World → List Event → Option Ran
ran w [] = Some (record { answers = []; world = w })
ran w (e ∷ es) = first_then (step w e) (λ v. ran v es)

-- a run that stopped: the steps before have been taken and no others, and the event at the fault's step is refused with it, or
-- wants memory; or there was no room for the answers
abbrev pub Cause : World → List Event → RunFault → Type 0
Cause v es f =
    ((e : Event) × (slice_get es f.step ≡ Some e) × ((step v e ≡ Err f.fault) ⊎ ((f.fault ≡ OutOfMemory) × (takes_memory e ≡ true) × IsAccepted (step v e))))
    ⊎ ((f.step ≡ 0) × (f.fault ≡ OutOfMemory))

pub record Stopped (w : World) (es : List Event) (f : RunFault) (v : World) : Type 0 where
  pub answers : List Answer
  pub before : ran w (take f.step es) ≡ Some (record { answers = answers; world = v })
  pub cause : Cause v es f

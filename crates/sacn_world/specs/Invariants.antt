-- What a world keeps, and the world by places that it is.
use Rattle.std.specs.Prelude.{◌≡◌, ◌⊎◌, ℕ, List, map, slice_get, Some, Result, Ok, Err}
use Rattle.std.specs.List.{AllByRecursion}
use Rattle.sacn_world.specs.declared.answer.Answer.{Answer}
use Rattle.sacn_world.specs.declared.console.Console.{Console}
use Rattle.sacn_world.specs.declared.fault.WorldFault.{WorldFault}
use Rattle.sacn_world.specs.declared.fault.WorldFault.TheVariants.{OutOfMemory}
use Rattle.std.specs.Prelude.{true}
use Rattle.sacn_schedule.specs.declared.event.Event.{Event}
use Rattle.sacn_world.specs.Worlds.{World, Outcome, Step, takes_memory, WorldOk}
use Rattle.sacn_world.specs.Watches.{Watch, node_by_places, WatchOk}
use Rattle.sacn_world.specs.Wire.{SentDatagram, seen_sent, DatagramOk}

abbrev pub seen_world : List Console → List SentDatagram → List Watch → World
seen_world cs fs ws = record { consoles = cs; sent = map seen_sent fs; nodes = map node_by_places ws }

-- each datagram is read as what was sent and stands at its place, and each node core keeps what the places look like
pub record Kept (cs : List Console) (fs : List SentDatagram) (ws : List Watch) : Type 0 where
  pub ok : WorldOk (seen_world cs fs ws)
  pub datagrams : (k : ℕ) (f : SentDatagram) → slice_get fs k ≡ Some f → DatagramOk (map seen_sent fs) k f
  pub nodes : AllByRecursion (WatchOk (map seen_sent fs)) ws

-- ---- what a call answers and leaves

abbrev pub IsAccepted : Step → Type 0
IsAccepted s = (o : Outcome) × (s ≡ Ok o)

-- the step's answer and world, or its fault and the world as it was
abbrev pub Stepped : Step → Result Answer WorldFault → World → World → Type 0
Stepped s (Ok a) old new = s ≡ Ok (record { answer = a; world = new })
Stepped s (Err fault) old new = (s ≡ Err fault) × (new ≡ old)

-- the same, or want of memory where the step has an answer
abbrev pub SteppedWithRoom : Step → Result Answer WorldFault → World → World → Type 0
SteppedWithRoom s (Ok a) old new = s ≡ Ok (record { answer = a; world = new })
SteppedWithRoom s (Err fault) old new = ((s ≡ Err fault) ⊎ ((fault ≡ OutOfMemory) × IsAccepted s)) × (new ≡ old)

-- the step of an event; want of memory only where the event may take some
abbrev pub SteppedBy : Event → Step → Result Answer WorldFault → World → World → Type 0
SteppedBy e s (Ok a) old new = s ≡ Ok (record { answer = a; world = new })
SteppedBy e s (Err fault) old new = ((s ≡ Err fault) ⊎ ((fault ≡ OutOfMemory) × (takes_memory e ≡ true) × IsAccepted s)) × (new ≡ old)

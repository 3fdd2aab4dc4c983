-- An event as its values: octets are a list.
use Rattle.std.specs.Prelude.{ℕ, List}
use Rattle.sacn_console.specs.declared.command.Command.{Command}
use Rattle.sacn_schedule.specs.declared.event.Event.{Event}
use Rattle.sacn_schedule.specs.declared.event.Event.TheVariants as event

pub data Happening : Type 0 where
  Order : ℕ → ℕ → Command → Happening
  Poll : ℕ → ℕ → Happening
  Deliver : ℕ → ℕ → ℕ → Happening
  Look : ℕ → ℕ → ℕ → Happening
  RestartConsole : ℕ → ℕ → Happening
  RestartNode : ℕ → Happening
  Noise : ℕ → ℕ → List ℕ → Happening

abbrev pub happening : Event → Happening
happening (event.Order c m k) = Order c m k
happening (event.Poll c m) = Poll c m
happening (event.Deliver d n m) = Deliver d n m
happening (event.Look n p m) = Look n p m
happening (event.RestartConsole c f) = RestartConsole c f
happening (event.RestartNode n) = RestartNode n
happening (event.Noise n m octets) = Noise n m octets.items

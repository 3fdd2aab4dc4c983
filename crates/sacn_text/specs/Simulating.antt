-- What a simulation prints: the lines of the looks among a world's answers.
use Rattle.std.specs.Prelude.{◌≡◌, ◌⊎◌, ℕ, ◌+◌, ◌<◌, List, [], ◌∷◌, ◌++◌, codes, length, map, take, Bool, true, false, Option, Some, None, Ok, Err}
use Rattle.toml.specs.Parse.{parse_document}
use Rattle.sacn_world.specs.declared.answer.Answer.{Answer}
use Rattle.sacn_world.specs.declared.answer.Answer.TheVariants as answered
use Rattle.sacn_schedule.specs.declared.event.Event.{Event}
use Rattle.sacn_schedule.specs.declared.event.Event.TheVariants.{Order, Poll, Deliver, Look, RestartConsole, RestartNode, Noise}
use Rattle.sacn_world.specs.declared.fault.WorldFault.{WorldFault}
use Rattle.sacn_schedule.specs.Events.{happening}
use Rattle.sacn_schedule.specs.Schedules.{schedule_in}
use Rattle.sacn_schedule.specs.WorldFile.{WorldContent, world_or_toml}
use Rattle.sacn_world.specs.Worlds.{World, Step, step, new_world}
use Rattle.sacn_text.specs.Looks.{look_line, frame_words}
use Rattle.sacn_text.specs.declared.fault.SimFault.{SimFault}
use Rattle.sacn_text.specs.declared.fault.SimFault.TheVariants as sim

-- a look's line, by its answer
abbrev pub shown_line : ℕ → ℕ → ℕ → Answer → List ℕ
shown_line node port moment (answered.Shown frame) = look_line node port moment (frame_words frame)
shown_line node port moment answered.NoSuchPort = look_line node port moment (codes " noport")
shown_line node port moment (answered.Ordered r) = []
shown_line node port moment (answered.Sent k) = []
shown_line node port moment answered.Idle = []
shown_line node port moment (answered.Taken t) = []
shown_line node port moment answered.Restarted = []

-- other events print nothing
abbrev pub line_of : Event → Answer → List ℕ
line_of (Look node port moment) answer = shown_line node port moment answer
line_of (Order c m k) answer = []
line_of (Poll c m) answer = []
line_of (Deliver d n m) answer = []
line_of (RestartConsole c f) answer = []
line_of (RestartNode n) answer = []
line_of (Noise n m octets) answer = []

-- the text, and the first refused event
pub record Simulated : Type 0 where
  pub text : List ℕ
  pub refused : Option (ℕ × WorldFault)

abbrev pub then_line : List ℕ → Simulated → Simulated
then_line line s = record { text = line ++ s.text; refused = s.refused }

abbrev pub simulated_by : Event → Step → ℕ → (World → Simulated) → Simulated
simulated_by event (Err fault) i rest = record { text = []; refused = Some (i, fault) }
simulated_by event (Ok o) i rest = then_line (line_of event o.answer) (rest o.world)

-- what the events from number i on give
abbrev pub simulated : World → ℕ → List Event → Simulated
simulated w i [] = record { text = []; refused = None }
simulated w i (e ∷ es) = simulated_by e (step w e) i (λ v. simulated v (i + 1) es)

-- the world that a file describes, as it begins
abbrev pub world_at_start : WorldContent → World
world_at_start content = new_world content.0 (map (λ s. s.ports) content.1)

-- both texts are read: the world, and the events
pub record Reads (world schedule : List ℕ) (content : WorldContent) (events : List Event) : Type 0 where
  pub world_is : world_or_toml (parse_document world) ≡ Ok content
  pub events_are : schedule_in schedule ≡ Ok (map happening events)

-- what was written up to a fault, of a run over events: all up to a refused event, and otherwise a part
abbrev pub Breaks : SimFault → Bool → (List ℕ → Type 0) → Simulated → Type 0
Breaks sim.OutOfMemory failed Written s = (failed ≡ false) × ((n : ℕ) × Written (take n s.text))
Breaks (sim.Event i fault) failed Written s = (failed ≡ false) × (s.refused ≡ Some (i, fault)) × Written s.text
Breaks sim.WriteFailed failed Written s = (failed ≡ true) × ((n : ℕ) × (n < length s.text) × Written (take n s.text))
Breaks (sim.World fault) failed Written s = ⊥
Breaks (sim.Schedule fault) failed Written s = ⊥

-- a whole run of texts: every event was accepted, and the lines of its looks are written
abbrev pub Ends : Bool → (List ℕ → Type 0) → List ℕ → List ℕ → Type 0
Ends failed Written world schedule =
    (failed ≡ false) × ((content : WorldContent) × (events : List Event) × Reads world schedule content events
    × ((simulated (world_at_start content) 0 events).refused ≡ None) × Written (simulated (world_at_start content) 0 events).text)

-- a run of the events of both texts that breaks off
abbrev pub BreaksOff : SimFault → Bool → (List ℕ → Type 0) → List ℕ → List ℕ → Type 0
BreaksOff fault failed Written world schedule =
    (content : WorldContent) × (events : List Event) × Reads world schedule content events
    × Breaks fault failed Written (simulated (world_at_start content) 0 events)

-- a run of texts up to a fault: nothing is written where one of them is refused
abbrev pub Stops : SimFault → Bool → (List ℕ → Type 0) → List ℕ → List ℕ → Type 0
Stops (sim.World fault) failed Written world schedule = (failed ≡ false) × (world_or_toml (parse_document world) ≡ Err fault) × Written []
Stops (sim.Schedule fault) failed Written world schedule =
    (failed ≡ false) × ((content : WorldContent) × (world_or_toml (parse_document world) ≡ Ok content) × (schedule_in schedule ≡ Err fault) × Written [])
Stops sim.OutOfMemory failed Written world schedule = ((failed ≡ false) × Written []) ⊎ BreaksOff sim.OutOfMemory failed Written world schedule
Stops (sim.Event i fault) failed Written world schedule = BreaksOff (sim.Event i fault) failed Written world schedule
Stops sim.WriteFailed failed Written world schedule = BreaksOff sim.WriteFailed failed Written world schedule

-- What a console does in a world, by the commands and datagrams of its present life.
use Rattle.std.specs.Prelude.{◌≡◌, ℕ, max, ◌==◌, if◌then◌else◌, List, [], ◌∷◌, ◌++◌, slice_get, Some, Ok}
use Rattle.sacn_console.specs.declared.command.Command.{Command}
use Rattle.sacn_console.specs.Due.{Life, life_of, due_by_list, answer_by_list}
use Rattle.sacn_console.specs.Lines.{Deed}
use Rattle.sacn_console.specs.Runs.{Call, Order, Poll, deeds_after}
use Rattle.sacn_node.specs.Setup.{Port}
use Rattle.sacn_world.specs.declared.answer.Answer.TheVariants as answered
use Rattle.sacn_schedule.specs.declared.event.Event.{Event}
use Rattle.sacn_schedule.specs.declared.event.Event.TheVariants as event
use Rattle.sacn_schedule.specs.Cids.{Desk}
use Rattle.sacn_world.specs.Worlds.{World, Console, Outcome, step, poll_by}
use Rattle.sacn_world.specs.Laws.{reached}

-- the commands and polls of console i in its present life, with an event more
abbrev pub calls_with : ℕ → Event → List Call → List Call
calls_with i (event.Order j m k) calls = if j == i then calls ++ Order m k ∷ [] else calls
calls_with i (event.Poll j m) calls = if j == i then calls ++ Poll m ∷ [] else calls
calls_with i (event.Deliver k j m) calls = calls
calls_with i (event.Look j port m) calls = calls
calls_with i (event.RestartConsole j first) calls = if j == i then [] else calls
calls_with i (event.RestartNode j) calls = calls
calls_with i (event.Noise j m octets) calls = calls

abbrev pub calls_in : ℕ → List Event → List Call → List Call
calls_in i [] calls = calls
calls_in i (e ∷ es) calls = calls_in i es (calls_with i e calls)

-- the first number of its present life, with an event more
abbrev pub first_with : ℕ → Event → ℕ → ℕ
first_with i (event.Order j m k) f = f
first_with i (event.Poll j m) f = f
first_with i (event.Deliver k j m) f = f
first_with i (event.Look j port m) f = f
first_with i (event.RestartConsole j first) f = if j == i then first else f
first_with i (event.RestartNode j) f = f
first_with i (event.Noise j m octets) f = f

abbrev pub first_in : ℕ → List Event → ℕ → ℕ
first_in i [] f = f
first_in i (e ∷ es) f = first_in i es (first_with i e f)

-- the greatest moment that the calls handed in
abbrev pub moment_of : ℕ → List Call → ℕ
moment_of t [] = t
moment_of t (Order now k ∷ calls) = moment_of (max t now) calls
moment_of t (Poll now ∷ calls) = moment_of (max t now) calls

-- console i of a world: a poll gives what is due by the deeds of this life, at the greatest moment handed in; a command is
-- answered by them
pub record DoesWhatIsDue (w : World) (i : ℕ) (c : Console) (life : Life) (t : ℕ) (deeds : List Deed) : Type 0 where
  pub polls : (m : ℕ) → step w (event.Poll i m) ≡ Ok (poll_by w i m c (due_by_list life (max t m) deeds))
  pub orders : (m : ℕ) (k : Command) (o : Outcome) → step w (event.Order i m k) ≡ Ok o → o.answer ≡ answered.Ordered (answer_by_list life k deeds)

-- In every world that a list of events comes to, each console does what is due by the list of its present life's accepted
-- commands and datagrams, whatever its earlier lives did
abbrev pub ConsolesDoWhatIsDue : Type 0
ConsolesDoWhatIsDue =
    (shows : List Desk) (setups : List (List Port)) (events : List Event) (i : ℕ) (desk : Desk) (c : Console) → slice_get shows i ≡ Some desk →
    slice_get (reached shows setups events).consoles i ≡ Some c →
    let life = life_of desk.0 (first_in i events desk.1) in
    let calls = calls_in i events [] in
    DoesWhatIsDue (reached shows setups events) i c life (moment_of 0 calls) (deeds_after life 0 [] calls)

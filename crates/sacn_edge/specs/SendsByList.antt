-- What a console hands over in its run, by the list of what was done in its life alone.
use Rattle.std.specs.Prelude.{◌≡◌, ℕ, ◌+◌, is_ok, List, [], ◌∷◌, ◌++◌, if◌then◌else◌}
use Rattle.sacn_console.specs.declared.sender.Sender.{Sender}
use Rattle.sacn_console.specs.Due.{Life}
use Rattle.sacn_console.specs.Runs.{Call, Order, Poll, Answer, Ordered, Polled, core_by, answers_by_list}
use Rattle.sacn_edge.specs.ConsoleSends.{Script, lines_at, reader_after, octets_of, console_sends, refused_by}

-- the calls of a turn: its lines as commands, and then one poll
abbrev pub turn_calls : ℕ → Script → List Call
turn_calls now [] = Poll now ∷ []
turn_calls now (line ∷ lines) = Order now line.1 ∷ turn_calls now lines

-- the calls of some turns, in their order
abbrev pub run_calls : Script → List ℕ → List Call
run_calls script [] = []
run_calls script (now ∷ readings) = run_calls script readings ++ turn_calls now (lines_at now (reader_after script readings))

-- the datagrams among some answers
abbrev pub given_in : Sender → List Answer → List (List ℕ)
given_in sender [] = []
given_in sender (Ordered result ∷ rest) = given_in sender rest
given_in sender (Polled d ∷ rest) = octets_of sender d ++ given_in sender rest

-- how many commands are refused
abbrev pub refused_in : List Answer → ℕ
refused_in [] = 0
refused_in (Ordered result ∷ rest) = (if is_ok result then 0 else 1) + refused_in rest
refused_in (Polled d ∷ rest) = refused_in rest

-- From the start of a life, what is handed over and how many commands are refused is what the list of what was done says.
abbrev pub SendsAreByTheList : Type 0
SendsAreByTheList = (life : Life) (script : Script) (readings : List ℕ)
    → (console_sends (core_by life 0 []) script readings ≡ given_in life.sender (answers_by_list life 0 [] (run_calls script readings)))
    × (refused_by (core_by life 0 []) script readings ≡ refused_in (answers_by_list life 0 [] (run_calls script readings)))

-- What a console hands over is among the answers of its calls.
use Rattle.std.proofs.Common.{◌≡◌, ℕ, ◌+◌, List, [], ◌∷◌, ◌++◌, refl, sym, ap, ◌∙◌, append_assoc, zero-add, arith, Option, Some, None, Result, Ok, Err, is_ok, if◌then◌else◌}
use Rattle.sacn_console.specs.declared.sender.Sender.{Sender}
use Rattle.sacn_console.specs.declared.command.Command.{Command}
use Rattle.sacn_console.specs.declared.command.ConsoleFault.{ConsoleFault}
use Rattle.sacn_console.specs.Lines.{Datagram}
use Rattle.sacn_console.specs.Core.{Core, at, after, given, taken, answer, due, after_command, after_poll}
use Rattle.sacn_console.specs.Due.{Life}
use Rattle.sacn_console.specs.Runs.{Call, Order, Poll, Answer, Ordered, Polled, core_by, answers, StepsAreTheList}
use Rattle.sacn_edge.specs.ConsoleSends.{Script, lines_at, reader_after, ordered, core_after, commanded, refusals, octets_of, console_sends, refused_by}
use Rattle.sacn_edge.specs.SendsByList.{turn_calls, run_calls, given_in, refused_in, SendsAreByTheList}
use Rattle.sacn_edge.proofs.ConsoleLemmas.{append_nil}

after_all : Core → List Call → Core
after_all c [] = c
after_all c (Order now k ∷ calls) = after_all (after_command now k c) calls
after_all c (Poll now ∷ calls) = after_all (after_poll now c) calls

answers-append : (c : Core) (xs ys : List Call) → answers c (xs ++ ys) ≡ answers c xs ++ answers (after_all c xs) ys
unfolding after_all
answers-append c [] ys = refl
answers-append c (Order now k ∷ xs) ys = ap (λ rest. Ordered (answer k (at now c)) ∷ rest) (answers-append (after_command now k c) xs ys)
answers-append c (Poll now ∷ xs) ys = ap (λ rest. Polled (due (at now c)) ∷ rest) (answers-append (after_poll now c) xs ys)

after_all-append : (c : Core) (xs ys : List Call) → after_all c (xs ++ ys) ≡ after_all (after_all c xs) ys
unfolding after_all
after_all-append c [] ys = refl
after_all-append c (Order now k ∷ xs) ys = after_all-append (after_command now k c) xs ys
after_all-append c (Poll now ∷ xs) ys = after_all-append (after_poll now c) xs ys

given_in-append : (s : Sender) (xs ys : List Answer) → given_in s (xs ++ ys) ≡ given_in s xs ++ given_in s ys
given_in-append s [] ys = refl
given_in-append s (Ordered r ∷ xs) ys = given_in-append s xs ys
given_in-append s (Polled d ∷ xs) ys = ap (λ os. octets_of s d ++ os) (given_in-append s xs ys) ∙ sym (append_assoc (octets_of s d) (given_in s xs) (given_in s ys))

refused_in-append : (xs ys : List Answer) → refused_in (xs ++ ys) ≡ refused_in xs + refused_in ys
refused_in-append [] ys = sym (zero-add (refused_in ys))
refused_in-append (Ordered r ∷ xs) ys = let rest = refused_in-append xs ys in omega (arith, rest)
refused_in-append (Polled d ∷ xs) ys = refused_in-append xs ys

-- ---- a turn

turn_core : (now : ℕ) (ls : Script) (c : Core) → after_all c (turn_calls now ls) ≡ after_poll now (commanded now ls c)
unfolding after_all
turn_core now [] c = refl
turn_core now (l ∷ ls) c = turn_core now ls (after_command now l.1 c)

turn_given : (s : Sender) (now : ℕ) (ls : Script) (c : Core) → given_in s (answers c (turn_calls now ls)) ≡ octets_of s (due (at now (commanded now ls c)))
turn_given s now [] c = append_nil (octets_of s (due (at now c)))
turn_given s now (l ∷ ls) c = turn_given s now ls (after_command now l.1 c)

turn_refused : (now : ℕ) (ls : Script) (c : Core) → refused_in (answers c (turn_calls now ls)) ≡ refusals now ls c
turn_refused now [] c = refl
turn_refused now (l ∷ ls) c = ap (λ n. (if is_ok (answer l.1 (at now c)) then 0 else 1) + n) (turn_refused now ls (after_command now l.1 c))

-- ---- the sender stays

taken_sender : (k : Command) (r : Result (Unit {0}) ConsoleFault) (c : Core) → (taken k r c).sender ≡ c.sender
unfolding after
taken_sender k (Ok x) c = refl
taken_sender k (Err e) c = refl

commanded_sender : (now : ℕ) (ls : Script) (c : Core) → (commanded now ls c).sender ≡ c.sender
commanded_sender now [] c = refl
commanded_sender now (l ∷ ls) c = commanded_sender now ls (after_command now l.1 c) ∙ taken_sender l.1 (answer l.1 (at now c)) (at now c)

given_sender : (d : Option Datagram) (c : Core) → (given d c).sender ≡ c.sender
unfolding after
given_sender None c = refl
given_sender (Some d) c = refl

-- ---- a run

module _ (first : Core) (script : Script) where
  run_core : (readings : List ℕ) → after_all first (run_calls script readings) ≡ core_after first script readings
  unfolding after_all
  run_core [] = refl
  run_core (now ∷ rs) =
      let lines = lines_at now (reader_after script rs) in
      after_all-append first (run_calls script rs) (turn_calls now lines)
      ∙ turn_core now lines (after_all first (run_calls script rs))
      ∙ ap (λ c. after_poll now (commanded now lines c)) (run_core rs)

  run_sender : (readings : List ℕ) → (core_after first script readings).sender ≡ first.sender
  run_sender [] = refl
  run_sender (now ∷ rs) =
      let c = ordered now script rs (core_after first script rs) in
      given_sender (due (at now c)) (at now c)
      ∙ commanded_sender now (lines_at now (reader_after script rs)) (core_after first script rs)
      ∙ run_sender rs

  run_given : (readings : List ℕ) → given_in first.sender (answers first (run_calls script readings)) ≡ console_sends first script readings
  run_given [] = refl
  run_given (now ∷ rs) =
      let lines = lines_at now (reader_after script rs) in
      let calls = run_calls script rs in
      let c = ordered now script rs (core_after first script rs) in
      ap (given_in first.sender) (answers-append first calls (turn_calls now lines))
      ∙ given_in-append first.sender (answers first calls) (answers (after_all first calls) (turn_calls now lines))
      ∙ ap (λ os. os ++ given_in first.sender (answers (after_all first calls) (turn_calls now lines))) (run_given rs)
      ∙ ap (λ c. console_sends first script rs ++ given_in first.sender (answers c (turn_calls now lines))) (run_core rs)
      ∙ ap (λ os. console_sends first script rs ++ os) (turn_given first.sender now lines (core_after first script rs))
      ∙ ap (λ s. console_sends first script rs ++ octets_of s (due (at now c))) (sym (commanded_sender now lines (core_after first script rs) ∙ run_sender rs))

  run_refused : (readings : List ℕ) → refused_in (answers first (run_calls script readings)) ≡ refused_by first script readings
  run_refused [] = refl
  run_refused (now ∷ rs) =
      let lines = lines_at now (reader_after script rs) in
      let calls = run_calls script rs in
      ap refused_in (answers-append first calls (turn_calls now lines))
      ∙ refused_in-append (answers first calls) (answers (after_all first calls) (turn_calls now lines))
      ∙ ap (λ n. n + refused_in (answers (after_all first calls) (turn_calls now lines))) (run_refused rs)
      ∙ ap (λ c. refused_by first script rs + refused_in (answers c (turn_calls now lines))) (run_core rs)
      ∙ ap (λ n. refused_by first script rs + n) (turn_refused now lines (core_after first script rs))

first_sender : (life : Life) → (core_by life 0 []).sender ≡ life.sender
unfolding core_by
first_sender life = refl

pub sends_by_list : StepsAreTheList → SendsAreByTheList
sends_by_list steps life script readings =
    let first = core_by life 0 [] in (
      sym (run_given first script readings)
          ∙ ap (λ s. given_in s (answers first (run_calls script readings))) (first_sender life)
          ∙ ap (given_in life.sender) (steps life (run_calls script readings)),
      sym (run_refused first script readings) ∙ ap refused_in (steps life (run_calls script readings)),
    )

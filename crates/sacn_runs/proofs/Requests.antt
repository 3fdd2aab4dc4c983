-- What requests make of a console core, and that those of a loop's turns make what the loop does.
use Rattle.std.proofs.Common.{◌≡◌, ℕ, ◌+◌, List, [], ◌∷◌, ◌++◌, map, refl, sym, ap, ◌∙◌, append_assoc, append-nil, arith, Option, Some, None, Result, Ok, Err, is_ok, if◌then◌else◌}
use Rattle.std.proofs.lemmas.List.{map-append}
use Rattle.sacn_console.specs.declared.sender.Sender.{Sender}
use Rattle.sacn_console.specs.declared.command.Command.{Command}
use Rattle.sacn_console.specs.declared.command.ConsoleFault.{ConsoleFault}
use Rattle.sacn_console.specs.Lines.{Datagram}
use Rattle.sacn_console.specs.Core.{Core, at, after, given, taken, answer, due, after_command, after_poll}
use Rattle.sacn_console.specs.Due.{Life}
use Rattle.sacn_console.specs.Runs.{Call, Order, Poll, core_by, answers, answers_by_list, StepsAreTheList}
use Rattle.sacn_edge.specs.ConsoleSends.{Script, lines_at, reader_after, core_after, commanded, refusals, octets_of, sent_at, console_sends, refused_by}
use Rattle.sacn_edge.specs.SendsByList.{turn_calls, run_calls, given_in, refused_in}
use Rattle.sacn_runs.specs.UsedConsoles.{used, SendsGoOnByTheList}

abbrev pub Requests : Type 0
Requests = List (Option Call)

-- the core after requests, what it gives, and how many commands it refuses; a start anew isn't followed
abbrev pub over : Requests → Core → Core
over [] c = c
over (None ∷ rs) c = over rs c
over (Some (Order now k) ∷ rs) c = over rs (after_command now k c)
over (Some (Poll now) ∷ rs) c = over rs (after_poll now c)

abbrev pub gave : Requests → Core → List (List ℕ)
gave [] c = []
gave (None ∷ rs) c = gave rs c
gave (Some (Order now k) ∷ rs) c = gave rs (after_command now k c)
gave (Some (Poll now) ∷ rs) c = octets_of c.sender (due (at now c)) ++ gave rs (after_poll now c)

abbrev pub refused_count : Requests → Core → ℕ
refused_count [] c = 0
refused_count (None ∷ rs) c = refused_count rs c
refused_count (Some (Order now k) ∷ rs) c = (if is_ok (answer k (at now c)) then 0 else 1) + refused_count rs (after_command now k c)
refused_count (Some (Poll now) ∷ rs) c = refused_count rs (after_poll now c)

pub over-append : (xs ys : Requests) (c : Core) → over (xs ++ ys) c ≡ over ys (over xs c)
over-append [] ys c = refl
over-append (None ∷ xs) ys c = over-append xs ys c
over-append (Some (Order now k) ∷ xs) ys c = over-append xs ys (after_command now k c)
over-append (Some (Poll now) ∷ xs) ys c = over-append xs ys (after_poll now c)

pub gave-append : (xs ys : Requests) (c : Core) → gave (xs ++ ys) c ≡ gave xs c ++ gave ys (over xs c)
gave-append [] ys c = refl
gave-append (None ∷ xs) ys c = gave-append xs ys c
gave-append (Some (Order now k) ∷ xs) ys c = gave-append xs ys (after_command now k c)
gave-append (Some (Poll now) ∷ xs) ys c =
    ap (λ os. octets_of c.sender (due (at now c)) ++ os) (gave-append xs ys (after_poll now c))
    ∙ sym (append_assoc (octets_of c.sender (due (at now c))) (gave xs (after_poll now c)) (gave ys (over xs (after_poll now c))))

pub refused-append : (xs ys : Requests) (c : Core) → refused_count (xs ++ ys) c ≡ refused_count xs c + refused_count ys (over xs c)
refused-append [] ys c = omega arith
refused-append (None ∷ xs) ys c = refused-append xs ys c
refused-append (Some (Order now k) ∷ xs) ys c = let rest = refused-append xs ys (after_command now k c) in omega (arith, rest)
refused-append (Some (Poll now) ∷ xs) ys c = refused-append xs ys (after_poll now c)

-- ---- a turn

turn_over : (now : ℕ) (ls : Script) (c : Core) → over (map Some (turn_calls now ls)) c ≡ after_poll now (commanded now ls c)
turn_over now [] c = refl
turn_over now (l ∷ ls) c = turn_over now ls (after_command now l.1 c)

turn_gave : (now : ℕ) (ls : Script) (c : Core) → gave (map Some (turn_calls now ls)) c ≡ sent_at now (commanded now ls c)
turn_gave now [] c = append-nil (octets_of c.sender (due (at now c)))
turn_gave now (l ∷ ls) c = turn_gave now ls (after_command now l.1 c)

turn_refused : (now : ℕ) (ls : Script) (c : Core) → refused_count (map Some (turn_calls now ls)) c ≡ refusals now ls c
turn_refused now [] c = refl
turn_refused now (l ∷ ls) c = ap (λ n. (if is_ok (answer l.1 (at now c)) then 0 else 1) + n) (turn_refused now ls (after_command now l.1 c))

-- ---- a loop

module _ (first : Core) (script : Script) where
  abbrev loop : List ℕ → Requests
  loop readings = map Some (run_calls script readings)

  abbrev turn : ℕ → List ℕ → Requests
  turn now readings = map Some (turn_calls now (lines_at now (reader_after script readings)))

  loop_more : (now : ℕ) (rs : List ℕ) → loop (now ∷ rs) ≡ loop rs ++ turn now rs
  loop_more now rs = map-append Some (run_calls script rs) (turn_calls now (lines_at now (reader_after script rs)))

  pub loop_over : (readings : List ℕ) → over (loop readings) first ≡ core_after first script readings
  loop_over [] = refl
  loop_over (now ∷ rs) =
      ap (λ xs. over xs first) (loop_more now rs)
      ∙ over-append (loop rs) (turn now rs) first
      ∙ ap (over (turn now rs)) (loop_over rs)
      ∙ turn_over now (lines_at now (reader_after script rs)) (core_after first script rs)

  pub loop_gave : (readings : List ℕ) → gave (loop readings) first ≡ console_sends first script readings
  loop_gave [] = refl
  loop_gave (now ∷ rs) =
      ap (λ xs. gave xs first) (loop_more now rs)
      ∙ gave-append (loop rs) (turn now rs) first
      ∙ ap (λ os. os ++ gave (turn now rs) (over (loop rs) first)) (loop_gave rs)
      ∙ ap (λ c. console_sends first script rs ++ gave (turn now rs) c) (loop_over rs)
      ∙ ap (λ os. console_sends first script rs ++ os) (turn_gave now (lines_at now (reader_after script rs)) (core_after first script rs))

  pub loop_refused : (readings : List ℕ) → refused_count (loop readings) first ≡ refused_by first script readings
  loop_refused [] = refl
  loop_refused (now ∷ rs) =
      ap (λ xs. refused_count xs first) (loop_more now rs)
      ∙ refused-append (loop rs) (turn now rs) first
      ∙ ap (λ n. n + refused_count (turn now rs) (over (loop rs) first)) (loop_refused rs)
      ∙ ap (λ c. refused_by first script rs + refused_count (turn now rs) c) (loop_over rs)
      ∙ ap (λ n. refused_by first script rs + n) (turn_refused now (lines_at now (reader_after script rs)) (core_after first script rs))

-- ---- a core that was used before

used_is : (c : Core) (calls : List Call) → over (map Some calls) c ≡ used c calls
used_is c [] = refl
used_is c (Order now k ∷ calls) = used_is (after_command now k c) calls
used_is c (Poll now ∷ calls) = used_is (after_poll now c) calls

taken_sender : (k : Command) (r : Result (Unit {0}) ConsoleFault) (c : Core) → (taken k r c).sender ≡ c.sender
unfolding after
taken_sender k (Ok x) c = refl
taken_sender k (Err e) c = refl

given_sender : (d : Option Datagram) (c : Core) → (given d c).sender ≡ c.sender
unfolding after
given_sender None c = refl
given_sender (Some d) c = refl

given_so : (s : Sender) (c : Core) (calls : List Call) → c.sender ≡ s → given_in s (answers c calls) ≡ gave (map Some calls) c
given_so s c [] is = refl
given_so s c (Order now k ∷ calls) is = given_so s (after_command now k c) calls (taken_sender k (answer k (at now c)) (at now c) ∙ is)
given_so s c (Poll now ∷ calls) is =
    ap (λ z. octets_of z (due (at now c)) ++ given_in s (answers (after_poll now c) calls)) (sym is)
    ∙ ap (λ os. octets_of c.sender (due (at now c)) ++ os) (given_so s (after_poll now c) calls (given_sender (due (at now c)) (at now c) ∙ is))

refused_so : (c : Core) (calls : List Call) → refused_in (answers c calls) ≡ refused_count (map Some calls) c
refused_so c [] = refl
refused_so c (Order now k ∷ calls) = ap (λ n. (if is_ok (answer k (at now c)) then 0 else 1) + n) (refused_so (after_command now k c) calls)
refused_so c (Poll now ∷ calls) = refused_so (after_poll now c) calls

first_sender : (life : Life) → (core_by life 0 []).sender ≡ life.sender
unfolding core_by
first_sender life = refl

pub sends_go_on : StepsAreTheList → SendsGoOnByTheList
sends_go_on steps life before script readings =
    let start = core_by life 0 [] in
    let calls = run_calls script readings in
    let first = used start before in
    let both = map-append Some before calls in (
      ap (given_in life.sender) (sym (steps life (before ++ calls)))
          ∙ given_so life.sender start (before ++ calls) (first_sender life)
          ∙ ap (λ rs. gave rs start) both
          ∙ gave-append (map Some before) (map Some calls) start
          ∙ ap (λ os. os ++ gave (map Some calls) (over (map Some before) start)) (sym (given_so life.sender start before (first_sender life)) ∙ ap (given_in life.sender) (steps life before))
          ∙ ap (λ c. given_in life.sender (answers_by_list life 0 [] before) ++ gave (map Some calls) c) (used_is start before)
          ∙ ap (λ os. given_in life.sender (answers_by_list life 0 [] before) ++ os) (loop_gave first script readings),
      ap refused_in (sym (steps life (before ++ calls)))
          ∙ refused_so start (before ++ calls)
          ∙ ap (λ rs. refused_count rs start) both
          ∙ refused-append (map Some before) (map Some calls) start
          ∙ ap (λ n. n + refused_count (map Some calls) (over (map Some before) start)) (sym (refused_so start before) ∙ ap refused_in (steps life before))
          ∙ ap (λ c. refused_in (answers_by_list life 0 [] before) + refused_count (map Some calls) c) (used_is start before)
          ∙ ap (λ n. refused_in (answers_by_list life 0 [] before) + n) (loop_refused first script readings),
    )

-- What a line keeps of a mode, and when it is due.
use Rattle.std.proofs.Common.{◌≡◌, ℕ, ◌-◌, ◌≤◌, Bool, true, false, not, ◌&&◌, ◌||◌, cond, nat_lt, nat_le, List, [], ◌∷◌, Option, Some, None, suc, zero, refl, arith}
use Rattle.sacn_console.specs.declared.limits.TheConstants.{MIN_GAP, KEEP_ALIVE, REPEATS, TERMINATIONS}
use Rattle.sacn_console.specs.Lines.{same, has_passed, asks, is_ending, is_stopped}
use Rattle.sacn_console.specs.Core.{end_answer, start_answer}
use Rattle.sacn_console.specs.Due.{Sent, Ends, Stops, terminations, mode_by, follow_new, due_in, is_stop, is_end, end_in, start_in}
use Rattle.sacn_console.specs.Runs.{state_by}
use Rattle.sacn_console.specs.declared.line.State.TheVariants.{Ending, Stopped}

-- ---- states and modes

pub stop_same : (e : Bool) (ss : List Sent) → is_stopped (state_by e ss) ≡ is_stop (mode_by e (terminations ss))
stop_same true ss =
    elim (nat_lt (terminations ss) TERMINATIONS) as (λ b. is_stopped (cond b (Ending (TERMINATIONS - terminations ss)) Stopped) ≡ is_stop (cond b Ends Stops)) [ true ↦ refl | false ↦ refl ]
stop_same false [] = refl
stop_same false (a ∷ ss) = refl

pub end_same : (e : Bool) (ss : List Sent) → is_ending (state_by e ss) ≡ is_end (mode_by e (terminations ss))
end_same true ss =
    elim (nat_lt (terminations ss) TERMINATIONS) as (λ b. is_ending (cond b (Ending (TERMINATIONS - terminations ss)) Stopped) ≡ is_end (cond b Ends Stops)) [ true ↦ refl | false ↦ refl ]
end_same false [] = refl
end_same false (a ∷ ss) = refl

pub end_answered : (e : Bool) (ss : List Sent) → end_answer (state_by e ss) ≡ end_in (mode_by e (terminations ss))
end_answered true ss =
    elim (nat_lt (terminations ss) TERMINATIONS) as (λ b. end_answer (cond b (Ending (TERMINATIONS - terminations ss)) Stopped) ≡ end_in (cond b Ends Stops)) [ true ↦ refl | false ↦ refl ]
end_answered false [] = refl
end_answered false (a ∷ ss) = refl

pub start_answered : (e : Bool) (ss : List Sent) → start_answer (state_by e ss) ≡ start_in (mode_by e (terminations ss))
start_answered true ss =
    elim (nat_lt (terminations ss) TERMINATIONS) as (λ b. start_answer (cond b (Ending (TERMINATIONS - terminations ss)) Stopped) ≡ start_in (cond b Ends Stops)) [ true ↦ refl | false ↦ refl ]
start_answered false [] = refl
start_answered false (a ∷ ss) = refl

-- ---- due

later_too : (a b x : ℕ) → a ≤ b → nat_le b x ≡ true → nat_le a x ≡ true
later_too a b x le h = grind arith

passed_both : (t : ℕ) (last : Option ℕ) → has_passed 900 t last ≡ true → has_passed 25 t last ≡ true
passed_both t None h = refl
passed_both t (Some m) h = later_too 25 900 (t - m) (omega arith) h

either : (p q o n : Bool) → (q ≡ true → p ≡ true) → (p && (o || (q || n))) ≡ ((p && (n || o)) || q)
either true true true true h = refl
either true true true false h = refl
either true true false true h = refl
either true true false false h = refl
either true false true true h = refl
either true false true false h = refl
either true false false true h = refl
either true false false false h = refl
either false true o n h = h refl
either false false true true h = refl
either false false true false h = refl
either false false false true h = refl
either false false false false h = refl

first_too : (p q : Bool) → (q ≡ true → p ≡ true) → (p && true) ≡ ((p && true) || q)
first_too true true h = refl
first_too true false h = refl
first_too false true h = h refl
first_too false false h = refl

always_asked : (p : Bool) → (p && true) ≡ p
always_asked true = refl
always_asked false = refl

never_asked : (p : Bool) → (p && false) ≡ false
never_asked true = refl
never_asked false = refl

owed_same : (n : ℕ) → nat_lt 0 (3 - n) ≡ nat_lt n 3
owed_same zero = refl
owed_same (suc zero) = refl
owed_same (suc (suc zero)) = refl
owed_same (suc (suc (suc n))) = grind arith

pub state_due_same : (f : List ℕ) (t : ℕ) (last : Option ℕ) (e : Bool) (ss : List Sent) → (has_passed MIN_GAP t last && asks t last f (state_by e ss)) ≡ due_in (mode_by e (terminations ss)) t last f ss
state_due_same f t last true ss =
    elim (nat_lt (terminations ss) TERMINATIONS) as (λ b. (has_passed MIN_GAP t last && asks t last f (cond b (Ending (TERMINATIONS - terminations ss)) Stopped)) ≡ due_in (cond b Ends Stops) t last f ss) [ true ↦ always_asked (has_passed MIN_GAP t last) | false ↦ never_asked (has_passed MIN_GAP t last) ]
state_due_same f t last false [] = first_too (has_passed MIN_GAP t last) (has_passed KEEP_ALIVE t last) (passed_both t last)
state_due_same f t last false (a ∷ ss) =
    rw (owed_same (follow_new (a ∷ ss)))
    (either (has_passed MIN_GAP t last) (has_passed KEEP_ALIVE t last) (nat_lt (follow_new (a ∷ ss)) REPEATS) (not (same a.data_sent.slots f)) (passed_both t last))

-- What a schedule's lines give: each its event, or one of them the first fault.
use Rattle.std.specs.Prelude.{IfOk, IfErr, Vec}
use Rattle.std.specs.declared.alloc.Global.{Global}
use Rattle.std.proofs.Common.{ℕ, ◌≡◌, ◌⊎◌, inl, inr, List, [], ◌∷◌, map, Result, Ok, Err, refl, ap}
use Rattle.sacn_files.specs.Lines.{Said, said_lines, entries_of, before}
use Rattle.sacn_files.specs.declared.faults.TextFault.{TextFault}
use Rattle.sacn_files.specs.declared.faults.TextFault.TheVariants.{OutOfMemory}
use Rattle.sacn_schedule.specs.declared.event.Event.{Event}
use Rattle.sacn_schedule.specs.Events.{Happening, happening}
use Rattle.sacn_schedule.specs.Schedules.{event_in, schedule_in, AreGiven, IsFirstFault, GivesEvents}

abbrev Given : Type 0
Given = Result (List Happening) TextFault

ok_is : (xs ys : List Happening) → Path Given (Ok xs) (Ok ys) → xs ≡ ys
ok_is xs ys e = cc

err_is : (f g : TextFault) → Path Given (Err f) (Err g) → f ≡ g
err_is f g e = cc

-- an entry before others gives all of them
both : (r : Result Happening TextFault) (later : Given) (hs : List Happening) → before r later ≡ Ok hs
    → (h : Happening) × (rest : List Happening) × (r ≡ Ok h) × (later ≡ Ok rest) × (h ∷ rest ≡ hs)
both (Err f) later hs e = let bad : ⊥ = cc in absurd bad
both (Ok h) (Err f) hs e = let bad : ⊥ = cc in absurd bad
both (Ok h) (Ok rest) hs e = (h, rest, refl, refl, ok_is (h ∷ rest) hs e)

more_given : (l : Said) (ls : List Said) (h : Happening) (rest hs : List Happening) → event_in l.0 l.1 ≡ Ok h → AreGiven ls rest → h ∷ rest ≡ hs → AreGiven (l ∷ ls) hs
more_given l ls h rest hs e later is = rw (← is, e, later) refl

pub all_given : (ls : List Said) (hs : List Happening) → entries_of event_in ls ≡ Ok hs → AreGiven ls hs
all_given [] hs e = rw (← ok_is [] hs e) refl
all_given (l ∷ ls) hs e =
    let is = both (event_in l.0 l.1) (entries_of event_in ls) hs e in
    more_given l ls is.0 is.1 hs is.2 (all_given ls is.1 is.3) is.4

-- or one of them, or a later one, is faulty
faulty : (r : Result Happening TextFault) (later : Given) (fault : TextFault) → before r later ≡ Err fault
    → (r ≡ Err fault) ⊎ ((h : Happening) × (r ≡ Ok h) × (later ≡ Err fault))
faulty (Err f) later fault e = inl (ap (λ g. Err g) (err_is f fault e))
faulty (Ok h) (Err f) fault e = inr (h, refl, ap (λ g. Err g) (err_is f fault e))
faulty (Ok h) (Ok rest) fault e = let bad : ⊥ = cc in absurd bad

here : (fault : TextFault) (l : Said) (ls : List Said) → event_in l.0 l.1 ≡ Err fault → IsFirstFault fault (l ∷ ls)
here fault l ls e = record { good = []; line = l; rest = ls; events = []; whole = refl; gives = refl; faulty = e }

further : (fault : TextFault) (l : Said) (h : Happening) (ls : List Said) → event_in l.0 l.1 ≡ Ok h → IsFirstFault fault ls → IsFirstFault fault (l ∷ ls)
further fault l h ls e first =
    record {
      good = l ∷ first.good;
      line = first.line;
      rest = first.rest;
      events = h ∷ first.events;
      whole = ap (λ (xs : List Said). l ∷ xs) first.whole;
      gives = rw (e, first.gives) refl;
      faulty = first.faulty;
    }

here_or_further : (fault : TextFault) (l : Said) (ls : List Said) → (entries_of event_in ls ≡ Err fault → IsFirstFault fault ls)
    → (event_in l.0 l.1 ≡ Err fault) ⊎ ((h : Happening) × (event_in l.0 l.1 ≡ Ok h) × (entries_of event_in ls ≡ Err fault)) → IsFirstFault fault (l ∷ ls)
here_or_further fault l ls later (inl e) = here fault l ls e
here_or_further fault l ls later (inr e) = further fault l e.0 ls e.1 (later e.2)

pub first_fault : (ls : List Said) (fault : TextFault) → entries_of event_in ls ≡ Err fault → IsFirstFault fault ls
first_fault [] fault e = let bad : ⊥ = cc in absurd bad
first_fault (l ∷ ls) fault e = here_or_further fault l ls (first_fault ls fault) (faulty (event_in l.0 l.1) (entries_of event_in ls) fault e)

-- what a call gives
pub each_given : (result : Result (Vec Event Global) TextFault) (text : List ℕ) → GivesEvents result (schedule_in text)
    → IfOk result (λ events. AreGiven (said_lines text) (map happening events.items))
each_given (Ok events) text is = all_given (said_lines text) (map happening events.items) is
each_given (Err fault) text is = tt

pub fault_given : (result : Result (Vec Event Global) TextFault) (text : List ℕ) → GivesEvents result (schedule_in text)
    → IfErr result (λ fault. (fault ≡ OutOfMemory) ⊎ IsFirstFault fault (said_lines text))
fault_given (Ok events) text is = tt
fault_given (Err fault) text (inl memory) = inl memory
fault_given (Err fault) text (inr is) = inr (first_fault (said_lines text) fault is)

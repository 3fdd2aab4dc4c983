-- What a run hands over within a turn, beside what is due in it.
use Rattle.std.specs.Prelude.{◌≡◌, ℕ, zero, suc, ⊤, Bool, true, false, List, [], ◌∷◌, ◌++◌, map, Option, None, Some, is_some}
use Rattle.sacn_replay.specs.declared.orders.PlayOrder.{PlayOrder}
use Rattle.sacn_replay.specs.declared.orders.PlayOrder.TheVariants.{Pause as PauseOrder, Go as GoOrder, SetSpeed as SpeedOrder, Seek as SeekOrder}
use Rattle.sacn_replay.specs.declared.step.Step.{Step}
use Rattle.sacn_replay.specs.declared.step.Step.TheVariants.{Wait, Send, Skip, Pass, Again, End, Rest}
use Rattle.sacn_replay.specs.Playing.{HandedOver, Event, Reading, Pause, Go, SetSpeed, due_by}
use Rattle.sacn_replay.specs.Runs.{Player, Round, AreRounds, after_rounds, played, run_sends, step_taken}

abbrev pub datagrams_of : List HandedOver → List (List ℕ)
datagrams_of hs = map (λ (h : HandedOver). h.recorded.datagram) hs

-- neither a rewinding nor the end
abbrev pub is_in_turn : Step → Bool
is_in_turn Send = true
is_in_turn Skip = true
is_in_turn Pass = true
is_in_turn (Wait until) = true
is_in_turn Rest = true
is_in_turn Again = false
is_in_turn End = false

abbrev pub AreInTurn : ℕ → ℕ → Player → Type 0
AreInTurn now zero p = ⊤
AreInTurn now (suc n) p = (is_in_turn (step_taken now (played now n p)) ≡ true) × AreInTurn now n p

-- a seek begins another turn
abbrev pub keeps_turn : Option PlayOrder → Bool
keeps_turn None = true
keeps_turn (Some PauseOrder) = true
keeps_turn (Some GoOrder) = true
keeps_turn (Some (SpeedOrder speed)) = true
keeps_turn (Some (SeekOrder moment)) = false

-- a round within a turn, which ended with a step that waits
abbrev pub IsWithin : Round → Player → Type 0
IsWithin r p = AreInTurn r.now r.steps p × (keeps_turn r.order ≡ true) × (is_some r.came_to ≡ true)

abbrev pub AllWithin : Player → List Round → Type 0
AllWithin first [] = ⊤
AllWithin first (r ∷ rs) = IsWithin r (after_rounds first rs) × AllWithin first rs

-- what happens in rounds: each is a reading, and the order behind it
abbrev pub order_events : ℕ → Option PlayOrder → List Event
order_events now None = []
order_events now (Some PauseOrder) = Pause now ∷ []
order_events now (Some GoOrder) = Go now ∷ []
order_events now (Some (SpeedOrder speed)) = SetSpeed now speed ∷ []
order_events now (Some (SeekOrder moment)) = []

abbrev pub round_events : Round → List Event
round_events r = Reading r.now ∷ order_events r.now r.order

abbrev pub events_of : List Round → List Event
events_of [] = []
events_of (r ∷ rs) = events_of rs ++ round_events r

-- A link is handed the datagrams of the records that are due, in their order.
abbrev pub RunsHandOverWhatIsDue : Type 0
RunsHandOverWhatIsDue = (p : Player) (rs : List Round) → p.core.rewinds ≡ false → AreRounds p rs → AllWithin p rs
    → run_sends p rs ≡ datagrams_of (due_by (events_of rs) p.core p.core.greatest p.reel.left)

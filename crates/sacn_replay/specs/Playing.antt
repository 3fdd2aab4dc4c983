-- A turn of a playback, from a player on that isn't about to rewind its file: which records go out, and at which reading of the clock.
use Rattle.std.specs.Prelude.{◌≡◌, ℕ, ◌-◌, nat_le, nat_lt, max, Bool, false, not, ◌&&◌, ◌||◌, List, [], ◌∷◌, ◌++◌, Some, if◌then◌else◌}
use Rattle.sacn_sources.specs.declared.limits.TheConstants.{NETWORK_DATA_LOSS}
use Rattle.sacn_replay.specs.declared.head.Playhead.{Playhead}
use Rattle.sacn_replay.specs.declared.replay.ReplayCore.{ReplayCore}
use Rattle.sacn_replay.specs.declared.step.Step.{Step}
use Rattle.sacn_replay.specs.declared.step.Step.TheVariants.{Wait, Send, Skip, Pass, Again, End, Rest}
use Rattle.sacn_replay.specs.Heads.{ticked, due, paused, going, at_speed}
use Rattle.sacn_replay.specs.Steps.{is_after, next_step, after_step, at_reading, after_pause, after_go, after_speed}

-- a record of the file
pub record Recorded : Type 0 where
  pub moment : ℕ
  pub datagram : List ℕ

-- a record that goes out
pub record HandedOver : Type 0 where
  pub reading : ℕ
  pub recorded : Recorded

-- what happens, each with its reading of the clock: records are asked for, or an order is typed
pub data Event : Type 0 where
  Reading : ℕ → Event
  Pause : ℕ → Event
  Go : ℕ → Event
  SetSpeed : ℕ → ℕ → Event

-- ---- what the player does, step by step

-- what goes out by a step: this record and those behind it, those behind it, or what later events bring
abbrev pub answered : Step → HandedOver → List HandedOver → List HandedOver → List HandedOver
answered Send this behind later = this ∷ behind
answered Skip this behind later = behind
answered Pass this behind later = behind
answered (Wait until) this behind later = later
answered Rest this behind later = later
answered Again this behind later = []
answered End this behind later = []

-- at one reading of the clock record after record is asked for, until one has to wait
abbrev pub asked : ℕ → (ReplayCore → List Recorded → List HandedOver) → ReplayCore → List Recorded → List HandedOver
asked now later c [] = []
asked now later c (r ∷ rs) =
    let read : ReplayCore = at_reading now c in
    let step : Step = next_step (Some r.moment) read in
    let after : ReplayCore = after_step step (Some r.moment) read in
    answered step (record { reading = read.head.clock; recorded = r }) (asked now later after rs) (later after (r ∷ rs))

-- what goes out in a turn, of the records that are left
abbrev pub handed_by : List Event → ReplayCore → List Recorded → List HandedOver
handed_by [] c rs = []
handed_by (Reading now ∷ events) c rs = asked now (handed_by events) c rs
handed_by (Pause now ∷ events) c rs = handed_by events (after_pause (at_reading now c)) rs
handed_by (Go now ∷ events) c rs = handed_by events (after_go (at_reading now c)) rs
handed_by (SetSpeed now speed ∷ events) c rs = handed_by events (after_speed speed (at_reading now c)) rs

-- ---- what is due, record by record

-- a record at a place isn't due yet
abbrev pub waits : ℕ → Playhead → Bool
waits place h = h.is_paused || nat_lt h.clock (due place h)

-- it was due at most 2500 ms ago
abbrev pub is_fresh : ℕ → Playhead → Bool
is_fresh place h = nat_le (h.clock - due place h) NETWORK_DATA_LOSS

-- A record goes out at the first reading at which it is due, unless that comes too late.
abbrev pub fate : List Event → Playhead → ℕ → Recorded → List HandedOver
fate [] h place r = []
fate (Reading now ∷ events) h place r =
    let read : Playhead = ticked now h in
    if waits place read then fate events read place r else (if is_fresh place read then record { reading = read.clock; recorded = r } ∷ [] else [])
fate (Pause now ∷ events) h place r = fate events (paused (ticked now h)) place r
fate (Go now ∷ events) h place r = fate events (going (ticked now h)) place r
fate (SetSpeed now speed ∷ events) h place r = fate events (at_speed speed (ticked now h)) place r

-- a place lies neither before nor after what is played
abbrev pub is_played : ReplayCore → ℕ → Bool
is_played c place = not (nat_lt place c.first) && not (is_after c.plan.until place)

-- each record that is played has its own fate; its place is the greatest moment so far
abbrev pub due_by : List Event → ReplayCore → ℕ → List Recorded → List HandedOver
due_by events c greatest [] = []
due_by events c greatest (r ∷ rs) =
    let place : ℕ = max greatest r.moment in
    (if is_played c place then fate events c.head place r else []) ++ due_by events c place rs

-- What goes out is exactly what is due.
abbrev pub WhatIsDueGoesOut : Type 0
WhatIsDueGoesOut = (events : List Event) (c : ReplayCore) (rs : List Recorded) → c.rewinds ≡ false → handed_by events c rs ≡ due_by events c c.greatest rs

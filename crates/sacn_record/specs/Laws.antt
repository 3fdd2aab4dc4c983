-- What was recorded is what is read.
use Rattle.std.specs.Prelude.{◌≡◌, ℕ, ◌<◌, ◌≤◌, ◌-◌, ◌/◌, ◌^◌, List, [], ◌∷◌, length, map, ⊤, Option, None, Some, Result, Ok}
use Rattle.sacn_capture.specs.declared.faults.CaptureFault.{CaptureFault}
use Rattle.sacn_capture.specs.Recordings.{Shown, Told, recording}
use Rattle.sacn_capture.specs.Calls.{Calls, AreOf}
use Rattle.sacn_record.specs.declared.plan.RecordPlan.{RecordPlan}
use Rattle.sacn_record.specs.Recordings.{Taken, recording_of}
use Rattle.sacn_record.specs.Hearing.{Catch, asked_by}
use Rattle.sacn_record.specs.Sessions.{Tape, all_in, deeds_by, files_after, tapes_by}

-- a datagram that fits its block: addresses of four octets, ports of sixteen bits, at most 2048 octets, a moment of sixty-four bits
pub record Fits (taken : Taken) : Type 0 where
  pub moment : taken.moment < 2 ^ 64
  pub sender : length taken.sent.sender ≡ 4
  pub sender_port : taken.sent.sender_port < 2 ^ 16
  pub destination : length taken.sent.destination ≡ 4
  pub destination_port : taken.sent.destination_port < 2 ^ 16
  pub payload : length taken.sent.payload ≤ 2048

abbrev pub AllFit : List Taken → Type 0
AllFit [] = ⊤
AllFit (taken ∷ all) = Fits taken × AllFit all

-- what a reader gives of it: its moment in whole milliseconds, and the datagram
abbrev pub shown_of : Taken → Shown
shown_of taken = record { moment = Some (taken.moment / 1000); content = Ok taken.sent }

-- all of them, in order, and then the end
abbrev pub told_of : List Taken → Told
told_of all = record { frames = map shown_of all; fault = None }

-- the octets of a recording give each of its datagrams, in order, and then the end
abbrev pub WhatWasRecordedIsRead : Type 0
WhatWasRecordedIsRead =
    (program : List ℕ) (all : List Taken) → length program ≤ 64 → AllFit all → recording (recording_of program all) ≡ told_of all

-- whatever calls of a reader of a recording give is of its datagrams: the first ones, in order, and all where a call says that the file has ended
abbrev pub CallsGiveWhatWasRecorded : Type 0
CallsGiveWhatWasRecorded =
    (program : List ℕ) (all : List Taken) → length program ≤ 64 → AllFit all
    → (results : List (Result (Option Shown) CaptureFault)) (after : Option Told) → Calls results (Some (recording (recording_of program all))) after
    → AreOf results (told_of all)

-- what was done with the files leaves in each of them the recording of its datagrams
abbrev pub FilesAreRecordings : Type 0
FilesAreRecordings =
    (plan : RecordPlan) (rounds : List (List Catch)) → files_after [] (deeds_by plan rounds) ≡ map (λ (tape : Tape). recording_of plan.program.now tape.all) (tapes_by plan rounds)

-- the files together have each datagram that was heard and asked for once, in order
abbrev pub EachIsKeptOnce : Type 0
EachIsKeptOnce = (plan : RecordPlan) (rounds : List (List Catch)) → all_in (tapes_by plan rounds) ≡ asked_by plan rounds

-- a file was begun so much later than the one before it, at least
abbrev pub AreApart : RecordPlan → List Tape → Type 0
AreApart plan [] = ⊤
AreApart plan (tape ∷ []) = ⊤
AreApart plan (tape ∷ before ∷ older) = (plan.longest ≤ tape.begun - before.begun) × AreApart plan (before ∷ older)

abbrev pub FilesAreApart : Type 0
FilesAreApart = (plan : RecordPlan) (rounds : List (List Catch)) → AreApart plan (tapes_by plan rounds)

-- whatever calls of a reader of these octets give is of these datagrams: the first ones, in order, and all where a call says that the file has ended
abbrev pub IsReadAs : List ℕ → List Taken → Type 0
IsReadAs octets all =
    (results : List (Result (Option Shown) CaptureFault)) (after : Option Told) → Calls results (Some (recording octets)) after → AreOf results (told_of all)

abbrev pub AreReadAs : List (List ℕ) → List Tape → Type 0
AreReadAs [] [] = ⊤
AreReadAs [] (tape ∷ older) = ⊥
AreReadAs (file ∷ files) [] = ⊥
AreReadAs (file ∷ files) (tape ∷ older) = IsReadAs file tape.all × AreReadAs files older

-- each file gives its datagrams again
abbrev pub FilesGiveWhatWasHeard : Type 0
FilesGiveWhatWasHeard =
    (plan : RecordPlan) (rounds : List (List Catch)) → length plan.program.now ≤ 64 → AllFit (asked_by plan rounds)
    → AreReadAs (files_after [] (deeds_by plan rounds)) (tapes_by plan rounds)

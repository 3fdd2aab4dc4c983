-- What any number of calls of a recording's reader give, one after another.
use Rattle.std.specs.Prelude.{◌≡◌, ◌⊎◌, List, [], ◌∷◌, ◌++◌, ⊤, IfSome, Option, None, Some, Result, Ok, Err}
use Rattle.sacn_capture.specs.declared.faults.CaptureFault.{CaptureFault}
use Rattle.sacn_capture.specs.Files.{IsOutside}
use Rattle.sacn_capture.specs.Recordings.{Shown, Told}
use Rattle.sacn_capture.specs.Streams.{Gives}

-- calls gave this, the first call first, of what was to come before them, and left this to come
abbrev pub Calls : List (Result (Option Shown) CaptureFault) → Option Told → Option Told → Type 0
Calls [] all after = after ≡ all
Calls (result ∷ results) all after = (between : Option Told) × Gives result all between × Calls results between after

-- the frames that calls gave, in order
abbrev pub frames_given : List (Result (Option Shown) CaptureFault) → List Shown
frames_given [] = []
frames_given (Ok None ∷ results) = frames_given results
frames_given (Ok (Some frame) ∷ results) = frame ∷ frames_given results
frames_given (Err fault ∷ results) = frames_given results

-- some call said that the file has ended
abbrev pub SaysEnd : List (Result (Option Shown) CaptureFault) → Type 0
SaysEnd [] = ⊥
SaysEnd (Ok None ∷ results) = ⊤
SaysEnd (Ok (Some frame) ∷ results) = SaysEnd results
SaysEnd (Err fault ∷ results) = SaysEnd results

-- the first fault among what calls gave
abbrev pub fault_given : List (Result (Option Shown) CaptureFault) → Option CaptureFault
fault_given [] = None
fault_given (Ok found ∷ results) = fault_given results
fault_given (Err fault ∷ results) = Some fault

-- the frames that were given are the recording's first, in order; at its end all were given; and a fault is the recording's own, behind all its frames, or comes from outside
pub record AreOf (results : List (Result (Option Shown) CaptureFault)) (all : Told) : Type 0 where
  pub front : (unread : List Shown) × (all.frames ≡ frames_given results ++ unread)
  pub ended : SaysEnd results → (all.frames ≡ frames_given results) × (all.fault ≡ None)
  pub failed : IfSome (fault_given results) (λ fault. IsOutside fault.kind ⊎ ((all.frames ≡ frames_given results) × (all.fault ≡ Some fault)))

abbrev pub CallsGiveTheRecording : Type 0
CallsGiveTheRecording = (results : List (Result (Option Shown) CaptureFault)) → (all : Told) → (after : Option Told) → Calls results (Some all) after → AreOf results all

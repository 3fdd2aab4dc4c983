-- Octets that a reader gives, and those that are left out.
use Rattle.std.specs.Prelude.{◌≡◌, ◌↔◌, ◌⊎◌, ℕ, ◌<◌, Bool, true, List, [], length, IfSome, ⊤, Option, None, Some, Result, Ok, Err}
use Rattle.std.specs.Io.KnownBytes.{Consumes}
use Rattle.sacn_capture.specs.declared.faults.FaultKind.{FaultKind}
use Rattle.sacn_capture.specs.declared.faults.FaultKind.TheVariants.{CutShort, Device}
use Rattle.sacn_capture.specs.declared.input.Input.{Input}
use Rattle.sacn_capture.specs.Check.{map_ok}
use Rattle.sacn_capture.specs.Files.{Place, Reading, Does, IsOutside, octets, place_at}

-- so many of the octets that a reader will give are gone, where they are known
abbrev pub LeavesOut : Option (List ℕ) → Option (List ℕ) → ℕ → Type 0
LeavesOut old new count = (octets : List ℕ) × Consumes old new octets × (length octets ≡ count)

-- the device failed, or the file ends before so many octets
abbrev pub IsShort : Option (List ℕ) → ℕ → FaultKind → Type 0
IsShort known count kind = (kind ≡ Device) ⊎ ((kind ≡ CutShort) × IfSome known (λ octets. length octets < count))

-- where a file that is read stands, where its octets are known
abbrev pub place_of : {R : Type 0} → (R → Option (List ℕ)) → Input R → Option Place
place_of remaining input = place_at input.at (remaining input.reader)

-- so many octets are passed over
abbrev pub Passes : {A : Type 0} → ℕ → Option Place → Option Place → Result A FaultKind → Type 0
Passes count old new result = (passed : List ℕ) × Does (octets count) old new (map_ok (λ _. passed) result)

-- it is told whether no octet is left, and none is read
abbrev pub TellsEnd : Option Place → Option Place → Result Bool FaultKind → Type 0
TellsEnd None new result = ⊤
TellsEnd (Some place) new (Ok ended) = (new ≡ Some place) × (ended ≡ true ↔ (place.left ≡ []))
TellsEnd (Some place) new (Err kind) = IsOutside kind

-- a call on a reader did what a reading of its octets says
abbrev pub ReadsInput : {R A : Type 0} → (R → Option (List ℕ)) → Reading A → Input R → Input R → Result A FaultKind → Type 0
ReadsInput remaining reading old new result = Does reading (place_of remaining old) (place_of remaining new) result

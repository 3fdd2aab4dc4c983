-- A file read from its front: what its octets say, and where they end.
use Rattle.std.specs.Prelude.{◌≡◌, ◌⊎◌, ℕ, ◌+◌, ◌-◌, ◌^◌, List, length, take, drop, min, nat_le, ⊤, Option, None, Some, Result, Ok, Err, if◌then◌else◌, option_map}
use Rattle.sacn_capture.specs.declared.faults.FaultKind.{FaultKind}
use Rattle.sacn_capture.specs.declared.faults.FaultKind.TheVariants.{CutShort, Device, OutOfMemory}
use Rattle.sacn_capture.specs.Check.{◌>>=◌}

-- a place in a file: how many octets stand before it, at most what 64 bits hold, and those that are left
pub record Place : Type 0 where
  pub at : ℕ
  pub left : List ℕ

-- what octets at a place say, and the place behind them
abbrev pub Reading : Type 0 → Type 0
Reading A = Place → Result (A × Place) FaultKind

-- so many octets
abbrev pub octets : ℕ → Reading (List ℕ)
octets n place =
    if nat_le n (length place.left) then Ok (take n place.left, record { at = min (place.at + n) (2 ^ 64 - 1); left = drop n place.left })
    else Err CutShort

-- what octets that were read say
abbrev pub says : {A : Type 0} → Result A FaultKind → Reading A
says (Ok value) place = Ok (value, place)
says (Err fault) place = Err fault

-- no octet, and a value
abbrev pub gives : {A : Type 0} → A → Reading A
gives value place = Ok (value, place)

-- one reading, and behind it the next, which goes by what the first gave
infixr 8 ◌▷◌
abbrev pub ◌▷◌ : {A B : Type 0} → Reading A → (A → Reading B) → Reading B
(first ▷ next) place = first place >>= (λ r. next r.0 r.1)

-- faults that no octet tells
abbrev pub IsOutside : FaultKind → Type 0
IsOutside kind = (kind ≡ Device) ⊎ (kind ≡ OutOfMemory)

-- a call gave, of known octets, what the reading of them gives, and left what it leaves; or it failed from outside
abbrev pub Does : {A : Type 0} → Reading A → Option Place → Option Place → Result A FaultKind → Type 0
Does reading None new result = ⊤
Does reading (Some place) new (Ok value) = (after : Place) × (new ≡ Some after) × (reading place ≡ Ok (value, after))
Does reading (Some place) new (Err kind) = IsOutside kind ⊎ (reading place ≡ Err kind)

-- a place whose octets may be known
abbrev pub place_at : ℕ → Option (List ℕ) → Option Place
place_at at known = option_map (λ left. record { at = at; left = left }) known

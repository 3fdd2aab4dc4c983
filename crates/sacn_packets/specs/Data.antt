-- What a data packet says.
use Rattle.std.specs.Prelude.{◌≡◌, ℕ, Bool, ◌-◌, ◌≤◌, List, ◌∷◌, ◌++◌, length, replicate}
use Rattle.sacn_packets.specs.Universe.{IsUniverse, IsPriority}

pub record Data : Type 0 where
  pub cid : List ℕ
  -- 64 octets
  pub name : List ℕ
  pub priority : ℕ
  pub number : ℕ
  pub preview : Bool
  pub terminated : Bool
  pub universe : ℕ
  pub start : ℕ
  pub slots : List ℕ

-- what a data packet can say
pub record IsData (d : Data) : Type 0 where
  pub cid : length d.cid ≡ 16
  pub name : length d.name ≡ 64
  pub priority : IsPriority d.priority
  pub universe : IsUniverse d.universe
  pub slots : length d.slots ≤ 512

-- the start code, the slots, and 0 in each slot that was not given
abbrev pub frame_with : ℕ → List ℕ → List ℕ
frame_with start slots = start ∷ slots ++ replicate (512 - length slots) 0

abbrev pub frame_of : Data → List ℕ
frame_of d = frame_with d.start d.slots

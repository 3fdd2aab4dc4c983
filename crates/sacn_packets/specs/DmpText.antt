-- The text of a DMP layer: its fields, joined in order.
use Rattle.std.specs.Prelude.{ℕ, ◌+◌, ◌≤◌, List, [], ◌∷◌, ◌++◌, length}
use Rattle.std.specs.Int.{w16, to_be_bytes}
use Rattle.sacn_packets.specs.RootText.{flags_and_length}
use Rattle.sacn_packets.specs.declared.dmp.reading.DmpView.{DmpView}

-- what a DMP layer carries
pub record Dmp : Type 0 where
  pub start : ℕ
  pub slots : List ℕ

-- the property values: the start code, then the slots
abbrev pub values : Dmp → List ℕ
values d = d.start ∷ d.slots

-- flags and length; vector 2; address and data type; first property address; address increment; property value count; property values (E1.31, 7.1 to 7.7)
abbrev pub dmp_text : Dmp → List ℕ
dmp_text d = flags_and_length (10 + length (values d)) ++ (0x02 ∷ []) ++ (0xa1 ∷ []) ++ to_be_bytes w16 0 ++ to_be_bytes w16 1 ++ to_be_bytes w16 (length (values d)) ++ values d

-- what can stand in a DMP layer: at most 512 slots after the start code
pub record IsDmp (d : Dmp) : Type 0 where
  pub slots : length d.slots ≤ 512

-- what a view shows
abbrev pub dmp_of : DmpView → Dmp
dmp_of view = record { start = view.start; slots = view.slots.now }

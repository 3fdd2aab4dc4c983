-- An ordered list of checks. The first that fails answers.
use Rattle.std.specs.Prelude.{List, [], ◌∷◌, Bool, Result, Ok, Err, if◌then◌else◌}
use Rattle.sacn_packets.specs.declared.root.fault.PacketFault.{PacketFault}

-- a check, and the fault where it fails
pub record Check : Type 0 where
  pub passes : Bool
  pub fault : PacketFault

abbrev pub check : Bool → PacketFault → Check
check passes fault = record { passes = passes; fault = fault }

-- the value where every check passes, and otherwise the fault of the first that fails
abbrev pub checked : {A : Type 0} → List Check → A → Result A PacketFault
checked [] value = Ok value
checked (c ∷ checks) value = if c.passes then checked checks value else Err c.fault

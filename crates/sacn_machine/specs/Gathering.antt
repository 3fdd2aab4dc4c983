-- Lines out of pieces.
use Rattle.std.specs.Prelude.{◌≤◌, ℕ, List, length, ⊤}
use Rattle.sacn_machine.specs.declared.line_buffer.Gathered.{Gathered}
use Rattle.sacn_machine.specs.declared.line_buffer.Gathered.TheVariants.{Partly, Ended}

-- at least one octet of the piece ended the line, and at most all
abbrev pub IsWithin : Gathered → List ℕ → Type 0
IsWithin Partly piece = ⊤
IsWithin (Ended n) piece = n ≤ length piece

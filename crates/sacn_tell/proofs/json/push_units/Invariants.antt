use Rattle.std.proofs.Common.{◌≡◌, ◌++◌, drop, string_bytes}
use Rattle.sacn_tell.specs.Foreign.{units_text}
use Rattle.sacn_tell.proofs.json.push_units.Given as goal

-- what is written, and then the units that are left, is all
abbrev pub invariant-loop-unit : goal.invariant-loop-unit
invariant-loop-unit l = string_bytes l.text ++ units_text (drop l.unit-index l.units) ≡ string_bytes l.fn.text ++ units_text l.units

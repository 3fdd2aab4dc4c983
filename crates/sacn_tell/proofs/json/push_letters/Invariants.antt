use Rattle.std.proofs.Common.{◌≡◌, ◌++◌, string_bytes}
use Rattle.std.specs.List.{flat_map}
use Rattle.sacn_tell.specs.Foreign.{foreign_letter}
use Rattle.sacn_tell.proofs.json.push_letters.Given as goal

-- the letters so far are written
abbrev pub invariant-loop-letter : goal.invariant-loop-letter
invariant-loop-letter l = string_bytes l.text ≡ string_bytes l.fn.text ++ flat_map foreign_letter l.yielded

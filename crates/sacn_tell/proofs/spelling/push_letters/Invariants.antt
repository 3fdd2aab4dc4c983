use Rattle.std.proofs.Common.{◌≡◌, ◌++◌, string_bytes}
use Rattle.std.specs.List.{flat_map}
use Rattle.sacn_tell.specs.Spelling.{letter_text}
use Rattle.sacn_tell.proofs.spelling.push_letters.Given as goal

-- the letters so far are written
abbrev pub invariant-loop-letter : goal.invariant-loop-letter
invariant-loop-letter l = string_bytes l.text ≡ string_bytes l.fn.text ++ flat_map letter_text l.yielded

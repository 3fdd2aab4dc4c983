use Rattle.std.proofs.Common.{◌≡◌, ◌++◌, drop, string_bytes}
use Rattle.std.specs.List.{flat_map}
use Rattle.sacn_tell.specs.Spelling.{letter_text}
use Rattle.sacn_tell.proofs.spelling.push_octets.Given as goal

abbrev pub invariant-loop-octet : goal.invariant-loop-octet
invariant-loop-octet l = string_bytes l.text ++ flat_map letter_text (drop l.octet-index l.octets) ≡ string_bytes l.fn.text ++ flat_map letter_text l.octets

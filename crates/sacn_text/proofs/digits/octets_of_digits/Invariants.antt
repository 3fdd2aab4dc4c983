use Rattle.std.proofs.Common.{◌≡◌, ◌++◌, drop}
use Rattle.sacn_text.specs.Digits.{digits_of}
use Rattle.sacn_text.proofs.digits.octets_of_digits.Given as goal

abbrev pub invariant-loop-octet : goal.invariant-loop-octet
invariant-loop-octet l = l.digits.items ++ digits_of (drop l.octet-index l.text) ≡ digits_of l.text

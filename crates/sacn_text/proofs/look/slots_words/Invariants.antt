use Rattle.std.proofs.Common.{◌≡◌, ◌++◌, drop}
use Rattle.sacn_text.specs.Looks.{slots_words}
use Rattle.sacn_text.proofs.look.slots_words.Given as goal

abbrev pub invariant-loop-slot : goal.invariant-loop-slot
invariant-loop-slot l = l.text.items ++ slots_words l.slot (drop l.slot l.frame) ≡ slots_words 1 (drop 1 l.frame)

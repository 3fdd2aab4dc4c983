use Rattle.std.proofs.Common.{◌≡◌, ◌++◌, drop}
use Rattle.sacn_words.specs.Syntaxes.{written}
use Rattle.sacn_words.proofs.manual.pieces.push_escaped.Given as goal

abbrev pub invariant-loop-i : goal.invariant-loop-i
invariant-loop-i l = l.text.items ++ written l.syntax (drop l.i l.foreign) ≡ l.fn.text.items ++ written l.syntax l.foreign

use Rattle.std.proofs.Common.{◌≡◌, ◌++◌, drop}
use Rattle.sacn_words.specs.Syntaxes.{pieces_text}
use Rattle.sacn_words.proofs.manual.pieces.push_all.Given as goal

abbrev pub invariant-loop-i : goal.invariant-loop-i
invariant-loop-i l = l.text.items ++ pieces_text l.syntax (drop l.i l.pieces) ≡ l.fn.text.items ++ pieces_text l.syntax l.pieces

use Rattle.std.proofs.Common.{◌≡◌, ◌++◌, drop}
use Rattle.sacn_words.specs.Syntaxes.{words_text}
use Rattle.sacn_words.proofs.manual.pieces.push_words.Given as goal

abbrev pub invariant-loop-i : goal.invariant-loop-i
invariant-loop-i l = l.text.items ++ words_text (drop l.i l.words) ≡ l.fn.text.items ++ words_text l.words

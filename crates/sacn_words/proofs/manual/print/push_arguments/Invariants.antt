use Rattle.std.proofs.Common.{take}
use Rattle.std.specs.Prelude.{All}
use Rattle.sacn_words.specs.Texts.{Grows, TellsArgument}
use Rattle.sacn_words.proofs.manual.print.push_arguments.Given as goal

-- the text has grown, and tells the arguments so far
abbrev pub invariant-loop-i : goal.invariant-loop-i
invariant-loop-i l = record {
  grown : Grows l.fn.text.items l.text.items;
  told : All (TellsArgument l.syntax l.text.items) (take l.i l.arguments);
}

use Rattle.std.proofs.Common.{rules, arith}
use Rattle.sacn_words.proofs.Growing.{chain, more_told, all_taken}
use Rattle.sacn_words.specs.Texts.{TellsArgument}
use Rattle.sacn_words.proofs.manual.print.push_arguments.Goals as goal

pub loop-i-preserved : goal.loop-i-preserved
loop-i-preserved c = record {
  grown = chain _ _ _ c.loop-i.invariant.grown c.in_ok-push_argument.ensures.grows;
  told = more_told _ _ _ _ _ _ (search rules) c.in_ok-push_argument.ensures.grows c.loop-i.invariant.told c.in_ok-push_argument.ensures.told;
}

pub returns-clause-told : goal.returns-clause-told
returns-clause-told c = all_taken (TellsArgument c.args.syntax c.loop-i.text.items) c.args.arguments.now c.loop-i.i (omega arith) c.loop-i.invariant.told

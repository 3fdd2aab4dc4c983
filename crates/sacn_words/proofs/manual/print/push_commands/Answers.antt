use Rattle.std.proofs.Common.{rules, arith}
use Rattle.sacn_words.proofs.Growing.{chain, more_commands, all_taken}
use Rattle.sacn_words.specs.Texts.{TellsCommand}
use Rattle.sacn_words.proofs.manual.print.push_commands.Goals as goal

pub loop-i-preserved : goal.loop-i-preserved
loop-i-preserved c = record {
  grown = chain _ _ _ c.loop-i.invariant.grown c.in_ok-push_command.ensures.grows;
  told = more_commands _ _ _ _ _ _ (search rules) c.in_ok-push_command.ensures.grows c.loop-i.invariant.told c.in_ok-push_command.ensures.told;
}

pub returns-clause-told : goal.returns-clause-told
returns-clause-told c = all_taken (TellsCommand c.args.syntax c.loop-i.text.items) c.args.commands.now c.loop-i.i (omega arith) c.loop-i.invariant.told

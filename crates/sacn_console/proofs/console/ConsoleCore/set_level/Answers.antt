use Rattle.std.proofs.Common.{refl, ◌∙◌}
use Rattle.sacn_cues.specs.Playing as play
use Rattle.sacn_console.specs.declared.command.Command.TheVariants.{SetLevel}
use Rattle.sacn_console.proofs.WakeLists.{wakes_cleared}
use Rattle.sacn_console.proofs.Changes.{light_told, ok_played}
use Rattle.sacn_console.proofs.console.ConsoleCore.set_level.Goals as goal

pub invariant_of-self : goal.invariant_of-self
invariant_of-self c = record {
  core = ok_played _ (play.Set c.args.channel c.args.level) _ c.self.invariant.core c.set.ensures.player;
  wakes_ok = wakes_cleared _ _ _ _ _ _ _ c.self.invariant.wakes_ok c.clear.ensures;
}

pub returns-clause-answer : goal.returns-clause-answer
returns-clause-answer c = c.console_answer.ensures ∙ (light_told _ _ (SetLevel c.args.channel c.args.level) (play.Set c.args.channel c.args.level) _ _ c.self.view_is c.self.invariant.core refl c.set.ensures.player c.set.ensures.accepted c.set.ensures.refused c.set.ensures.unchanged).0

pub returns-clause-core : goal.returns-clause-core
returns-clause-core c = (light_told _ _ (SetLevel c.args.channel c.args.level) (play.Set c.args.channel c.args.level) _ _ c.self.view_is c.self.invariant.core refl c.set.ensures.player c.set.ensures.accepted c.set.ensures.refused c.set.ensures.unchanged).1

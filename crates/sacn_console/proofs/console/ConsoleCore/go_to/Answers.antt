use Rattle.std.proofs.Common.{refl, ◌∙◌}
use Rattle.sacn_cues.specs.Playing as play
use Rattle.sacn_console.specs.declared.command.Command.TheVariants.{GoTo}
use Rattle.sacn_console.proofs.WakeLists.{wakes_cleared}
use Rattle.sacn_console.proofs.Changes.{light_told, ok_played}
use Rattle.sacn_console.proofs.console.ConsoleCore.go_to.Goals as goal

pub invariant_of-self : goal.invariant_of-self
invariant_of-self c = record {
  core = ok_played _ (play.GoTo c.args.number) _ c.self.invariant.core c.go_to.ensures.player;
  wakes_ok = wakes_cleared _ _ _ _ _ _ _ c.self.invariant.wakes_ok c.clear.ensures;
}

pub returns-clause-answer : goal.returns-clause-answer
returns-clause-answer c = c.console_answer.ensures ∙ (light_told _ _ (GoTo c.args.number) (play.GoTo c.args.number) _ _ c.self.view_is c.self.invariant.core refl c.go_to.ensures.player c.go_to.ensures.accepted c.go_to.ensures.refused c.go_to.ensures.unchanged).0

pub returns-clause-core : goal.returns-clause-core
returns-clause-core c = (light_told _ _ (GoTo c.args.number) (play.GoTo c.args.number) _ _ c.self.view_is c.self.invariant.core refl c.go_to.ensures.player c.go_to.ensures.accepted c.go_to.ensures.refused c.go_to.ensures.unchanged).1

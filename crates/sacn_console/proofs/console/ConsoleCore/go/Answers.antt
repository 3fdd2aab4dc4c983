use Rattle.std.proofs.Common.{refl, ◌∙◌}
use Rattle.sacn_cues.specs.Playing as play
use Rattle.sacn_console.specs.declared.command.Command.TheVariants.{Go}
use Rattle.sacn_console.proofs.WakeLists.{wakes_cleared}
use Rattle.sacn_console.proofs.Changes.{light_told, ok_played}
use Rattle.sacn_console.proofs.console.ConsoleCore.go.Goals as goal

pub invariant_of-self : goal.invariant_of-self
invariant_of-self c = record {
  core = ok_played _ (play.Go) _ c.self.invariant.core c.go.ensures.player;
  wakes_ok = wakes_cleared _ _ _ _ _ _ _ c.self.invariant.wakes_ok c.clear.ensures;
}

pub returns-clause-answer : goal.returns-clause-answer
returns-clause-answer c = c.console_answer.ensures ∙ (light_told _ _ (Go) (play.Go) _ _ c.self.view_is c.self.invariant.core refl c.go.ensures.player c.go.ensures.accepted c.go.ensures.refused c.go.ensures.unchanged).0

pub returns-clause-core : goal.returns-clause-core
returns-clause-core c = (light_told _ _ (Go) (play.Go) _ _ c.self.view_is c.self.invariant.core refl c.go.ensures.player c.go.ensures.accepted c.go.ensures.refused c.go.ensures.unchanged).1

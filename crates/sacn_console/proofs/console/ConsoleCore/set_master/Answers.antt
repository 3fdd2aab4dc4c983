use Rattle.std.proofs.Common.{refl}
use Rattle.sacn_cues.specs.Playing as play
use Rattle.sacn_console.specs.declared.command.Command.TheVariants.{Master}
use Rattle.sacn_console.proofs.WakeLists.{wakes_cleared}
use Rattle.sacn_console.proofs.Changes.{light_accepted, ok_played}
use Rattle.sacn_console.proofs.console.ConsoleCore.set_master.Goals as goal

pub invariant_of-self : goal.invariant_of-self
invariant_of-self c = record {
  core = ok_played _ (play.Master c.args.master) _ c.self.invariant.core c.master.ensures;
  wakes_ok = wakes_cleared _ _ _ _ _ _ _ c.self.invariant.wakes_ok c.clear.ensures;
}

pub returns-clause-answer : goal.returns-clause-answer
returns-clause-answer c = (light_accepted _ _ (Master c.args.master) (play.Master c.args.master) _ c.self.view_is refl refl c.master.ensures).0

pub returns-clause-core : goal.returns-clause-core
returns-clause-core c = (light_accepted _ _ (Master c.args.master) (play.Master c.args.master) _ c.self.view_is refl refl c.master.ensures).1

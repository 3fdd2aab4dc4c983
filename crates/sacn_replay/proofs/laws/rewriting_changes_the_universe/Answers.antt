use Rattle.sacn_replay.proofs.Rewriting.{changes_universe}
use Rattle.sacn_replay.proofs.laws.rewriting_changes_the_universe.Goals as goal

pub returns : goal.returns
returns c = changes_universe

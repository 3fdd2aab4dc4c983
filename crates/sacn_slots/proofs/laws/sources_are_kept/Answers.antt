use Rattle.sacn_slots.proofs.Alike.{keeps_the_sources}
use Rattle.sacn_slots.proofs.laws.sources_are_kept.Goals as goal

pub returns : goal.returns
returns c = keeps_the_sources

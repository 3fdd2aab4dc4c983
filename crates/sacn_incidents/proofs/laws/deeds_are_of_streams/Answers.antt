use Rattle.sacn_incidents.proofs.Streams.{of_streams}
use Rattle.sacn_incidents.proofs.laws.deeds_are_of_streams.Goals as goal

pub returns : goal.returns
returns c = of_streams

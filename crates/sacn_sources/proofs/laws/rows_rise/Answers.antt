use Rattle.sacn_sources.proofs.Bounds.{rows_rise}
use Rattle.sacn_sources.proofs.laws.rows_rise.Goals as goal

pub returns : goal.returns
returns c = rows_rise

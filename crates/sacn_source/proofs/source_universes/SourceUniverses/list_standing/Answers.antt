use Rattle.std.proofs.Common.{subst}
use Rattle.sacn_packets.specs.Universe.{Rising}
use Rattle.sacn_source.specs.Table.{Table, standing}
use Rattle.sacn_source.proofs.Ascending.{standing_rises}
use Rattle.sacn_source.proofs.source_universes.SourceUniverses.list_standing.Goals as goal

pub returns-clause-rising : goal.returns-clause-rising
returns-clause-rising c = subst (λ (t : Table). Rising (standing t.rows)) c.self.view_is (standing_rises _ c.self.invariant.1.rising)

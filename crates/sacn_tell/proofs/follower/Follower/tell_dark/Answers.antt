use Rattle.sacn_tell.proofs.Turning.{none_dark}
use Rattle.sacn_tell.proofs.follower.Follower.tell_dark.Goals as goal

pub returns-then-stays_lit-clause-told : goal.returns-then-stays_lit-clause-told
returns-then-stays_lit-clause-told g c = none_dark {O = g.row.O.Denot} g.O.Write.contents c.max-until.result c.args.self.now

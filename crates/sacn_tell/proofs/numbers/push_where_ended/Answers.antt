use Rattle.std.proofs.Common.{sym}
use Rattle.sacn_tell.proofs.Runs.{ended}
use Rattle.sacn_tell.proofs.numbers.push_where_ended.Goals as goal

pub returns : goal.returns
returns c ns = ended _ _ _ c.args.run c.of.result c.args.number ns (sym c.if-goes_on.ensures) c.of.ensures.first c.of.ensures.last c.in_ok-push_run.ensures c.in_ok-push_str.ensures.bytes

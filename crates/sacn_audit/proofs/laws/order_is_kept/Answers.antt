use Rattle.sacn_audit.proofs.Ordering.{order_is_kept}
use Rattle.sacn_audit.proofs.laws.order_is_kept.Goals as goal

pub returns : goal.returns
returns c = order_is_kept

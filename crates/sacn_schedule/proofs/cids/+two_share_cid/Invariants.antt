use Rattle.std.proofs.Common.{length}
use Rattle.sacn_schedule.proofs.cids.+two_share_cid.Given as goal

abbrev pub decreases-two_share_cid : goal.decreases-two_share_cid
decreases-two_share_cid l = length l.desks.now

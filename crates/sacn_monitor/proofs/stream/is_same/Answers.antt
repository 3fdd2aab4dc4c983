use Rattle.sacn_monitor.proofs.Cids.{told_by_halves}
use Rattle.sacn_monitor.proofs.stream.is_same.Goals as goal

pub returns : goal.returns
returns c = told_by_halves c.args.a.now c.args.b.now c.told-a c.told-b c.fits-a c.fits-b _ _ _ _ c.front.ensures c.front-2.ensures c.back.ensures c.back-2.ensures

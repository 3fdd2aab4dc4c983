use Rattle.std.proofs.Common.{refl, sym}
use Rattle.sacn_capture.proofs.pieces.Pieces.framed.Goals as goal

pub returns-clause-frame : goal.returns-clause-frame
returns-clause-frame g c = record { at = c.in_ok-head.head.moment; count = c.in_ok-head.head.captured; stamped = refl; says = sym c.in_ok-head.ensures; takes = c.in_ok-frame.ensures.frame }

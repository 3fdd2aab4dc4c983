use Rattle.std.proofs.Common.{length-take, arith}
use Rattle.sacn_capture.proofs.LeftOut.{left_out}
use Rattle.sacn_capture.proofs.input.leave_front.Goals as goal

pub returns-clause-octets : goal.returns-clause-octets
returns-clause-octets g c =
    left_out (g.R.Read.remaining c.args.reader.now) (g.R.Read.remaining c.read_full.new.reader) c.args.count c.read_full.result c.read_full.new.buffer c.read_full.ensures.octets
    (omega (arith, c.read_full.ensures.len, length-take c.args.count c.args.piece.now, c.requires))

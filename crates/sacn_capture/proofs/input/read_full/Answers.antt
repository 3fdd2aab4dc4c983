use Rattle.std.proofs.Common.{rules, ◌-◌, length}
use Rattle.sacn_capture.proofs.Filling.{filled_more}
use Rattle.sacn_capture.proofs.input.read_full.Goals as goal

pub loop-preserved : goal.loop-preserved
loop-preserved g c = (
  search rules,
  search rules,
  filled_more (g.R.Read.remaining c.args.reader.now) (g.R.Read.remaining c.loop.reader) (g.R.Read.remaining c.read.new.self) c.loop.at c.in-Ok.n (length c.loop.buffer - c.loop.at) c.loop.buffer c.read.new.buf
      c.loop.invariant.1 c.in-Ok.ensures.bound.0 c.loop.invariant.2 c.in-Ok.ensures.bytes.0,
)

use Rattle.std.proofs.Common.{ap, arith}
use Rattle.std.proofs.lemmas.List.{drop_all}
use Rattle.sacn_monitor.specs.Books.{next_light_end}
use Rattle.sacn_monitor.proofs.LightEnds.{light_end_most}
use Rattle.sacn_monitor.proofs.silence.next_light_end.Goals as goal

pub loop-stream-init : goal.loop-stream-init
loop-stream-init c = record {
  least = omega (arith, light_end_most c.args.moment c.args.streams.now);
  most = omega arith;
}

pub returns : goal.returns
returns c =
    let none = ap (next_light_end c.args.moment) (drop_all c.loop-stream.stream-index c.args.streams.now (omega (arith, c.loop-stream-test.false))) in
    omega (arith, none, c.loop-stream.invariant.least, c.loop-stream.invariant.most)

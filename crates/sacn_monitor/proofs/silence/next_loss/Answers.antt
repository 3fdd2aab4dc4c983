use Rattle.std.proofs.Common.{ap, arith}
use Rattle.std.proofs.lemmas.List.{drop_all}
use Rattle.sacn_monitor.specs.Books.{next_loss}
use Rattle.sacn_monitor.proofs.Losses.{loss_most}
use Rattle.sacn_monitor.proofs.silence.next_loss.Goals as goal

pub loop-stream-init : goal.loop-stream-init
loop-stream-init c = record {
  least = omega (arith, loss_most c.args.streams.now);
  most = omega arith;
}

pub returns : goal.returns
returns c =
    let none = ap next_loss (drop_all c.loop-stream.stream-index c.args.streams.now (omega (arith, c.loop-stream-test.false))) in
    omega (arith, none, c.loop-stream.invariant.least, c.loop-stream.invariant.most)

use Rattle.sacn_files.proofs.AscentLemmas.{in_order_ascends, in_order_keeps, in_order_rises}
use Rattle.sacn_files.proofs.laws.order_rises.Goals as goal

pub returns : goal.returns
returns g c = record {
  same = in_order_keeps g.T.Numbered.number_of c.args.items.now;
  rising = in_order_ascends g.T.Numbered.number_of c.args.items.now;
  strictly = in_order_rises g.T.Numbered.number_of c.args.items.now;
}

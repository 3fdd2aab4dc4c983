use Rattle.std.proofs.Common.{◌∙◌}
use Rattle.sacn_orders.proofs.Lines.{parted}
use Rattle.sacn_orders.proofs.grammar.levels_in.Goals as goal

pub returns : goal.returns
returns c = c.levels_said.ensures ∙ parted c.args.pieces.now c.place_of_at-at.result c.place_of_at-at.ensures.place

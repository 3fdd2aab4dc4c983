use Rattle.sacn_orders.proofs.InTurn.{in_turn, turn_is_chosen, turn_is_commands}
use Rattle.sacn_orders.proofs.laws.channels_in_turn.Goals as goal

pub returns : goal.returns
returns c = record { all = in_turn; only = turn_is_chosen; commands = turn_is_commands }

use Rattle.std.proofs.Common.{◌||◌, not}
use Rattle.sacn_gateway.specs.Backlogs.{is_late}
use Rattle.sacn_gateway.specs.GatewayTurns.{is_admitted}
use Rattle.sacn_gateway.proofs.NodeLists.{given_taken, given_passed}
use Rattle.sacn_gateway.proofs.hearing.give.Goals as goal

pub returns-in-None : goal.returns-in-None
returns-in-None g c =
    let passed = is_late c.args.waits c.args.now || not (is_admitted c.args.senders.now c.args.sender) in
    given_taken passed c.args.now c.args.octets.now c.read_packet-reading.result c.args.nodes.now c.take_nodes-taken.new.nodes c.in-None.ensures c.read_packet-reading.ensures.exact c.take_nodes-taken.ensures

pub returns-in-Some : goal.returns-in-Some
returns-in-Some g c =
    let passed = is_late c.args.waits c.args.now || not (is_admitted c.args.senders.now c.args.sender) in
    given_passed passed c.args.now c.args.octets.now c.args.nodes.now c.tick_nodes.new.nodes c.in-Some.ensures c.tick_nodes.ensures

use Rattle.sacn_tell.proofs.follower.Follower.take.Goals as goal

pub returns-clause-taken : goal.returns-clause-taken
returns-clause-taken g c = c.take_reading.ensures.taken c.args.octets.now c.read_packet.ensures.exact

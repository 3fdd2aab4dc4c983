use Rattle.sacn_desk.proofs.Handing.{given_fits, given_read}
use Rattle.sacn_desk.proofs.desk.send.Goals as goal

pub hand-requires-clause-len : goal.hand-requires-clause-len
hand-requires-clause-len g c = given_fits c.args.core.now.sender _ c.in-Some.given c.in-Some.ensures.answer c.in-Some.ensures.lawful

pub hand-requires-clause-read : goal.hand-requires-clause-read
hand-requires-clause-read g c = given_read c.args.core.now.sender _ c.in-Some.given c.in-Some.ensures.answer c.in-Some.ensures.lawful _ c.args.octets.now c.in-Some.ensures.octets

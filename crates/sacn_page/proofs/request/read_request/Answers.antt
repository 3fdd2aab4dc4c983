-- What a whole head asks for, is asked by a GET that names this server.
use Rattle.std.proofs.Common.{rules}
use Rattle.httparse.specs.Borrowed.{HoldsSomeRequest}
use Rattle.sacn_page.proofs.OwnGets.{own_get}
use Rattle.sacn_page.proofs.request.read_request.Goals as goal

pub returns-else-len-gt-MAX_HEAD-clause-asked : goal.returns-else-len-gt-MAX_HEAD-clause-asked
returns-else-len-gt-MAX_HEAD-clause-asked c =
    let holds : HoldsSomeRequest c.args.octets.now c.parse.new.self c.in-Ok-Complete.len = search rules in
    own_get c.args.hosts.now c.args.octets.now c.parse.new.self c.in-Ok-Complete.len c.asked_by.result c.decide.result holds c.asked_by.ensures.own c.asked_by.ensures.method c.decide.ensures.asked

pub returns-else-len-gt-MAX_HEAD-clause-more : goal.returns-else-len-gt-MAX_HEAD-clause-more
returns-else-len-gt-MAX_HEAD-clause-more c = λ e. absurd (c.decide.ensures.open e)

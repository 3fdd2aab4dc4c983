use Rattle.sacn_node.specs.Showings.{ports_of}
use Rattle.sacn_node.proofs.Looks.{none_new}
use Rattle.sacn_node.proofs.showing.Showing.forget_news.Goals as goal

pub returns-else-self-clause-ports : goal.returns-else-self-clause-ports
returns-else-self-clause-ports c = none_new (ports_of c.args.self.now) (c.requires c.if-self.false)

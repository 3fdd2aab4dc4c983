use Rattle.sacn_discovery.proofs.MorePages.{added}
use Rattle.sacn_discovery.proofs.source_pages.SourcePages.add.Goals as goal

pub returns : goal.returns
returns c = added c.self.inside.last c.self.inside.moment c.args.moment c.args.page c.self.inside.pages.items c.args.numbers c.args.self.now c.self.view_is

use Rattle.sacn_discovery.proofs.MorePages.{with_first_page}
use Rattle.sacn_discovery.proofs.source_pages.SourcePages.begin.Goals as goal

pub returns : goal.returns
returns c = with_first_page c.args.last c.args.moment c.args.page c.in_ok-pages.pages.items c.args.numbers c.in_ok-pages.ensures.pages

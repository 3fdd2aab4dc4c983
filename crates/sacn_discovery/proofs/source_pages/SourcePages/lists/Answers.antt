use Rattle.std.proofs.Common.{◌≡◌, Some, subst}
use Rattle.sacn_discovery.specs.Collection.{Known, joined, list_in}
use Rattle.sacn_discovery.specs.SourceViews.{pages_of}
use Rattle.sacn_discovery.proofs.Loops.{Pages}
use Rattle.sacn_discovery.proofs.PagesKnown.{known_rises}
use Rattle.sacn_discovery.proofs.source_pages.SourcePages.lists.Goals as goal

pub returns : goal.returns
returns c = λ rising.
    let pages : Pages = c.self.inside.pages.items in
    let are = subst (λ (ps : Pages). joined (pages_of ps) ≡ Some c.args.known.now) c.as_slice.ensures.value (c.are_joined.ensures c.if-not-are_joined.false) in
    subst (λ (k : Known). list_in k ≡ Some c.args.known.now) c.self.view_is (known_rises (pages_of pages) c.args.known.now are (c.rises.ensures.0 rising))

use Rattle.std.proofs.Common.{◌≡◌, ◌∙◌, ℕ, Some, ap, slice_set, subst, sym, arith}
use Rattle.sacn_discovery.specs.Collection.{Known}
use Rattle.sacn_discovery.specs.SourceViews.{pages_of}
use Rattle.sacn_discovery.proofs.SamePages.{page_at}
use Rattle.sacn_discovery.proofs.source_pages.SourcePages.has.Goals as goal

pub returns-in-Some : goal.returns-in-Some
returns-in-Some c = λ same.
    let numbers = c.args.page.now.numbers in
    let pages = c.self.inside.pages.items in
    let last = ap (λ (k : Known). k.last) c.self.view_is in
    let at = page_at pages c.page.result c.in-Some.numbers numbers _ (omega (arith, c.self.invariant, c.page.ensures.bound, c.requires, last)) (sym c.index.ensures ∙ c.in-Some.is) (sym c.as_slice.ensures.value ∙ c.has_numbers.ensures same) in
    subst (λ (k : Known). slice_set k.pages c.args.page.now.page (Some numbers) ≡ k.pages) c.self.view_is
    (subst (λ (i : ℕ). slice_set (pages_of pages) i (Some numbers) ≡ pages_of pages) c.page.ensures.page at)

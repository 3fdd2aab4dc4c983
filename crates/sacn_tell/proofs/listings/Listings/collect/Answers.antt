use Rattle.std.proofs.Common.{◌∙◌, refl, sym, subst}
use Rattle.std.proofs.lemmas.List.{length-map}
use Rattle.sacn_tell.specs.Lines.{kept_list}
use Rattle.sacn_tell.specs.ListBooks.{list_book}
use Rattle.sacn_tell.proofs.PagesAgree.{Agrees, again_book, again_told, heard_since, heard_told, neither}
use Rattle.sacn_tell.proofs.listings.Listings.collect.Goals as goal

pub returns-then-not-may_differ-was_behind-clause-book : goal.returns-then-not-may_differ-was_behind-clause-book
returns-then-not-may_differ-was_behind-clause-book c =
    let calm = neither c.in_ok-may_differ.may_differ c.args.self.now.behind c.if-not-may_differ-was_behind.true in
    again_book c.args.now c.args.page.now (list_book c.args.self.now) _ c.take_and_tell.new.self c.expire.new.self c.in_ok-may_differ.ensures.ok c.expire.ensures.state (c.in_ok-may_differ.ensures.same calm.0) refl (c.args.self.now.agrees calm.1)

pub invariant_of-self-then-not-may_differ-was_behind-clause-agrees : goal.invariant_of-self-then-not-may_differ-was_behind-clause-agrees
invariant_of-self-then-not-may_differ-was_behind-clause-agrees c = λ _.
    let calm = neither c.in_ok-may_differ.may_differ c.args.self.now.behind c.if-not-may_differ-was_behind.true in
    again_told c.args.now c.args.page.now (list_book c.args.self.now) _ c.take_and_tell.new.self c.expire.new.self c.in_ok-may_differ.ensures.ok c.expire.ensures.state (c.in_ok-may_differ.ensures.same calm.0) refl (c.args.self.now.agrees calm.1)
    c.args.place (length-map c.args.self.now.known.items kept_list ∙ c.args.self.now.paired) c.requires.place

pub invariant_of-self-2-clause-agrees : goal.invariant_of-self-2-clause-agrees
invariant_of-self-2-clause-agrees c = λ calm.
    subst Agrees (sym (heard_since c.args.now c.args.page.now (list_book c.args.self.now) (list_book c.compare.new.self) c.take_and_tell.new.self c.in_ok-may_differ.ensures.ok c.in_ok-news.ensures.book))
    (heard_told c.args.now c.args.page.now (list_book c.args.self.now) c.args.place (length-map c.args.self.now.known.items kept_list ∙ c.args.self.now.paired) c.requires.place (c.args.self.now.agrees calm))

use Rattle.std.proofs.Common.{◌≡◌, length, map, refl, inl, inr, ap, ◌∙◌, if◌then◌else◌, []}
use Rattle.std.proofs.lemmas.List.{length-map}
use Rattle.sacn_node.specs.Showings.{news_in, port_after, ports_of}
use Rattle.sacn_node.proofs.Looks.{forgotten, looked, nothing_new, put_back}
use Rattle.sacn_node.proofs.showing.Showing.look.Goals as goal

pub returns-clause-showing : goal.returns-clause-showing
returns-clause-showing c =
    let n = c.args.core.now in
    let old = c.args.self.now.ports.items in
    let new : c.look_at.new.ports ≡ map (port_after n) old = c.look_at.ensures.ports ∙ ap (map (port_after n)) c.as_mut_slice.ensures.value in
    let long : length c.look_at.new.ports ≡ length old = ap length new ∙ length-map old (port_after n) in
    looked c.args.self.now _ n c.look_at.new.core c.look_at.ensures.core (put_back old c.look_at.new.ports long ∙ new) refl (λ none. absurd (cc)) c.requires

pub returns-clause-news : goal.returns-clause-news
returns-clause-news c = inl refl

pub returns-then-not-is_noted-clause-ports : goal.returns-then-not-is_noted-clause-ports
returns-then-not-is_noted-clause-ports c =
    let s = c.args.self.now in
    let none = c.is_noted.ensures c.if-not-is_noted.true in
    c.forget_news.ensures.ports ∙ nothing_new s.all s.universes.items c.args.core.now s.ports.items none.0 none.1 c.requires.current

pub returns-then-not-is_noted-clause-showing : goal.returns-then-not-is_noted-clause-showing
returns-then-not-is_noted-clause-showing c =
    let s = c.args.self.now in
    let n = c.args.core.now in
    let none = c.is_noted.ensures c.if-not-is_noted.true in
    looked s c.forget_news.new.self n n refl
    (c.forget_news.ensures.ports ∙ nothing_new s.all s.universes.items n s.ports.items none.0 none.1 c.requires.current) (c.forget_news.ensures.all ∙ none.0)
    (λ _. ap news_in c.forget_news.ensures.ports ∙ forgotten (ports_of s)) c.requires

pub returns-then-not-is_noted-clause-news : goal.returns-then-not-is_noted-clause-news
returns-then-not-is_noted-clause-news c =
    let t = c.forget_news.new.self in
    inr (ap (λ b. if b then ports_of t else []) c.forget_news.ensures.news, ap news_in c.forget_news.ensures.ports ∙ forgotten (ports_of c.args.self.now))

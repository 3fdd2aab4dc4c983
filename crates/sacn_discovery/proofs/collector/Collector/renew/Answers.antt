use Rattle.std.proofs.Common.{◌≡◌, ◌∙◌, subst, sym, ap, refl, ℕ, List, Some, None, IsSome}
use Rattle.std.specs.BTreeMap.{is_at}
use Rattle.std.specs.FinMap.{get}
use Rattle.sacn_discovery.specs.Collection.{Known, State, with_page, with_source}
use Rattle.sacn_discovery.specs.Storage.{HoldsPage, sources_of}
use Rattle.sacn_discovery.proofs.Ageing.{since_written}
use Rattle.sacn_discovery.proofs.SamePages.{holds_goes_on, renewed, same_list}
use Rattle.sacn_discovery.proofs.Stores.{added_source, cid_cmp, found_in, not_there, stored}
use Rattle.sacn_discovery.proofs.collector.Collector.renew.Goals as goal
use Rattle.sacn_discovery.proofs.collector.Collector.renew.Goals.{in-Some, in-None}

pub invariant_of-self : goal.invariant_of-self
invariant_of-self c = elim c.match-get_mut.branch [
  | in-Some w ↦
      let held = c.get_mut.follows.holds w.renew.new.self in
      rw w.self-inside-is (stored _ held.4, c.self.invariant.1, since_written c.self.inside.earliest c.self.inside.moment (is_at (cid_cmp c.args.cid.now)) c.self.inside.sources.entries _ w.renew.new.self held.0 (ap (λ (k : Known). k.moment) w.renew.ensures) c.self.invariant.1 c.self.invariant.2)
  | in-None w ↦ absurd (not_there c.self.inside.sources.entries c.args.cid.now c.args.self.now c.self.inside.moment c.args.page.now.last c.self.invariant.0 c.self.view_is (holds_goes_on c.args.page.now _ c.requires.kept) w.in-None.ensures.value)
]

pub returns-clause-state : goal.returns-clause-state
returns-clause-state c = elim c.match-get_mut.branch [
  | in-Some w ↦
      let held = c.get_mut.follows.holds w.renew.new.self in
      let es = c.self.inside.sources.entries in
      let p = c.args.page.now in
      let s = c.args.self.now in
      let t = c.self.inside.moment in
      let there = found_in es c.args.cid.now s t (Some w.in-Some.heard.now) c.self.invariant.0 c.self.view_is w.in-Some.ensures.value in
      let grown = renewed t p w.in-Some.heard.now w.renew.new.self _ there c.requires.kept w.renew.ensures in
      rw w.self-inside-is (added_source es _ c.args.cid.now w.in-Some.heard.now w.renew.new.self s t p.page p.last p.numbers c.self.invariant.0 (stored _ held.4) c.self.view_is (holds_goes_on p _ c.requires.kept) w.in-Some.ensures.value grown (held.3 (subst IsSome w.in-Some.ensures.value refl)).0
      ∙ ap (λ (k : List ℕ). with_source k (with_page s.moment p.page p.last p.numbers (get s.sources k)) s) c.requires.cid)
  | in-None w ↦ absurd (not_there c.self.inside.sources.entries c.args.cid.now c.args.self.now c.self.inside.moment c.args.page.now.last c.self.invariant.0 c.self.view_is (holds_goes_on c.args.page.now _ c.requires.kept) w.in-None.ensures.value)
]

pub returns-clause-same : goal.returns-clause-same
returns-clause-same c =
    let holds = subst (λ (k : List ℕ). HoldsPage c.args.page.now (get c.args.self.now.sources k)) c.requires.cid c.requires.kept in
    same_list c.args.page.now c.args.self.now _ holds (returns-clause-state c)

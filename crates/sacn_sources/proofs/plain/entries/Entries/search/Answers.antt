use Rattle.std.proofs.Common.{◌≡◌, get_or, ap, sym, subst, ◌∙◌, arith, inl, inr}
use Rattle.std.specs.declared.cmp.Ordering.TheVariants.{Less, Equal}
use Rattle.std.proofs.lemmas.Bool.{cases_lt}
use Rattle.sacn_sources.specs.declared.plain.entries.PlainEntry.{PlainEntry}
use Rattle.sacn_sources.specs.Order.{order}
use Rattle.sacn_sources.specs.Places.{IsAt, IsGap}
use Rattle.sacn_sources.specs.Rows.{Table}
use Rattle.sacn_sources.proofs.PlainEdits.{blank, scanned_here, scanned_gap, scanned_all}
use Rattle.sacn_sources.proofs.plain.entries.Entries.search.Goals as goal

pub returns-in-Less-clause-absent : goal.returns-in-Less-clause-absent
unfolding order
returns-in-Less-clause-absent c =
    let es = c.self.inside.items.items in
    let less : order c.args.cid.now (get_or es c.loop-at.at blank).cid ≡ Less = ap (λ (e : PlainEntry). order c.args.cid.now e.cid) (sym (c.plain_entry_at-entry.ensures blank)) ∙ sym c.cmp.ensures ∙ c.in-Less.is in
    subst (λ rs. IsGap rs c.args.cid.now c.loop-at.at) (ap (λ (t : Table). t.rows) c.self.view_is) (scanned_gap es c.self.invariant c.args.cid.now c.loop-at.at c.loop-at.invariant.before (omega (arith, c.len.ensures.value)) less)

pub returns-in-Equal-clause-found : goal.returns-in-Equal-clause-found
unfolding order
returns-in-Equal-clause-found c =
    let es = c.self.inside.items.items in
    let equal : order c.args.cid.now (get_or es c.loop-at.at blank).cid ≡ Equal = ap (λ (e : PlainEntry). order c.args.cid.now e.cid) (sym (c.plain_entry_at-entry.ensures blank)) ∙ sym c.cmp.ensures ∙ c.in-Equal.is in
    subst (λ rs. IsAt rs c.args.cid.now c.loop-at.at) (ap (λ (t : Table). t.rows) c.self.view_is) (scanned_here es c.self.invariant c.args.cid.now c.loop-at.at c.loop-at.invariant.before (omega (arith, c.len.ensures.value)) equal)

pub loop-at-preserved : goal.loop-at-preserved
unfolding order
loop-at-preserved c =
    let es = c.self.inside.items.items in
    let at = c.loop-at.at in
    record {
      within = omega (arith, c.len.ensures.value);
      before = λ j d lt. elim (cases_lt j at) [
        | inl below ↦ c.loop-at.invariant.before j d below
        | inr not_below ↦
            let here : j ≡ at = omega arith in
            ap (λ k. order c.args.cid.now (get_or es k d).cid) here ∙ ap (λ (e : PlainEntry). order c.args.cid.now e.cid) (sym (c.plain_entry_at-entry.ensures d)) ∙ sym c.cmp.ensures ∙ c.in-Greater.is
      ];
    }

pub returns-clause-absent : goal.returns-clause-absent
returns-clause-absent c =
    subst (λ rs. IsGap rs c.args.cid.now c.loop-at.at) (ap (λ (t : Table). t.rows) c.self.view_is) (scanned_all c.self.inside.items.items c.self.invariant c.args.cid.now c.loop-at.at c.loop-at.invariant.before c.loop-at.invariant.within (omega (arith, c.len.ensures.value, c.loop-at-test.false)))

use Rattle.std.proofs.Common.{◌≡◌, ◌-◌, ◌<◌, ◌||◌, Bool, true, false, max, refl, ap, sym, ◌∙◌, arith}
use Rattle.sacn_sources.specs.Rows.{Table, rows_lost}
use Rattle.sacn_sources.specs.LatestMerge.{Kept, kept_after_expire}
use Rattle.sacn_sources.proofs.Wakes.{expires_none, loses_none, loses_no_live}
use Rattle.sacn_sources.proofs.table.SourceTable.expire.Goals as goal

pub returns-then-saturating_sub-lt-NETWORK_DATA_LOSS-clause-gone : goal.returns-then-saturating_sub-lt-NETWORK_DATA_LOSS-clause-gone
returns-then-saturating_sub-lt-NETWORK_DATA_LOSS-clause-gone c =
    let young : max c.self.inside.store.moment c.args.now - c.self.inside.earliest < 2500 = omega (arith, c.moment.ensures, c.max-moment.ensures, c.saturating_sub.ensures, c.if-saturating_sub-lt-NETWORK_DATA_LOSS.true) in
    sym (ap (λ (k : Kept). rows_lost (max k.table.moment c.args.now) k.table.rows) (sym c.self.view_is)
    ∙ loses_none c.self.inside.earliest c.args.now c.self.inside.store c.self.invariant.1 young)

unless : (b : Bool) → b ≡ (b || false)
unless true = refl
unless false = refl

pub returns-then-saturating_sub-lt-NETWORK_DATA_LOSS-clause-table : goal.returns-then-saturating_sub-lt-NETWORK_DATA_LOSS-clause-table
returns-then-saturating_sub-lt-NETWORK_DATA_LOSS-clause-table c =
    let i = c.self.inside in
    let young : max i.store.moment c.args.now - i.earliest < 2500 = omega (arith, c.moment.ensures, c.max-moment.ensures, c.saturating_sub.ensures, c.if-saturating_sub-lt-NETWORK_DATA_LOSS.true) in
    let kept : Table → Bool → Kept = λ table due. record { table = table; renewals = i.renewals; due = due } in
    ap (λ table. kept table i.due) (c.advance.ensures ∙ expires_none i.earliest c.args.now i.store c.self.invariant.1 young)
    ∙ ap (kept (Rattle.sacn_sources.specs.Rows.after_expire c.args.now i.store)) (unless i.due ∙ ap (λ b. i.due || b) (sym (loses_no_live i.earliest c.args.now i.store c.self.invariant.1 young)))
    ∙ ap (kept_after_expire c.args.now) c.self.view_is

use Rattle.std.proofs.Common.{◌≡◌, ◌-◌, ℕ, not, get_or, leb, nat_lt, ap, ◌∙◌, arith}
use Rattle.sacn_sources.specs.Rows.{Row, Table}
use Rattle.std.proofs.lemmas.Bool.Decides.{nat_tests}
use Rattle.sacn_sources.proofs.PlainEdits.{within_plain, plain_there}
use Rattle.sacn_sources.proofs.plain.entries.Entries.is_lost.Goals as goal

pub plain_entry_at-entry-requires : goal.plain_entry_at-entry-requires
plain_entry_at-entry-requires c = within_plain c.self.inside.items.items c.args.self.now.rows (ap (λ (t : Table). t.rows) c.self.view_is) c.args.at c.requires

lost_test : (age : ℕ) → leb 2500 age ≡ not (nat_lt age 2500)
lost_test age = grind (arith, nat_tests)

pub returns : goal.returns
returns c d =
    let es = c.self.inside.items.items in
    let rows = c.args.self.now.rows in
    let view_is = ap (λ (t : Table). t.rows) c.self.view_is in
    let there = ap (λ (r : Row). r.moment) (plain_there es rows view_is c.args.at c.requires c.plain_entry_at-entry.result.now c.plain_entry_at-entry.ensures d) in
    let now = ap (λ (t : Table). t.moment) c.self.view_is in
    let age = c.saturating_sub.ensures in
    let same : c.saturating_sub.result ≡ c.args.self.now.moment - (get_or rows c.args.at d).moment = cc in
    ap (leb 2500) same ∙ lost_test (c.args.self.now.moment - (get_or rows c.args.at d).moment)

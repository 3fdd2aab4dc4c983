use Rattle.std.proofs.Common.{◌≡◌, ◌-◌, ℕ, not, get_or, leb, nat_lt, ap, ◌∙◌, arith}
use Rattle.sacn_sources.specs.Rows.{Row, Table}
use Rattle.std.proofs.lemmas.Bool.Decides.{nat_tests}
use Rattle.sacn_sources.proofs.Edits.{within_entries, row_there}
use Rattle.sacn_sources.proofs.store.Store.is_lost.Goals as goal

pub entry_at-entry-requires : goal.entry_at-entry-requires
entry_at-entry-requires c = within_entries c.self.inside.entries.items c.self.inside.frames c.args.self.now.rows (ap (λ (t : Table). t.rows) c.self.view_is) c.args.at c.requires

lost_test : (age : ℕ) → leb 2500 age ≡ not (nat_lt age 2500)
lost_test age = grind (arith, nat_tests)

pub returns : goal.returns
returns c d =
    let es = c.self.inside.entries.items in
    let fr = c.self.inside.frames in
    let rows = c.args.self.now.rows in
    let view_is = ap (λ (t : Table). t.rows) c.self.view_is in
    let there = ap (λ (r : Row). r.moment) (row_there es fr c.self.invariant rows view_is c.args.at c.entry_at-entry.result.now c.entry_at-entry.ensures d c.requires) in
    let now = ap (λ (t : Table). t.moment) c.self.view_is in
    let age = c.saturating_sub.ensures in
    let same : c.saturating_sub.result ≡ c.args.self.now.moment - (get_or rows c.args.at d).moment = cc in
    ap (leb 2500) same ∙ lost_test (c.args.self.now.moment - (get_or rows c.args.at d).moment)

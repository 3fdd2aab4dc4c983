use Rattle.std.proofs.Common.{ℕ, List, [], length, take, drop, get_or, set, ap, sym, ◌∙◌}
use Rattle.sacn_sources.specs.Rows.{Row, slots_of}
use Rattle.sacn_node.specs.Cores.{Table, Core, slots_on}
use Rattle.sacn_node.proofs.Expiry.{kept_in, set_itself}
use Rattle.sacn_node.proofs.Places.{table_at, table_absent}
use Rattle.sacn_node.proofs.tables.Tables.slots.Goals as goal

abbrev blank : Table
blank = record { universe = 0; rows = [] }

pub returns-in-Ok-clause-part : goal.returns-in-Ok-clause-part
returns-in-Ok-clause-part c =
    let n = c.args.self.now in
    let part : List ℕ → List ℕ = λ slots. take (length c.args.part.now) (drop c.args.from slots) in
    let found = c.in-Ok.ensures.found in
    c.slots_at.ensures.part blank ∙ ap (λ rs. part (slots_of rs)) (kept_in n n n.moment c.in-Ok.at blank (sym c.requires.expired) found.0)
    ∙ sym (ap (λ o. part (slots_on o)) (table_at c.args.universe (λ rs. rs) n.tables c.in-Ok.at blank found.0 found.1 found.2))

pub returns-in-Ok-clause-core : goal.returns-in-Ok-clause-core
returns-in-Ok-clause-core c =
    let n = c.args.self.now in
    let found = c.in-Ok.ensures.found in
    let core : List Row → Core = λ rs. record { moment = n.moment; tables = set n.tables c.in-Ok.at (record { universe = (get_or n.tables c.in-Ok.at blank).universe; rows = rs }) } in
    c.slots_at.ensures.core blank
    ∙ ap core (kept_in n n n.moment c.in-Ok.at blank (sym c.requires.expired) found.0)
    ∙ ap (λ gs. let new : Core = record { moment = n.moment; tables = gs } in new) (set_itself n.tables c.in-Ok.at blank found.0)

pub returns-in-Err-clause-part : goal.returns-in-Err-clause-part
returns-in-Err-clause-part c =
    let part : List ℕ → List ℕ = λ slots. take (length c.args.part.now) (drop c.args.from slots) in
    c.no_slots.ensures ∙ sym (ap (λ o. part (slots_on o)) (table_absent c.args.universe (λ rs. rs) c.args.self.now.tables c.in-Err.field-0 c.in-Err.ensures.absent))

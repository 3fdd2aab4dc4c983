use Rattle.std.proofs.Common.{◌≡◌, ◌∙◌, sym, arith, Some}
use Rattle.sacn_orders.specs.Orders.{next_chosen}
use Rattle.sacn_orders.proofs.LevelGiving.{given_none, given_some, next_in_range}
use Rattle.sacn_orders.proofs.giving.LevelCommands.next.Goals as goal

pub invariant_of-self : goal.invariant_of-self
invariant_of-self c =
    let found : next_chosen c.self.inside.selection c.self.inside.next ≡ Some c.in-Some.channel = sym c.next_from.ensures ∙ c.in-Some.is in
    let range = next_in_range c.self.inside.selection c.self.inside.next c.in-Some.channel c.self.invariant.0 c.self.invariant.1 found in
    (omega (arith, c.saturating_add-self-inside.ensures, range.1), omega (arith, c.saturating_add-self-inside.ensures, range.1))

pub returns-in-Some : goal.returns-in-Some
returns-in-Some c =
    let found : next_chosen c.self.inside.selection c.self.inside.next ≡ Some c.in-Some.channel = sym c.next_from.ensures ∙ c.in-Some.is in
    let range = next_in_range c.self.inside.selection c.self.inside.next c.in-Some.channel c.self.invariant.0 c.self.invariant.1 found in
    sym c.self.view_is
    ∙ given_some c.self.inside.selection c.self.inside.level c.self.inside.next c.in-Some.channel c.saturating_add-self-inside.result c.self.invariant.0 c.self.invariant.1 found
    (omega (arith, c.saturating_add-self-inside.ensures, range.1))

pub returns-in-None : goal.returns-in-None
returns-in-None c =
    let none = sym c.self.view_is ∙ given_none c.self.inside.selection c.self.inside.level c.self.inside.next c.self.invariant.0 (sym c.next_from.ensures ∙ c.in-None.is) in
    (none, none)

use Rattle.std.proofs.Common.{ap, sym, subst, ◌∙◌}
use Rattle.sacn_node.specs.Cores.{Core}
use Rattle.sacn_node.specs.Storage.{AreTables, core_of}
use Rattle.sacn_node.proofs.Guarantees.{tables_new, seen_new}
use Rattle.sacn_node.proofs.tables.Tables.new.Goals as goal

pub invariant_of-result : goal.invariant_of-result
invariant_of-result c = subst (AreTables 0 0) (sym c.in_ok-new_tables.ensures) (tables_new c.args.universes.now c.requires.rising c.requires.few)

pub returns : goal.returns
returns c =
    ap (core_of 0) c.in_ok-new_tables.ensures
    ∙ ap (λ gs. let n : Core = record { moment = 0; tables = gs } in n) (seen_new c.args.universes.now)

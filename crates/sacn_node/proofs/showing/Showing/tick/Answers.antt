use Rattle.std.proofs.Common.{◌==◌, ap, ◌∙◌}
use Rattle.std.specs.List.{list_any}
use Rattle.sacn_node.specs.Cores.{Node, core_slots}
use Rattle.sacn_node.proofs.StableFrames.{neither}
use Rattle.sacn_node.proofs.Settled.{tick_told}
use Rattle.sacn_node.proofs.Looks.{grows_lost, still_showing}
use Rattle.sacn_node.proofs.showing.Showing.tick.Goals as goal

pub returns-clause-showing : goal.returns-clause-showing
returns-clause-showing c =
    let s = c.args.self.now in
    let t = c.add_lost.new.self in
    let n = c.args.core.now in
    let added = c.add_lost.ensures in
    let is = c.tick-lost.ensures.core in
    still_showing s t n c.tick-lost.new.self (ap (λ (n : Node). n.ports) is) added.all
    (grows_lost s t added.all (ap (λ us. us.items) added.universes))
    (λ u quiet.
    let parts = neither t.all (list_any (λ v. v == u) t.universes.items) quiet in
    ap (λ (n : Node). core_slots n.core u) is ∙ tick_told c.args.now c.tick-lost.result u n.core c.tick-lost.ensures.gone (added.lost parts.0))
    (ap (λ ps. ps.items) added.ports) added.news c.requires

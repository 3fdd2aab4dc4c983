use Rattle.std.proofs.Common.{◌≡◌, ◌-◌, ◌<◌, max, ap, sym, subst, ◌∙◌, arith}
use Rattle.sacn_node.specs.Cores.{Core, core_at}
use Rattle.sacn_node.specs.Storage.{core_of}
use Rattle.sacn_node.proofs.Expiry.{moved_is, max_same}
use Rattle.sacn_node.proofs.tables.Tables.tell_settled.Goals as goal

pub returns : goal.returns
returns c =
    let i = c.self.inside in
    let young : max i.moment i.moment - i.earliest < 2500 = omega (arith, max_same i.moment, c.self.invariant.young) in
    subst (λ (n : Core). core_at n.moment n ≡ n) c.self.view_is
    (sym (moved_is i.moment i.earliest i.moment i.list.items c.self.invariant young) ∙ ap (λ m. core_of m i.list.items) (max_same i.moment))

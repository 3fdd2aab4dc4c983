use Rattle.std.proofs.Common.{◌≤◌, ◌-◌, ◌∙◌, length, drop, take, List, ℕ, arith}
use Rattle.std.proofs.lemmas.List.{length-take, length-drop}
use Rattle.sacn_edge.proofs.ToldLemmas.{Adds-append, take-next, not_zero}
use Rattle.sacn_edge.proofs.text.write_text.Goals as goal

pub loop-done-preserved : goal.loop-done-preserved
loop-done-preserved g c =
    let text : List ℕ = c.args.text.now in
    let done : ℕ = c.loop-done.done in
    let few : c.put-n.result ≤ length text - done = omega (arith, c.put-n.ensures.bound, length-take (length text - done) (drop done text), length-drop done text) in
    record {
      works = c.put-n.ensures.fails ∙ not_zero c.put-n.result c.if-n-eq0.false;
      within = omega (arith, few, c.loop-done.invariant.within);
      told = rw (take-next done c.put-n.result (length text - done) text few) (Adds-append (take done text) (take c.put-n.result (take (length text - done) (drop done text))) c.loop-done.invariant.told c.put-n.ensures.taken);
    }

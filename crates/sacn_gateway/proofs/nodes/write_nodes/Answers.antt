use Rattle.std.proofs.Common.{◌+◌, ◌<◌, length, take, drop, get_or, sym, subst, arith, ap, ◌++◌, ◌∷◌, ◌∙◌}
use Rattle.std.proofs.lemmas.Result.{err_from_is_err_and}
use Rattle.sacn_node.specs.Showings.{news_of}
use Rattle.sacn_edge.specs.Additions.{Adds}
use Rattle.sacn_edge.proofs.ToldLemmas.{Adds-append}
use Rattle.sacn_edge.proofs.PortLineLemmas.{split_at}
use Rattle.sacn_gateway.specs.GatewayNodes.{news_text, news_texts}
use Rattle.sacn_gateway.proofs.NodeLists.{news_texts-more, fails_alone}
use Rattle.sacn_gateway.proofs.nodes.write_nodes.Goals as goal

pub returns-in_err-write-clause-err : goal.returns-in_err-write-clause-err
returns-in_err-write-clause-err g c =
    let p = err_from_is_err_and c.from_residual.result c.from_residual.ensures.1 in
    let ns = c.args.nodes.now in
    let i = c.loop-node.node-index in
    let n = c.node-item.result in
    let within : i < length ns = omega (arith, c.loop-node-test.true) in
    let bad = c.in_err-write.ensures.err in
    let alone = fails_alone n.core.core.moment (news_of n.showing) (g.O.Out.Tells c.loop-node.out) (g.O.Out.Tells c.write.new.out) bad.1 in
    rw p.1 (
      bad.0,
      (
        take i ns,
        n,
        drop (i + 1) ns,
        alone.0,
        split_at ns i n within ∙ ap (λ m. take i ns ++ m ∷ drop (i + 1) ns) (sym c.node-item.is),
        alone.1,
        Adds-append (news_texts (take i ns)) alone.0 c.loop-node.invariant.told alone.2,
      ),
    )

pub loop-node-preserved : goal.loop-node-preserved
loop-node-preserved g c =
    let ns = c.args.nodes.now in
    let i = c.loop-node.node-index in
    let n = c.node-item.result in
    let within : i < length ns = omega (arith, c.loop-node-test.true) in
    let ok = c.in_ok-write.ensures.ok in
    record {
      works = ok.0;
      told = subst (Adds (g.O.Out.Tells c.args.out.now) (g.O.Out.Tells c.write.new.out)) (sym (news_texts-more ns i n within ∙ ap (λ m. news_texts (take i ns) ++ news_text m) (sym c.node-item.is)))
          (Adds-append (news_texts (take i ns)) (news_text n) c.loop-node.invariant.told ok.1);
    }

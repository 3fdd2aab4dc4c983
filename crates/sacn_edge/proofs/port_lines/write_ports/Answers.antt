use Rattle.std.proofs.Common.{◌+◌, ◌<◌, length, take, drop, get_or, sym, subst, arith}
use Rattle.std.proofs.lemmas.Result.{err_from_is_err_and}
use Rattle.sacn_node.specs.Showings.{unseen}
use Rattle.sacn_edge.specs.Additions.{Adds}
use Rattle.sacn_edge.specs.PortLines.{port_text, ports_text}
use Rattle.sacn_edge.proofs.ToldLemmas.{Adds-append}
use Rattle.sacn_edge.proofs.PortLineLemmas.{ports_text-more, split_at}
use Rattle.sacn_edge.proofs.port_lines.write_ports.Goals as goal

pub returns-in_err-write_port-clause-err : goal.returns-in_err-write_port-clause-err
returns-in_err-write_port-clause-err g c =
    let p = err_from_is_err_and c.from_residual.result c.from_residual.ensures.1 in
    let ps = c.args.ports.now in
    let m = c.args.moment in
    let i = c.loop-port.port-index in
    let within : i < length ps = omega (arith, c.loop-port-test.true) in
    let bad = c.in_err-write_port.ensures.err in
    rw p.1 (
      bad.0,
      (
        take i ps,
        get_or ps i (unseen 0),
        drop (i + 1) ps,
        bad.1.0,
        split_at ps i (unseen 0) within,
        bad.1.1,
        Adds-append (ports_text m (take i ps)) _ c.loop-port.invariant.told bad.1.2,
      ),
    )

pub loop-port-preserved : goal.loop-port-preserved
loop-port-preserved g c =
    let ps = c.args.ports.now in
    let m = c.args.moment in
    let i = c.loop-port.port-index in
    let within : i < length ps = omega (arith, c.loop-port-test.true) in
    let ok = c.in_ok-write_port.ensures.ok in
    record {
      works = ok.0;
      told = subst (Adds (g.O.Out.Tells c.args.out.now) (g.O.Out.Tells c.write_port.new.out)) (sym (ports_text-more m ps i (unseen 0) within))
          (Adds-append (ports_text m (take i ps)) (port_text m (get_or ps i (unseen 0))) c.loop-port.invariant.told ok.1);
    }

use Rattle.std.proofs.Common.{[], ◌∷◌, ◌++◌, ap, ◌∙◌, arith}
use Rattle.std.proofs.lemmas.List.Elements.{All-push, All-same}
use Rattle.std.specs.List.{position}
use Rattle.sacn_monitor.specs.Streams.{is_of}
use Rattle.sacn_monitor.specs.Books.{next_loss}
use Rattle.sacn_monitor.proofs.Fitting.{HasFitted}
use Rattle.sacn_monitor.proofs.Losses.{quiet_more}
use Rattle.sacn_monitor.proofs.Admitting.{admitted_chained, admitted_distinct}
use Rattle.sacn_monitor.proofs.register.Register.admit.Goals as goal

pub invariant_of-self : goal.invariant_of-self
invariant_of-self c =
    let r = c.self.inside in
    let streams = c.push_reserved-2.new.self.items in (
      omega (arith, c.push_reserved-2.ensures.capacity, c.self.invariant.0),
      omega (arith, c.push_reserved.ensures.capacity, c.self.invariant.1),
      admitted_chained r.latest.items r.before.items c.push_reserved.new.self.items r.streams.items streams c.args.stream c.chain_by-chain.result c.index.result.now c.len.result c.self.invariant.2 c.chain_by-chain.ensures.chain c.index.ensures c.push_reserved.ensures.items c.push_reserved-2.ensures.items (omega (arith, c.len.ensures)),
      admitted_distinct r.streams.items streams c.args.stream c.self.invariant.3 (ap (position (is_of c.args.stream.universe c.args.stream.cid)) c.self.view_is ∙ c.requires.unknown) c.push_reserved-2.ensures.items,
      omega (arith, c.loss.ensures, ap next_loss c.push_reserved-2.ensures.items, quiet_more r.quiet_until c.args.stream r.streams.items c.self.invariant.4),
      All-same HasFitted streams (r.streams.items ++ c.args.stream ∷ []) c.push_reserved-2.ensures.items (All-push HasFitted r.streams.items c.args.stream c.self.invariant.5 c.requires.fitted),
    )

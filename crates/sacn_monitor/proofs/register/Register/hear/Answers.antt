use Rattle.std.proofs.Common.{◌≡◌, ◌<◌, length, sym, ap, subst, ◌∙◌, arith}
use Rattle.std.proofs.lemmas.List.{get_or-set_same}
use Rattle.std.proofs.lemmas.List.Elements.{All-set}
use Rattle.sacn_monitor.specs.Streams.{loss_of}
use Rattle.sacn_monitor.proofs.Losses.{quiet_changed}
use Rattle.sacn_monitor.proofs.Fitting.{HasFitted, heard_fitted, fitted_at}
use Rattle.sacn_monitor.proofs.Admitting.{key_of, changed_chained, changed_distinct}
use Rattle.sacn_monitor.proofs.register.Register.hear.Goals as goal

pub invariant_of-self : goal.invariant_of-self
invariant_of-self c =
    let r = c.self.inside in
    let same = ap key_of c.hear-news.ensures.stream ∙ ap key_of c.index_mut.ensures.value in
    let low : c.args.at < length r.streams.items = omega (arith, c.requires, ap length c.self.view_is) in
    let heard : c.index.result.now ≡ c.hear-news.new.self = c.index.ensures ∙ get_or-set_same r.streams.items c.args.at c.hear-news.new.self c.index.result.now low in (
      c.self.invariant.0,
      c.self.invariant.1,
      changed_chained r.streams.items c.args.at c.hear-news.new.self c.index_mut.result.now same r.latest.items r.before.items c.self.invariant.2,
      changed_distinct r.streams.items c.args.at c.hear-news.new.self c.index_mut.result.now same c.self.invariant.3,
      omega (arith, c.loss.ensures, ap loss_of heard, quiet_changed r.quiet_until c.args.at c.hear-news.new.self r.streams.items c.self.invariant.4),
      All-set HasFitted r.streams.items c.args.at c.hear-news.new.self (subst HasFitted (sym c.hear-news.ensures.stream) (heard_fitted c.args.moment c.args.sender c.args.packet.now c.index_mut.result.now.account (fitted_at c.args.at c.index_mut.result.now r.streams.items low c.index_mut.ensures.value c.self.invariant.5))) c.self.invariant.5,
    )

pub hear-news-requires : goal.hear-news-requires
hear-news-requires c =
    let r = c.self.inside in
    fitted_at c.args.at c.index_mut.result.now r.streams.items (omega (arith, c.requires, ap length c.self.view_is)) c.index_mut.ensures.value c.self.invariant.5

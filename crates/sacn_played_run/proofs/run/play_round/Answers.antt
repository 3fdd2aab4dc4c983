use Rattle.std.proofs.Common.{◌≡◌, None, ap, subst, ◌∙◌}
use Rattle.sacn_source.specs.Source.{due}
use Rattle.sacn_replay.specs.declared.replay.ReplayCore.{ReplayCore}
use Rattle.sacn_replay.specs.Runs.{Round, played}
use Rattle.sacn_replay.proofs.Rounds.{ordered_more}
use Rattle.sacn_played_source.specs.Played.{Played}
use Rattle.sacn_played_run.specs.Rounds.{SourceRound, IsNextLoss, Sleeps}
use Rattle.sacn_played_run.proofs.Rounding.{given_round, next_is, over_round, source_round, talk_round}
use Rattle.sacn_played_run.proofs.run.play_round.Goals as goal

pub returns : goal.returns
returns g c = λ p holds.
    let now = c.now-now.result in
    let d = c.in_ok-came_to.ensures p holds in
    let o = c.take_order-is_ordered.ensures in
    let s = c.send_due.ensures in
    let w = c.next_wake.ensures in
    let e = c.close.ensures in
    let round : Round = record { now = now; steps = d.0; came_to = c.in_ok-came_to.came_to; order = o.0; ends = e.0 } in
    let r : SourceRound = record { round = round; polls = s.0; wakes = w.0; loss = w.1 } in
    let core = ordered_more now o.0 (played now d.0 p) _ _ o.3 d.2.1 in
    let next = next_is r p _ core _ o.4 _ c.next_of.ensures _ w.4 _ c.sooner-next.ensures in
    let at = ap (λ (k : ReplayCore). k.head) d.2.1 in
    let source = source_round r p c.args.source.now _ _ _ d.3 _ at c.advance.ensures s.6 in (
      r,
      s.1,
      (
        (d.1, o.1),
        s.2,
        s.3,
        (λ few. subst (λ (t : Played). due t.source ≡ None) source (s.7 few)),
        subst (λ (t : Played). Sleeps w.0 t) source w.2,
        subst (λ (t : Played). IsNextLoss w.1 t.universes) source w.3,
      ),
      c.now-now.ensures.told,
      talk_round r p _ next _ _ _ _ _ core o.2 c.look.ensures.told e.1,
      s.4,
      given_round r p c.args.source.now _ _ _ d.3 _ at c.advance.ensures s.6 s.1 s.5,
      source,
      (d.2.0, core),
      over_round r p _ next _ e.2,
    )

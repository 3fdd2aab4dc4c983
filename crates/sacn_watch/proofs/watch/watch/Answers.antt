use Rattle.std.proofs.Common.{◌≡◌, ℕ, ◌<◌, ◌∷◌, [], inl, inr, refl, sym, ap, subst, ◌∙◌, arith}
use Rattle.std.proofs.lemmas.Result.{err_from_is_err_and}
use Rattle.sacn_edge.specs.Additions.{Extends}
use Rattle.sacn_machine.specs.Hearings.{in_order}
use Rattle.sacn_watch.specs.Watches.{heard_in, heard_by, reading_by}
use Rattle.sacn_watch.proofs.Handing.{Extends-none, heard_more, reading_more, turn_handed, watch_ends}
use Rattle.sacn_watch.proofs.watch.watch.Goals as goal

pub loop-turn-init : goal.loop-turn-init
loop-turn-init g c = ([], refl, tt, Extends-none _, c.requires, λ calls was. was)

pub returns-in_err-drain : goal.returns-in_err-drain
returns-in_err-drain g c =
    let p = err_from_is_err_and c.from_residual.result c.from_residual.ensures.1 in
    let run = c.loop-turn.invariant in
    let d = c.drain.ensures in
    let told = subst (λ t. Extends t (g.L.Receiver.told c.drain.new.listener) (in_order (heard_in d.0))) c.wait.ensures.told d.1 in
    rw p.1 (d.0 ∷ run.0, heard_more _ _ _ d.0 run.0 run.3 told, reading_more _ _ d.0 run.0 run.4 d.2, tt)

pub returns-in_err-show : goal.returns-in_err-show
returns-in_err-show g c =
    let p = err_from_is_err_and c.from_residual-in_err-show.result c.from_residual-in_err-show.ensures.1 in
    let run = c.loop-turn.invariant in
    let d = c.drain.ensures in
    let told = subst (λ t. Extends t (g.L.Receiver.told c.drain.new.listener) (in_order (heard_in d.0))) c.wait.ensures.told d.1 in
    rw p.1 (d.0 ∷ run.0, heard_more _ _ _ d.0 run.0 run.3 told, reading_more _ _ d.0 run.0 run.4 d.2, tt)

pub returns-then-heard-until : goal.returns-then-heard-until
returns-then-heard-until g c =
    let run = c.loop-turn.invariant in
    let d = c.in_ok-drain.ensures in
    let told = subst (λ t. Extends t (g.L.Receiver.told c.drain.new.listener) (in_order (heard_in d.0))) c.wait.ensures.told d.1 in
    let at : c.drain.new.heard.now ≡ reading_by (d.0 ∷ run.0) = reading_more _ _ d.0 run.0 run.4 d.2 in (
      d.0 ∷ run.0,
      heard_more _ _ _ d.0 run.0 run.3 told,
      at,
      (
        (run.2, d.3.0, inl (omega (arith, at, c.if-heard-until.true))),
        turn_handed g.W.Watcher.Handed c.args.watcher.now c.loop-turn.watcher c.drain.new.watcher c.show.new.self _ d.0 run.0 at run.5 d.3.1 c.in_ok-show.ensures.handed,
      ),
    )

pub returns-then-has_ended : goal.returns-then-has_ended
returns-then-has_ended g c =
    let run = c.loop-turn.invariant in
    let d = c.in_ok-drain.ensures in
    let told = subst (λ t. Extends t (g.L.Receiver.told c.drain.new.listener) (in_order (heard_in d.0))) c.wait.ensures.told d.1 in
    let at : c.drain.new.heard.now ≡ reading_by (d.0 ∷ run.0) = reading_more _ _ d.0 run.0 run.4 d.2 in (
      d.0 ∷ run.0,
      subst (λ t. Extends (g.L.Receiver.told c.args.listener.now) t (heard_by (d.0 ∷ run.0))) (sym c.has_ended.ensures.told) (heard_more _ _ _ d.0 run.0 run.3 told),
      at,
      (
        (run.2, d.3.0, inr (inl (c.has_ended.ensures.ended c.if-has_ended.true))),
        turn_handed g.W.Watcher.Handed c.args.watcher.now c.loop-turn.watcher c.drain.new.watcher c.show.new.self _ d.0 run.0 at run.5 d.3.1 c.in_ok-show.ensures.handed,
      ),
    )

pub loop-turn-preserved : goal.loop-turn-preserved
loop-turn-preserved g c =
    let run = c.loop-turn.invariant in
    let d = c.in_ok-drain.ensures in
    let told = subst (λ t. Extends t (g.L.Receiver.told c.drain.new.listener) (in_order (heard_in d.0))) c.wait.ensures.told d.1 in
    let at : c.drain.new.heard.now ≡ reading_by (d.0 ∷ run.0) = reading_more _ _ d.0 run.0 run.4 d.2 in (
      d.0 ∷ run.0,
      omega (arith, run.1),
      (omega (arith, at, c.if-heard-until.false), d.3.0, run.2),
      subst (λ t. Extends (g.L.Receiver.told c.args.listener.now) t (heard_by (d.0 ∷ run.0))) (sym c.has_ended.ensures.told) (heard_more _ _ _ d.0 run.0 run.3 told),
      at,
      turn_handed g.W.Watcher.Handed c.args.watcher.now c.loop-turn.watcher c.drain.new.watcher c.show.new.self _ d.0 run.0 at run.5 d.3.1 c.in_ok-show.ensures.handed,
    )

pub returns : goal.returns
returns g c =
    let run = c.loop-turn.invariant in (
      run.0,
      run.3,
      run.4,
      (watch_ends c.args.until _ run.0 run.2 (omega (arith, run.1, c.loop-turn-test.false, c.loop-turn.auto._turn-end)), run.5),
    )

use Rattle.std.proofs.Common.{◌∷◌, ◌++◌, [], map, refl, sym, subst, ◌∙◌, true≢false, arith}
use Rattle.sacn_edge.proofs.NodeLemmas.{Extends-append}
use Rattle.sacn_edge.proofs.ConsoleLemmas.{Hands-append, Hands-nil}
use Rattle.sacn_replay.specs.Runs.{after_rounds}
use Rattle.sacn_replay.proofs.Rounds.{Extends-none, run_made}
use Rattle.sacn_played_source.specs.Played.{Played}
use Rattle.sacn_played_run.specs.Rounds.{IsSourceRound, bare, readings, round_calls, run_calls, run_talk, source_talk}
use Rattle.sacn_played_run.proofs.Calling.{after_more, given_more}
use Rattle.sacn_played_run.proofs.run.run_rounds.Goals as goal

pub loop-round-init : goal.loop-round-init
loop-round-init g c = λ p holds. ([], [], refl, tt, tt, Extends-none _, Extends-none _, Hands-nil _, refl, refl, holds)

pub returns-then-is_last : goal.returns-then-is_last
returns-then-is_last g c = λ p holds.
    let run = c.loop-round.invariant p holds in
    let rs = run.0 in
    let q = after_rounds p (map bare rs) in
    let t = c.in_ok-is_last.ensures q run.10 in
    let r = t.0 in
    let s = c.loop-round.source in (
      r ∷ rs,
      run.1 ++ t.1,
      (run.3, omega (arith, run.2, c.loop-round-test.true, c.loop-round.auto._round-end), λ goes_on. absurd (true≢false (sym c.if-is_last.true ∙ t.9 ∙ goes_on))),
      (subst (λ (x : Played). IsSourceRound r q x) run.9 t.2, run.4),
      Extends-append _ _ _ (readings rs) (r.round.now ∷ []) run.5 t.3,
      Extends-append _ _ _ (run_talk p rs) (source_talk r q) run.6 t.4,
      Hands-append _ _ _ run.1 t.1 run.7 t.5,
      given_more (round_calls r q) (run_calls p rs) c.args.source.now s run.9 run.1 t.1 run.8 t.6,
      after_more (round_calls r q) (run_calls p rs) c.args.source.now s run.9 _ t.7,
      t.8,
    )

pub loop-round-preserved : goal.loop-round-preserved
loop-round-preserved g c = λ p holds.
    let run = c.loop-round.invariant p holds in
    let rs = run.0 in
    let q = after_rounds p (map bare rs) in
    let t = c.in_ok-is_last.ensures q run.10 in
    let r = t.0 in
    let s = c.loop-round.source in (
      r ∷ rs,
      run.1 ++ t.1,
      omega (arith, run.2),
      (sym t.9 ∙ c.if-is_last.false, run.3),
      (subst (λ (x : Played). IsSourceRound r q x) run.9 t.2, run.4),
      Extends-append _ _ _ (readings rs) (r.round.now ∷ []) run.5 t.3,
      Extends-append _ _ _ (run_talk p rs) (source_talk r q) run.6 t.4,
      Hands-append _ _ _ run.1 t.1 run.7 t.5,
      given_more (round_calls r q) (run_calls p rs) c.args.source.now s run.9 run.1 t.1 run.8 t.6,
      after_more (round_calls r q) (run_calls p rs) c.args.source.now s run.9 _ t.7,
      t.8,
    )

pub returns : goal.returns
returns g c = λ p holds.
    let run = c.loop-round.invariant p holds in
    (run.0, run.1, run_made _ _ run.3 (omega (arith, run.2, c.loop-round-test.false, c.loop-round.auto._round-end)), run.4, run.5, run.6, run.7, run.8, run.9, run.10)

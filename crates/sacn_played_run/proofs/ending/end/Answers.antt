use Rattle.std.proofs.Common.{◌≡◌, ◌∷◌, ◌++◌, [], Bool, true, false, None, refl, sym, ap, subst, ◌∙◌, true≢false, arith}
use Rattle.sacn_edge.specs.Additions.{Extends}
use Rattle.sacn_edge.proofs.NodeLemmas.{Extends-append}
use Rattle.sacn_edge.proofs.ConsoleLemmas.{Hands-append, Hands-nil}
use Rattle.sacn_source.specs.Source.{due}
use Rattle.sacn_replay.proofs.Rounds.{Extends-none}
use Rattle.sacn_played_source.specs.Played.{Played, has_ended}
use Rattle.sacn_played_run.specs.Calls.{polls}
use Rattle.sacn_played_run.specs.Rounds.{Sleeps}
use Rattle.sacn_played_run.specs.Endings.{EndRound, end_calls, end_readings, end_talk, ended, rest_of}
use Rattle.sacn_played_run.proofs.Calling.{after_more, given_more}
use Rattle.sacn_played_run.proofs.Rounding.{end_made}
use Rattle.sacn_played_run.proofs.ending.end.Goals as goal

pub loop-round-init : goal.loop-round-init
loop-round-init g c = ([], [], refl, tt, tt, Extends-none _, Extends-none _, Hands-nil _, refl, c.end_all.ensures)

pub returns-then-has_ended : goal.returns-then-has_ended
returns-then-has_ended g c =
    let run = c.loop-round.invariant in
    let es = run.0 in
    let now = c.now-now.result in
    let s = c.send_due.ensures in
    let first = c.args.source.now in
    let before = c.loop-round.source in
    let e : EndRound = record { now = now; polls = s.0; wakes = 0 } in
    let source = after_more (polls now s.0) (end_calls es) first before run.9 _ s.6 in
    let ends : has_ended (ended (e ∷ es) first) ≡ true = sym (ap has_ended source) ∙ sym c.has_ended.ensures ∙ c.if-has_ended.true in
    let told = g.O.PlayOrders.told c.loop-round.orders in (
      e ∷ es,
      run.1 ++ s.1,
      ((s.2, s.3, (λ few. subst (λ (t : Played). due t.source ≡ None) source (s.7 few)), run.3), run.4, omega (arith, run.2, c.loop-round-test.true), λ owes. absurd (true≢false (sym ends ∙ owes))),
      Extends-append _ _ _ (end_readings es) (now ∷ []) run.5 c.now-now.ensures.told,
      Extends-append _ _ _ (end_talk es first) (rest_of (has_ended (ended (e ∷ es) first)) 0) run.6 (subst (λ (b : Bool). Extends told told (rest_of b 0)) (sym ends) (Extends-none _)),
      Hands-append _ _ _ run.1 s.1 run.7 s.4,
      given_more (polls now s.0) (end_calls es) first before run.9 run.1 s.1 run.8 s.5,
      source,
    )

pub loop-round-preserved : goal.loop-round-preserved
loop-round-preserved g c =
    let run = c.loop-round.invariant in
    let es = run.0 in
    let now = c.now-now.result in
    let s = c.send_due.ensures in
    let first = c.args.source.now in
    let before = c.loop-round.source in
    let wakes = c.wakes.result in
    let e : EndRound = record { now = now; polls = s.0; wakes = wakes } in
    let source = after_more (polls now s.0) (end_calls es) first before run.9 _ s.6 in
    let owes : has_ended (ended (e ∷ es) first) ≡ false = sym (ap has_ended source) ∙ sym c.has_ended.ensures ∙ c.if-has_ended.false in
    let told = g.O.PlayOrders.told c.loop-round.orders in
    let new = g.O.PlayOrders.told c.rest.new.self in (
      e ∷ es,
      run.1 ++ s.1,
      omega (arith, run.2),
      (s.2, s.3, (λ few. subst (λ (t : Played). due t.source ≡ None) source (s.7 few)), run.3),
      (owes, subst (λ (t : Played). Sleeps wakes t) source (c.wakes.ensures.quiet, c.wakes.ensures.exact), run.4),
      Extends-append _ _ _ (end_readings es) (now ∷ []) run.5 c.now-now.ensures.told,
      Extends-append _ _ _ (end_talk es first) (rest_of (has_ended (ended (e ∷ es) first)) wakes) run.6 (subst (λ (b : Bool). Extends told new (rest_of b wakes)) (sym owes) c.rest.ensures.told),
      Hands-append _ _ _ run.1 s.1 run.7 s.4,
      given_more (polls now s.0) (end_calls es) first before run.9 run.1 s.1 run.8 s.5,
      source,
    )

pub returns : goal.returns
returns g c =
    let run = c.loop-round.invariant in
    (run.0, run.1, end_made run.0 c.args.source.now run.3 run.4 (omega (arith, run.2, c.loop-round-test.false, c.loop-round.auto._round-end)), run.5, run.6, run.7, run.8, run.9)

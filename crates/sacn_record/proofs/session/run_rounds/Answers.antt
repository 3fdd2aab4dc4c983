use Rattle.std.proofs.Common.{◌≡◌, ◌<◌, ◌≤◌, ◌++◌, ◌∷◌, [], List, ℕ, length, inl, inr, refl, sym, ap, subst, ◌∙◌, arith}
use Rattle.std.specs.List.{flat_map}
use Rattle.std.proofs.lemmas.Result.{err_from_is_err_and}
use Rattle.sacn_edge.specs.Additions.{Extends}
use Rattle.sacn_edge.proofs.NodeLemmas.{Extends-append}
use Rattle.sacn_record.specs.declared.totals.Totals.{Totals}
use Rattle.sacn_record.specs.Recordings.{datagram_block}
use Rattle.sacn_record.specs.Hearing.{caught_by, in_order, reading_after, reading_by, asked_in, asked_by}
use Rattle.sacn_record.specs.Sessions.{counted, counted_on}
use Rattle.sacn_record.proofs.Taping.{fit_both}
use Rattle.sacn_record.proofs.Rounds.{Extends-none, told_still, counted_from, totals_first, deeds_more, begun_more, totals_more, rounds_end}
use Rattle.sacn_record.proofs.session.run_rounds.Goals as goal

pub returns-in_err-open : goal.returns-in_err-open
returns-in_err-open g c =
    let p = err_from_is_err_and c.from_residual.result c.from_residual.ensures.1 in
    rw p.1 ([], Extends-none (g.L.Wire.told c.args.wire.now), tt)

pub loop-round-init : goal.loop-round-init
loop-round-init g c = (
  [],
  refl,
  tt,
  Extends-none _,
  c.in_ok-open.ensures.opened,
  refl,
  totals_first c.args.plan.now c.args.totals.now c.open.new.totals c.requires.nothing c.in_ok-open.ensures.octets c.open.ensures.same.0 c.open.ensures.same.1,
  c.requires.none.0,
  c.requires.none.1,
  tt,
)

pub returns-in_err-drain : goal.returns-in_err-drain
returns-in_err-drain g c =
    let p = err_from_is_err_and c.from_residual-in_err-drain.result c.from_residual-in_err-drain.ensures.1 in
    let run = c.loop-round.invariant in
    let d = c.drain.ensures in
    let told = subst (λ t. Extends t (g.L.Wire.told c.drain.new.wire) (in_order d.0)) c.wait.ensures.told d.1 in
    rw p.1 (d.0 ∷ run.0, Extends-append _ _ _ (caught_by run.0) (in_order d.0) run.3 told, tt)

pub returns-in_err-begun : goal.returns-in_err-begun
returns-in_err-begun g c =
    let p = err_from_is_err_and c.from_residual-in_err-begun.result c.from_residual-in_err-begun.ensures.1 in
    let run = c.loop-round.invariant in
    let d = c.in_ok-drain.ensures in
    let told = subst (λ t. Extends t (g.L.Wire.told c.drain.new.wire) (in_order d.0)) c.wait.ensures.told d.1 in
    rw p.1 (d.0 ∷ run.0, Extends-append _ _ _ (caught_by run.0) (in_order d.0) run.3 told, tt)

pub returns-then-totals-until : goal.returns-then-totals-until
returns-then-totals-until g c =
    let run = c.loop-round.invariant in
    let plan = c.args.plan.now in
    let d = c.in_ok-drain.ensures in
    let cs = d.0 in
    let told = subst (λ t. Extends t (g.L.Wire.told c.drain.new.wire) (in_order cs)) c.wait.ensures.told d.1 in
    let reads : c.drain.new.now ≡ reading_by (cs ∷ run.0) = d.2 ∙ ap (λ (t : Totals). reading_after t.millis cs) run.6 in
    let blocks : c.drain.new.waiting.blocks.items ≡ flat_map datagram_block (asked_in plan cs) = d.3.0 ∙ ap (λ (xs : List ℕ). xs ++ flat_map datagram_block (asked_in plan cs)) run.8 in
    let counts : c.drain.new.waiting.count ≡ counted (length (asked_in plan cs)) = d.3.1 ∙ ap (λ (n : ℕ). counted_on n (length (asked_in plan cs))) run.7 ∙ counted_from (length (asked_in plan cs)) in
    let k = c.in_ok-begun.ensures.kept (asked_in plan cs) blocks counts in
    let deeds = deeds_more plan cs run.0 c.loop-round.begun c.drain.new.now run.5 reads _ _ _ run.4 k.0 in
    let totals = totals_more plan cs run.0 c.loop-round.begun c.drain.new.now run.5 reads c.loop-round.totals c.keep.new.totals run.6 c.keep.ensures.millis k.4 k.5 in
    let fit = fit_both (asked_by plan run.0) (asked_in plan cs) run.9 d.3.2 in (
      cs ∷ run.0,
      Extends-append _ _ _ (caught_by run.0) (in_order cs) run.3 told,
      (deeds, totals, fit, (run.2, inl (omega (arith, c.keep.ensures.millis, reads, c.if-totals-until.true)))),
    )

pub returns-then-has_ended : goal.returns-then-has_ended
returns-then-has_ended g c =
    let run = c.loop-round.invariant in
    let plan = c.args.plan.now in
    let d = c.in_ok-drain.ensures in
    let cs = d.0 in
    let told = subst (λ t. Extends t (g.L.Wire.told c.drain.new.wire) (in_order cs)) c.wait.ensures.told d.1 in
    let reads : c.drain.new.now ≡ reading_by (cs ∷ run.0) = d.2 ∙ ap (λ (t : Totals). reading_after t.millis cs) run.6 in
    let blocks : c.drain.new.waiting.blocks.items ≡ flat_map datagram_block (asked_in plan cs) = d.3.0 ∙ ap (λ (xs : List ℕ). xs ++ flat_map datagram_block (asked_in plan cs)) run.8 in
    let counts : c.drain.new.waiting.count ≡ counted (length (asked_in plan cs)) = d.3.1 ∙ ap (λ (n : ℕ). counted_on n (length (asked_in plan cs))) run.7 ∙ counted_from (length (asked_in plan cs)) in
    let k = c.in_ok-begun.ensures.kept (asked_in plan cs) blocks counts in
    let deeds = deeds_more plan cs run.0 c.loop-round.begun c.drain.new.now run.5 reads _ _ _ run.4 k.0 in
    let totals = totals_more plan cs run.0 c.loop-round.begun c.drain.new.now run.5 reads c.loop-round.totals c.keep.new.totals run.6 c.keep.ensures.millis k.4 k.5 in
    let fit = fit_both (asked_by plan run.0) (asked_in plan cs) run.9 d.3.2 in (
      cs ∷ run.0,
      subst (λ t. Extends (g.L.Wire.told c.args.wire.now) t (caught_by (cs ∷ run.0))) (sym c.has_ended.ensures.told) (Extends-append _ _ _ (caught_by run.0) (in_order cs) run.3 told),
      (deeds, totals, fit, (run.2, inr (inl (c.has_ended.ensures.ended c.if-has_ended.true)))),
    )

pub loop-round-preserved : goal.loop-round-preserved
loop-round-preserved g c =
    let run = c.loop-round.invariant in
    let plan = c.args.plan.now in
    let d = c.in_ok-drain.ensures in
    let cs = d.0 in
    let told = subst (λ t. Extends t (g.L.Wire.told c.drain.new.wire) (in_order cs)) c.wait.ensures.told d.1 in
    let reads : c.drain.new.now ≡ reading_by (cs ∷ run.0) = d.2 ∙ ap (λ (t : Totals). reading_after t.millis cs) run.6 in
    let blocks : c.drain.new.waiting.blocks.items ≡ flat_map datagram_block (asked_in plan cs) = d.3.0 ∙ ap (λ (xs : List ℕ). xs ++ flat_map datagram_block (asked_in plan cs)) run.8 in
    let counts : c.drain.new.waiting.count ≡ counted (length (asked_in plan cs)) = d.3.1 ∙ ap (λ (n : ℕ). counted_on n (length (asked_in plan cs))) run.7 ∙ counted_from (length (asked_in plan cs)) in
    let k = c.in_ok-begun.ensures.kept (asked_in plan cs) blocks counts in
    let deeds = deeds_more plan cs run.0 c.loop-round.begun c.drain.new.now run.5 reads _ _ _ run.4 k.0 in
    let totals = totals_more plan cs run.0 c.loop-round.begun c.drain.new.now run.5 reads c.loop-round.totals c.keep.new.totals run.6 c.keep.ensures.millis k.4 k.5 in
    let fit = fit_both (asked_by plan run.0) (asked_in plan cs) run.9 d.3.2 in
    let begun = begun_more plan cs run.0 c.loop-round.begun c.drain.new.now run.5 reads _ k.1 in (
      cs ∷ run.0,
      omega (arith, run.1),
      (omega (arith, c.keep.ensures.millis, reads, c.if-totals-until.false), run.2),
      subst (λ t. Extends (g.L.Wire.told c.args.wire.now) t (caught_by (cs ∷ run.0))) (sym c.has_ended.ensures.told) (Extends-append _ _ _ (caught_by run.0) (in_order cs) run.3 told),
      deeds,
      begun,
      totals,
      k.2,
      k.3,
      fit,
    )

pub returns : goal.returns
returns g c =
    let run = c.loop-round.invariant in (
      run.0,
      run.3,
      (run.4, run.6, run.9, rounds_end c.args.until _ run.0 run.2 (omega (arith, run.1, c.loop-round-test.false, c.loop-round.auto._round-end))),
    )

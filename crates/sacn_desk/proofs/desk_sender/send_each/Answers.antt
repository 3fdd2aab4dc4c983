use Rattle.std.proofs.Common.{rules, arith, ◌≡◌, ◌+◌, [], cond, refl, sym, ap, ◌∙◌, add-zero}
use Rattle.sacn_machine.proofs.Untold.{Extends-none}
use Rattle.sacn_desk.proofs.SendingLists.{one_more}
use Rattle.sacn_desk.proofs.desk_sender.send_each.Goals.{then-not-send_to, else-not-send_to}
use Rattle.sacn_desk.proofs.desk_sender.send_each.Goals as goal

pub loop-place-init : goal.loop-place-init
loop-place-init g c = record {
  few = search rules;
  run = ([], Extends-none _, refl, search rules, refl);
}

pub loop-place-preserved : goal.loop-place-preserved
loop-place-preserved g c =
    let failed = c.loop-place.failed in
    let counted : c.if-not-send_to.failed ≡ failed + cond c.send_to.result 0 1 = elim c.if-not-send_to.branch [
      | then-not-send_to w ↦ w.failed-is ∙ ap (λ b. failed + cond b 0 1) (sym w.if-not-send_to.true)
      | else-not-send_to w ↦ w.failed-is ∙ sym (add-zero _) ∙ ap (λ b. failed + cond b 0 1) (sym w.if-not-send_to.false)
    ] in
    let sent = c.send_to.ensures in
    record {
      few = elim c.if-not-send_to.branch [
        | then-not-send_to w ↦ omega (arith, w.failed-is, c.loop-place.invariant.few)
        | else-not-send_to w ↦ omega (arith, w.failed-is, c.loop-place.invariant.few)
      ];
      run = one_more _ _ _ _ _ _ _ _ _ _ _ _ c.loop-place-test.true c.index-hosts-place.is c.loop-place.invariant.run (sent.0, sent.1, sent.2, sent.3, sym sent.4) counted;
    }

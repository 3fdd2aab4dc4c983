use Rattle.std.proofs.Common.{◌++◌, ◌∙◌, ℕ, List, ap, arith}
use Rattle.sacn_gateway.specs.declared.slot_lines.LitSlot.{LitSlot}
use Rattle.sacn_gateway.proofs.SlotTexts.{dark_kept, lit_kept}
use Rattle.sacn_gateway.proofs.slot_lines.add_slots.Goals.{then-level-ne0+else-len-kept_before, else-level-ne0}
use Rattle.sacn_gateway.proofs.slot_lines.add_slots.Goals as goal

pub loop-slot-preserved : goal.loop-slot-preserved
loop-slot-preserved c =
    elim c.if-level-ne0.branch [
      | then-level-ne0+else-len-kept_before w ↦ lit_kept
          c.args.frame.now c.loop-slot.slot c.loop-slot.line.items _ w.slot_word-word.result.items c.if-level-ne0.line.items c.args.places w.kept_before.result c.loop-slot.left c.if-level-ne0.left
          (omega (arith, c.told-frame, c.loop-slot-test.true))
          (omega (arith, w.if-level-ne0.true))
          w.slot_word-word.ensures
          (omega (arith, w.left-is, w.saturating_sub-left.ensures))
          (λ (ss : List LitSlot) long. w.kept_before.ensures ss (long ∙ w.left-is))
          (omega (arith, w.if-len-kept_before.false, w.len.ensures.value, w.len-then-level-ne0.ensures.value))
          (ap (λ l. l.items) w.line-is ∙ w.add-then-level-ne0.ensures.text ∙ ap (λ (t : List ℕ). c.loop-slot.line.items ++ t) w.as_slice.ensures.value)
          c.loop-slot.invariant
      | else-level-ne0 w ↦ dark_kept
          c.args.frame.now c.loop-slot.slot c.loop-slot.line.items _ c.if-level-ne0.line.items c.args.places c.loop-slot.left c.if-level-ne0.left
          (omega (arith, c.told-frame, c.loop-slot-test.true))
          w.if-level-ne0.false
          (ap (λ l. l.items) w.line-is)
          w.left-is
          c.loop-slot.invariant
    ]

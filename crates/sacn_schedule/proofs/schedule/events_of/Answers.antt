use Rattle.std.proofs.Common.{◌∙◌, ◌+◌, ◌<◌, ◌∷◌, [], ◌⊎◌, arith, length, map, ap, sym, inl, inr}
use Rattle.std.proofs.lemmas.List.{map-append}
use Rattle.std.proofs.lemmas.Result.{err_from_is_err_and}
use Rattle.sacn_files.specs.Lines.{entries_of, after_entries}
use Rattle.sacn_files.proofs.LineLemmas.{says_in, skips_in, line_read, line_refused}
use Rattle.sacn_schedule.specs.Events.{happening}
use Rattle.sacn_schedule.specs.Schedules.{event_in}
use Rattle.sacn_schedule.proofs.schedule.events_of.Goals as goal
use Rattle.sacn_schedule.proofs.schedule.events_of.Goals.{then-not-is_skipped+in_ok-event+in_ok-push, else-not-is_skipped}

or_all : {A B C : Type 0} → A ⊎ B → (B → C) → A ⊎ C
or_all (inl a) f = inl a
or_all (inr b) f = inr (f b)

pub returns-in_err-event : goal.returns-in_err-event
returns-in_err-event c =
    let lt : c.loop-i.i < length c.in_ok-lines.lines.items = omega arith in
    let something = rw (c.as_slice.ensures.value, c.in_ok-put_words.ensures) at c.if-not-is_skipped.ensures in
    let refused = rw (c.as_slice-then-not-is_skipped.ensures.value, c.in_ok-put_words.ensures) at c.in_err-event.ensures in
    let says = says_in _ c.loop-i.i c.index.result.now lt c.index.ensures (sym something) in
    let residual = err_from_is_err_and c.from_residual-in_err-event.result c.from_residual-in_err-event.ensures.1 in
    rw (residual.1, residual.2) (or_all refused (λ e. line_refused event_in _ (map happening c.loop-i.events.items) c.in_err-event.field-0.0 (c.loop-i.i + 1) _ _ _ says e c.loop-i.invariant))

pub loop-i-preserved : goal.loop-i-preserved
loop-i-preserved c =
    let lt : c.loop-i.i < length c.in_ok-lines.lines.items = omega arith in
    elim c.if-not-is_skipped.branch [
      | then-not-is_skipped+in_ok-event+in_ok-push w ↦
          let something = rw (c.as_slice.ensures.value, c.in_ok-put_words.ensures) at w.if-not-is_skipped.ensures in
          let given = rw (w.as_slice-then-not-is_skipped.ensures.value, c.in_ok-put_words.ensures) at w.in_ok-event.ensures in
          let says = says_in _ c.loop-i.i c.index.result.now lt c.index.ensures (sym something) in
          let pushed = ap (map happening) w.in_ok-push.ensures.items ∙ map-append happening c.loop-i.events.items (w.in_ok-event.event ∷ []) in
          rw w.events-is (line_read event_in _ (map happening c.loop-i.events.items) _ (happening w.in_ok-event.event) (c.loop-i.i + 1) _ _ _ says given pushed c.loop-i.invariant)
      | else-not-is_skipped w ↦
          let nothing = rw (c.as_slice.ensures.value, c.in_ok-put_words.ensures) at w.if-not-is_skipped.ensures in
          let skips = skips_in _ c.loop-i.i c.index.result.now lt c.index.ensures (sym nothing) in
          rw w.events-is (c.loop-i.invariant ∙ ap (λ xs. after_entries (map happening c.loop-i.events.items) (entries_of event_in xs)) skips)
    ]

use Rattle.std.proofs.Common.{◌≡◌, ◌∙◌, ◌+◌, ◌<◌, arith, length, ap, sym, inr}
use Rattle.std.proofs.lemmas.Result.{err_from_is_err_and}
use Rattle.sacn_files.specs.Lines.{entries_of, after_entries}
use Rattle.sacn_files.proofs.LineLemmas.{says_in, skips_in, line_read, line_refused}
use Rattle.sacn_console.specs.Scripts.{order_in}
use Rattle.sacn_console.proofs.script.read_script.Goals as goal
use Rattle.sacn_console.proofs.script.read_script.Goals.{then-not-is_skipped+in_ok-order_in+in_ok-push, else-not-is_skipped}

pub returns-in_err-order_in : goal.returns-in_err-order_in
returns-in_err-order_in c =
    let lt : c.loop-i.i < length c.in_ok-lines.lines.items = omega arith in
    let something = rw (c.as_slice.ensures.value, c.in_ok-put_words.ensures) at c.if-not-is_skipped.ensures in
    let refused = rw (c.as_slice-then-not-is_skipped.ensures.value, c.in_ok-put_words.ensures) at c.in_err-order_in.ensures in
    let says = says_in _ c.loop-i.i c.index.result.now lt c.index.ensures (sym something) in
    let residual = err_from_is_err_and c.from_residual-in_err-order_in.result c.from_residual-in_err-order_in.ensures.1 in
    rw (residual.1, residual.2) (inr (line_refused order_in _ c.loop-i.orders.items c.in_err-order_in.field-0.0 (c.loop-i.i + 1) _ _ _ says (sym refused) c.loop-i.invariant))

pub loop-i-preserved : goal.loop-i-preserved
loop-i-preserved c =
    let lt : c.loop-i.i < length c.in_ok-lines.lines.items = omega arith in
    elim c.if-not-is_skipped.branch [
      | then-not-is_skipped+in_ok-order_in+in_ok-push w ↦
          let something = rw (c.as_slice.ensures.value, c.in_ok-put_words.ensures) at w.if-not-is_skipped.ensures in
          let given = rw (w.as_slice-then-not-is_skipped.ensures.value, c.in_ok-put_words.ensures) at w.in_ok-order_in.ensures in
          let says = says_in _ c.loop-i.i c.index.result.now lt c.index.ensures (sym something) in
          rw w.orders-is (line_read order_in _ c.loop-i.orders.items _ w.in_ok-order_in.field-0 (c.loop-i.i + 1) _ _ _ says (sym given) w.in_ok-push.ensures.items c.loop-i.invariant)
      | else-not-is_skipped w ↦
          let nothing = rw (c.as_slice.ensures.value, c.in_ok-put_words.ensures) at w.if-not-is_skipped.ensures in
          let skips = skips_in _ c.loop-i.i c.index.result.now lt c.index.ensures (sym nothing) in
          rw w.orders-is (c.loop-i.invariant ∙ ap (λ xs. after_entries c.loop-i.orders.items (entries_of order_in xs)) skips)
    ]

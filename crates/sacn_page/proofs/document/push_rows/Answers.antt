use Rattle.std.proofs.Common.{rules, ◌<◌, length, sym, ◌∙◌, true≢false, arith}
use Rattle.sacn_page.proofs.Rows.{one_more_row, no_row}
use Rattle.sacn_page.proofs.document.push_rows.Goals as goal
use Rattle.sacn_page.proofs.document.push_rows.Goals.{then-branch+in_ok-push_listed, else-branch}

pub loop-place-preserved : goal.loop-place-preserved
loop-place-preserved c none =
    let inv = c.loop-place.invariant none in
    let told = c.in_ok-note_row.ensures.new inv.0 in
    let within : c.loop-place.place < length c.args.streams.now = search rules in
    elim c.if-branch.branch [
      | then-branch+in_ok-push_listed w ↦ (told.1, (λ zero. absurd (omega (arith, zero))), (λ some. (w.is_first-is, rw w.text-is (one_more_row c.args.moment c.loop-place.place c.args.streams.now _ _ _ _ _ within inv.1 inv.2 w.in_ok-push_listed.ensures))))
      | else-branch w ↦ absurd (true≢false (sym told.0 ∙ w.if-branch.false))
    ]

pub returns-then-extent-eq0 : goal.returns-then-extent-eq0
returns-then-extent-eq0 c = record {
  first = λ none whole.
      let inv = c.loop-place.invariant none in
      let nothing = no_row c.args.moment c.loop-place.place c.args.streams.now _ _ _ _ c.loop-place-test.false c.if-not-is_first.false inv.1 inv.2 in
      rw nothing.0 (rw nothing.1 at c.push_no_row.ensures);
}

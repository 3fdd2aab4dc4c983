use Rattle.std.proofs.Common.{rules, ◌<◌, ◌≡◌, sym, length, ◌∙◌, append_assoc, append-nil}
use Rattle.sacn_tell.proofs.ForeignTexts.{one_chunk, last_chunk, no_chunk}
use Rattle.sacn_tell.proofs.json.push_foreign.Goals as goal

pub loop-chunk-preserved-in-Continue-branch-2 : goal.loop-chunk-preserved-in-Continue-branch-2
loop-chunk-preserved-in-Continue-branch-2 c =
    let steps = c.in-Some.ensures.steps in
    let some : 0 < length c.in-Some.chunk.invalid.now = search rules in
    let chunk = one_chunk _ _ _ _ (rw (sym c.valid.ensures) c.valid.utf8) steps.0 steps.3.0 steps.3.1 some in
    rw (c.in_ok-push_letter.ensures, c.in_ok-push_letters.ensures, c.valid.ensures)
    (simp append_assoc (rw chunk at c.loop-chunk.invariant))

pub loop-chunk-preserved : goal.loop-chunk-preserved
loop-chunk-preserved c =
    let steps = c.in-Some.ensures.steps in
    let none : length c.in-Some.chunk.invalid.now ≡ 0 = search rules in
    let chunk = last_chunk _ _ _ _ (rw (sym c.valid.ensures) c.valid.utf8) steps.0 steps.3.0 none (steps.2 none) in
    rw (c.in_ok-push_letters.ensures, c.valid.ensures, append_assoc) (rw chunk at c.loop-chunk.invariant)

pub returns : goal.returns
returns c = sym (append-nil _) ∙ rw (no_chunk _ c.in-None.ensures.steps.0) at c.loop-chunk.invariant

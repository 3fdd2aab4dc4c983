use Rattle.std.proofs.Common.{◌++◌, ◌+◌, ap, ◌∙◌, arith, List, ℕ, drop}
use Rattle.sacn_text.specs.Words.{spaced}
use Rattle.sacn_text.proofs.Decodes.{spaced_more}
use Rattle.sacn_text.proofs.printed_names.spaced.Goals as goal

pub loop-i-preserved : goal.loop-i-preserved
loop-i-preserved c =
    let numbers : List ℕ = c.args.numbers.now in
    ap (λ (l : List ℕ). l ++ spaced (drop (c.loop-i.i + 1) numbers)) c.in_ok-extend_from_slice.ensures.items
    ∙ spaced_more numbers c.loop-i.i c.loop-i.text.items c.as_bytes.result.now (spaced numbers) (omega arith) c.loop-i.invariant (c.as_bytes.ensures.value ∙ c.in_ok-piece.ensures.ok)

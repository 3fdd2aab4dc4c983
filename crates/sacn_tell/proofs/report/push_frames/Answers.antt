use Rattle.std.proofs.Common.{◌++◌, ℕ, ap, ◌∙◌, codes, string_bytes}
use Rattle.sacn_tell.specs.Totals.{named_count, frames_text}
use Rattle.sacn_tell.proofs.Texts.{two_pieces}
use Rattle.sacn_tell.proofs.report.push_frames.Goals as goal

pub returns : goal.returns
unfolding frames_text
returns c =
    two_pieces c.push_named-3.result (string_bytes c.args.text.now) (string_bytes c.push_named.new.text) (string_bytes c.push_named-3.new.text) _ _ c.in_ok-push_named.ensures
    (two_pieces c.push_named-3.result (string_bytes c.push_named.new.text) (string_bytes c.push_named-2.new.text) (string_bytes c.push_named-3.new.text) _ _ (c.in_ok-push_named-2.ensures ∙ ap (λ (n : ℕ). string_bytes c.push_named.new.text ++ named_count (codes "frames without a datagram") n) c.passed_in.ensures) c.push_named-3.ensures)

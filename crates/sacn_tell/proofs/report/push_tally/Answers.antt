use Rattle.std.proofs.Common.{◌++◌, ℕ, ap, ◌∙◌, codes, string_bytes}
use Rattle.sacn_tell.specs.Totals.{named_count, tally_text}
use Rattle.sacn_tell.proofs.Texts.{two_pieces}
use Rattle.sacn_tell.proofs.report.push_tally.Goals as goal

pub returns : goal.returns
unfolding tally_text
returns c =
    two_pieces c.push_named-6.result (string_bytes c.args.text.now) (string_bytes c.push_named.new.text) (string_bytes c.push_named-6.new.text) _ _ c.in_ok-push_named.ensures
    (two_pieces c.push_named-6.result (string_bytes c.push_named.new.text) (string_bytes c.push_named-2.new.text) (string_bytes c.push_named-6.new.text) _ _ (c.in_ok-push_named-2.ensures ∙ ap (λ (n : ℕ). string_bytes c.push_named.new.text ++ named_count (codes "refused") n) c.refused_in.ensures)
    (two_pieces c.push_named-6.result (string_bytes c.push_named-2.new.text) (string_bytes c.push_named-3.new.text) (string_bytes c.push_named-6.new.text) _ _ c.in_ok-push_named-3.ensures
    (two_pieces c.push_named-6.result (string_bytes c.push_named-3.new.text) (string_bytes c.push_named-4.new.text) (string_bytes c.push_named-6.new.text) _ _ c.in_ok-push_named-4.ensures
    (two_pieces c.push_named-6.result (string_bytes c.push_named-4.new.text) (string_bytes c.push_named-5.new.text) (string_bytes c.push_named-6.new.text) _ _ c.in_ok-push_named-5.ensures c.push_named-6.ensures))))

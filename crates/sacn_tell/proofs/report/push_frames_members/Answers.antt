use Rattle.std.proofs.Common.{◌++◌, ℕ, ap, ◌∙◌, codes, string_bytes}
use Rattle.sacn_tell.specs.Members.{number_member}
use Rattle.sacn_tell.specs.Totals.{frames_members}
use Rattle.sacn_tell.proofs.Texts.{two_pieces}
use Rattle.sacn_tell.proofs.report.push_frames_members.Goals as goal

pub returns : goal.returns
unfolding frames_members
returns c =
    two_pieces c.push_number-4.result (string_bytes c.args.text.now) (string_bytes c.push_number.new.text) (string_bytes c.push_number-4.new.text) _ _ c.in_ok-push_number.ensures
    (two_pieces c.push_number-4.result (string_bytes c.push_number.new.text) (string_bytes c.push_number-2.new.text) (string_bytes c.push_number-4.new.text) _ _ (c.in_ok-push_number-2.ensures ∙ ap (λ (n : ℕ). string_bytes c.push_number.new.text ++ number_member (codes "other_frames") n) c.passed_in.ensures)
    (two_pieces c.push_number-4.result (string_bytes c.push_number-2.new.text) (string_bytes c.push_number-3.new.text) (string_bytes c.push_number-4.new.text) _ _ c.in_ok-push_number-3.ensures
    (two_pieces c.push_number-4.result (string_bytes c.push_number-3.new.text) (string_bytes c.unread_members.new.text) (string_bytes c.push_number-4.new.text) _ _ c.in_ok-unread_members.ensures c.push_number-4.ensures)))

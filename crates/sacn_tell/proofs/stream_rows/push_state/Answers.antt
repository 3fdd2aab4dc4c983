use Rattle.std.proofs.Common.{◌≡◌, ◌++◌, ℕ, List, ap, ◌∙◌, string_bytes}
use Rattle.sacn_monitor.specs.Streams.{state_of}
use Rattle.sacn_tell.specs.Spelling.{flush_left}
use Rattle.sacn_tell.specs.StreamRows.{state_text, state_word}
use Rattle.sacn_tell.proofs.Texts.{two_pieces}
use Rattle.sacn_tell.proofs.stream_rows.push_state.Goals as goal

pub returns : goal.returns
unfolding state_text
returns c =
    let word : c.state_word.result.now ≡ state_word (state_of c.args.moment c.args.stream.now) = cc in
    two_pieces c.push_priority.result (string_bytes c.args.text.now) (string_bytes c.push_universe.new.text) (string_bytes c.push_priority.new.text) _ _ c.in_ok-push_universe.ensures
    (two_pieces c.push_priority.result (string_bytes c.push_universe.new.text) (string_bytes c.push_left.new.text) (string_bytes c.push_priority.new.text) _ _
    (c.in_ok-push_left.ensures ∙ ap (λ (t : List ℕ). string_bytes c.push_universe.new.text ++ flush_left 8 t) word) c.push_priority.ensures)

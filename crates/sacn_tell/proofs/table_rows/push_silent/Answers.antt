use Rattle.std.proofs.Common.{string_bytes, codes}
use Rattle.sacn_tell.specs.Numbers.{ranges_text}
use Rattle.sacn_tell.specs.Rows.{silent_text}
use Rattle.sacn_tell.proofs.Texts.{two_pieces}
use Rattle.sacn_tell.proofs.table_rows.push_silent.Goals as goal

pub returns : goal.returns
unfolding silent_text
returns c = two_pieces c.push_ranges.result (string_bytes c.args.text.now) (string_bytes c.push_str.new.self) (string_bytes c.push_ranges.new.text)
    (codes "; listed and silent: ") (ranges_text c.args.silent.now) c.in_ok-push_str.ensures.bytes c.push_ranges.ensures

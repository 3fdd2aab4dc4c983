use Rattle.std.proofs.Common.{nat_lt, ◌++◌}
use Rattle.sacn_tell.specs.declared.options.Form.{Form}
use Rattle.sacn_tell.specs.PacketLines.{anew_line, moved_line, renamed_line, skipped_line}
use Rattle.sacn_tell.specs.Tellings.{omission_told, priority_told, where_so}
use Rattle.sacn_tell.proofs.Telling.{then}
use Rattle.sacn_tell.proofs.teller.Teller.tell_news.Goals as goal

pub returns : goal.returns
returns g c =
    let O = g.row.O.Denot in
    let contents = g.O.Write.contents in
    let r = c.tell_gap.result in
    let end = c.tell_gap.new.self in
    let now = c.args.now in
    let s = c.args.stream.now in
    let news = c.args.news.now in
    let skipped = λ (form : Form). where_so (nat_lt 0 news.skipped) (skipped_line form now s news.skipped) in
    let omission = λ (form : Form). omission_told form now s news.leaves_out ++ skipped form in
    let anew = λ (form : Form). where_so news.began_anew (anew_line form now s) ++ omission form in
    let priority = λ (form : Form). priority_told form now s news.priority ++ anew form in
    let renamed = λ (form : Form). where_so news.renamed (renamed_line form now s) ++ priority form in
    let moved = λ (form : Form). where_so news.moved (moved_line form now s) ++ renamed form in
    then {O = O} contents r c.args.self.now c.tell_event.new.self end _ moved c.in_ok-tell_event.ensures
    (then {O = O} contents r c.tell_event.new.self c.tell_move.new.self end _ renamed c.in_ok-tell_move.ensures
    (then {O = O} contents r c.tell_move.new.self c.tell_name.new.self end _ priority c.in_ok-tell_name.ensures
    (then {O = O} contents r c.tell_name.new.self c.tell_priority.new.self end _ anew c.in_ok-tell_priority.ensures
    (then {O = O} contents r c.tell_priority.new.self c.tell_restart.new.self end _ omission c.in_ok-tell_restart.ensures
    (then {O = O} contents r c.tell_restart.new.self c.tell_omission.new.self end _ skipped c.in_ok-tell_omission.ensures c.tell_gap.ensures)))))

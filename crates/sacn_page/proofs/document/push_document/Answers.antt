use Rattle.std.proofs.Common.{rules, ◌≡◌, ◌++◌, codes, option_copied, string_bytes, ◌∙◌}
use Rattle.sacn_page.proofs.Pieces.{document_joined}
use Rattle.sacn_page.proofs.document.push_document.Goals as goal

pub returns : goal.returns
returns c =
    let end : string_bytes c.push.new.self ≡ string_bytes c.push_counts.new.text ++ codes "}" = search rules in
    record {
      whole = λ no_rows no_alarms whole.
          document_joined (option_copied c.args.facts) c.args.board.now c.args.named
          (string_bytes c.args.text.now) (string_bytes c.push_first_number.new.text) (string_bytes c.push_recording.new.text) (string_bytes c.push_universe.new.text)
          (string_bytes c.push_heard.new.text) (string_bytes c.push_rows.new.text) (string_bytes c.push_lit.new.text) (string_bytes c.push_alarms.new.text)
          (string_bytes c.push_counts.new.text) (string_bytes c.push.new.self)
          c.monitor-monitor.result.now c.moment-moment.result c.streams-streams.result.now c.chosen_universe-universe.result c.as_slice.result.now (option_copied c.find_lit.result)
          c.push_lit.new.given.alarms c.alarms.result.now c.tally.result.now c.of-counts.result
          c.monitor-monitor.ensures c.moment-moment.ensures c.streams-streams.ensures c.chosen_universe-universe.ensures (c.as_slice.ensures.value ∙ c.in_ok-heard.ensures) c.find_lit.ensures
          (c.push_lit.ensures.alarms ∙ no_alarms) c.alarms.ensures c.tally.ensures c.of-counts.ensures
          c.in_ok-push_first_number.ensures c.in_ok-push_recording.ensures (c.in_ok-push_universe.ensures.told.whole whole) (c.in_ok-push_heard.ensures.told.whole whole)
          (c.in_ok-push_rows.ensures.first no_rows whole) (c.in_ok-push_lit.ensures.whole whole) (c.in_ok-push_alarms.ensures.told.whole whole) (c.in_ok-push_counts.ensures.told.whole whole) end;
    }

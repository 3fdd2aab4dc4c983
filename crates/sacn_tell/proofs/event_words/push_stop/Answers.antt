use Rattle.std.proofs.Common.{string_bytes, codes}
use Rattle.sacn_tell.specs.Sentences.{stop_words, stopped_words}
use Rattle.sacn_tell.proofs.Texts.{two_pieces}
use Rattle.sacn_tell.proofs.event_words.push_stop.Goals as goal

pub returns : goal.returns
unfolding stop_words
returns c = two_pieces c.push_stopped.result (string_bytes c.args.text.now) (string_bytes c.push_str.new.self) (string_bytes c.push_stopped.new.text)
    (codes "not heard for ") (stopped_words c.args.millis) c.in_ok-push_str.ensures.bytes c.push_stopped.ensures

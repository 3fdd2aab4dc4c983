use Rattle.std.proofs.Common.{string_bytes, codes}
use Rattle.sacn_tell.specs.Sentences.{moved_words}
use Rattle.sacn_tell.specs.Spelling.{sender_text}
use Rattle.sacn_tell.proofs.Texts.{two_pieces}
use Rattle.sacn_tell.proofs.event_words.push_moved.Goals as goal

pub returns : goal.returns
unfolding moved_words
returns c = two_pieces c.push_sender.result (string_bytes c.args.text.now) (string_bytes c.push_str.new.self) (string_bytes c.push_sender.new.text)
    (codes "now sends from ") (sender_text c.args.sender.now) c.in_ok-push_str.ensures.bytes c.push_sender.ensures

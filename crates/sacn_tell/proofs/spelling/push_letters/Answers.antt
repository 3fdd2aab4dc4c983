use Rattle.std.proofs.lemmas.Iterator.{YieldsList-from_chars}
use Rattle.std.proofs.lemmas.Iterator.Consumers.{YieldsList-end}
use Rattle.sacn_tell.proofs.Letters.{all_letters}
use Rattle.sacn_tell.specs.Spelling.{letter_text}
use Rattle.sacn_tell.proofs.spelling.push_letters.Goals as goal

pub returns : goal.returns
returns c =
    let all = YieldsList-end (YieldsList-from_chars c.args.letters.now c.utf8.letters cc) c.loop-letter.yielded _ c.loop-letter.yielded_by _ _ c.in-None.is c.next.ensures.steps in
    all_letters letter_text _ _ _ _ c.loop-letter.invariant all.0

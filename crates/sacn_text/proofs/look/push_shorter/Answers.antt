use Rattle.std.proofs.Common.{rules}
use Rattle.sacn_text.proofs.ShortNumbers.{two_pushed}
use Rattle.sacn_text.proofs.look.push_shorter.Goals as goal

-- src/look.rt:21:1
pub returns : goal.returns
returns c = search (rules, two_pushed)

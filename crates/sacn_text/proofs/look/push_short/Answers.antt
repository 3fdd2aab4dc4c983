use Rattle.std.proofs.Common.{rules}
use Rattle.sacn_text.proofs.ShortNumbers.{last_pushed}
use Rattle.sacn_text.proofs.look.push_short.Goals as goal

-- src/look.rt:36:1
pub returns : goal.returns
returns c = search (rules, last_pushed)

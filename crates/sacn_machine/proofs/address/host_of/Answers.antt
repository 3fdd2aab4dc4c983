use Rattle.std.proofs.Common.{sym, subst}
use Rattle.std.specs.Net.Grammar.{IsIpv4Text}
use Rattle.sacn_machine.proofs.address.host_of.Goals as goal

pub returns-in-Err-clause-reads : goal.returns-in-Err-clause-reads
returns-in-Err-clause-reads c = λ a spelled. c.in-Err.ensures a (subst (λ t. IsIpv4Text t a) (sym c.as_bytes.ensures.value) spelled)

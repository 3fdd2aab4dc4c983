use Rattle.std.proofs.Common.{◌∷◌, []}
use Rattle.sacn_edge.proofs.NodeLemmas.{Extends-append}
use Rattle.sacn_record.specs.Sessions.{Put, opening}
use Rattle.sacn_record.proofs.session.keep_anew.Goals as goal

pub returns-clause-put : goal.returns-clause-put
returns-clause-put g c = Extends-append _ _ _ (opening c.args.plan.now) (Put c.args.waiting.now.blocks.items ∷ []) c.in_ok-open.ensures.opened c.in_ok-put.ensures.put

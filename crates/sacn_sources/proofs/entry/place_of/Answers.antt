use Rattle.std.proofs.Common.{ap, ◌∙◌}
use Rattle.std.proofs.lemmas.List.{get_or_default}
use Rattle.sacn_sources.specs.declared.entry.Entry.{Entry}
use Rattle.sacn_sources.proofs.Searches.{blank}
use Rattle.sacn_sources.proofs.entry.place_of.Goals as goal

pub returns-then-is_of-clause-here : goal.returns-then-is_of-clause-here
returns-then-is_of-clause-here c = λ d. ap (λ (e : Entry). e.cid) (get_or_default c.args.entries.now c.loop-at.at d blank c.loop-at-test.true) ∙ c.is_of.ensures.0 c.if-is_of.true

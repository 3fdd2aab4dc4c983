use Rattle.std.proofs.Common.{get_or, ap, ◌∙◌}
use Rattle.sacn_slots.proofs.offer.write_levels.Goals as goal

-- the merge of one layer is what it shows
pub returns : goal.returns
returns c = λ k lt. ap (λ l. get_or l k 0) c.merge_into.ensures.merged ∙ c.merge_of_one.ensures (record { priority = 0; levels = c.args.levels.now }) k lt

use Rattle.sacn_slots.specs.SlotTables.{members}
use Rattle.sacn_slots.proofs.laws.shows_the_holdings.Goals as goal

pub returns : goal.returns
returns c = record {
  levels = λ s t same. c.merge_by_slot_is_of_a_set.ensures.levels (members s) (members t) same;
  priorities = λ s t same. c.merge_by_slot_is_of_a_set.ensures.priorities (members s) (members t) same;
}

use Rattle.sacn_slots.proofs.SetMerging.{merges_by_packet}
use Rattle.sacn_slots.proofs.laws.merge_by_packet.Goals as goal

pub returns : goal.returns
returns c = merges_by_packet

use Rattle.std.proofs.Common.{◌∙◌, sym}
use Rattle.sacn_files.proofs.TableLemmas.{list_all-map}
use Rattle.sacn_schedule.proofs.world_file.members.are_nodes.Goals as goal

pub returns : goal.returns
returns c = c.each_is_node.ensures ∙ sym (list_all-map _ _ c.args.rows.now)

use Rattle.std.proofs.Common.{◌∙◌}
use Rattle.sacn_files.proofs.TableLemmas.{known_keys}
use Rattle.sacn_files.specs.Keys.{key_table}
use Rattle.sacn_files.proofs.keys.has_known_keys.Goals as goal

pub returns : goal.returns
returns c = c.are_known.ensures ∙ known_keys (key_table c.args.known) c.args.table.now.entries

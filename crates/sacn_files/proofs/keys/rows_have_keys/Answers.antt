use Rattle.std.proofs.Common.{◌∙◌, sym}
use Rattle.sacn_files.proofs.TableLemmas.{list_all-map}
use Rattle.sacn_files.proofs.keys.rows_have_keys.Goals as goal

pub returns : goal.returns
returns c = c.each_has_keys.ensures ∙ sym (list_all-map _ _ c.args.rows.now)

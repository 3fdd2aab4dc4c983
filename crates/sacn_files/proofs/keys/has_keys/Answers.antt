use Rattle.std.proofs.Common.{◌∙◌, sym}
use Rattle.sacn_files.proofs.TableLemmas.{list_all-map}
use Rattle.sacn_files.proofs.keys.has_keys.Goals as goal

pub returns : goal.returns
returns c = c.are_there.ensures ∙ sym (list_all-map _ _ c.args.wanted.required.now)

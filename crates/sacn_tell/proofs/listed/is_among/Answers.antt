use Rattle.std.proofs.Common.{◌∙◌}
use Rattle.sacn_tell.proofs.Among.{found_among}
use Rattle.sacn_tell.proofs.listed.is_among.Goals as goal

pub returns : goal.returns
returns c = c.is_ok.ensures.value ∙ found_among c.args.numbers.now c.args.number c.binary_search.result c.binary_search.ensures.position c.requires

use Rattle.sacn_page.proofs.Losing as losing
use Rattle.sacn_page.proofs.laws.losses_stay.Goals as goal

pub returns : goal.returns
returns c = losing.losses_stay

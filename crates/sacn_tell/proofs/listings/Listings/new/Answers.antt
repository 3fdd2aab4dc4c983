use Rattle.std.proofs.Common.{map, subst, sym}
use Rattle.sacn_tell.specs.Lines.{kept_list}
use Rattle.sacn_tell.specs.ListsOfPages.{AgreeWithPages}
use Rattle.sacn_tell.proofs.PagesAgree.{none_told}
use Rattle.sacn_tell.proofs.listings.Listings.new.Goals as goal

pub invariant_of-result-clause-agrees : goal.invariant_of-result-clause-agrees
invariant_of-result-clause-agrees c = λ _. subst (AgreeWithPages c.new-2.result.items (map kept_list c.new-3.result.items)) (sym c.new.ensures) (none_told c.new-2.result.items (map kept_list c.new-3.result.items))

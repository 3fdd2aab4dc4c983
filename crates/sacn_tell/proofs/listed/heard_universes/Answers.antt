use Rattle.std.proofs.Common.{◌==◌, ◌∙◌, ℕ, List, sym, ap}
use Rattle.std.specs.List.{list_any}
use Rattle.std.proofs.lemmas.List.Sorted.{IsNonDecreasingBy-from_sort, list_any-IsPermutation}
use Rattle.sacn_tell.proofs.Among.{heard_among}
use Rattle.sacn_tell.proofs.listed.heard_universes.Goals as goal

pub returns-clause-ascend : goal.returns-clause-ascend
returns-clause-ascend c = IsNonDecreasingBy-from_sort (λ x. x) c.sort_unstable.new.self.items c.sort_unstable.ensures.sorted

pub returns-clause-members : goal.returns-clause-members
returns-clause-members c = λ universe.
    sym (list_any-IsPermutation (λ n. n == universe) c.in_ok-heard.heard.items c.sort_unstable.new.self.items c.sort_unstable.ensures.permutation)
    ∙ ap (λ (l : List ℕ). list_any (λ n. n == universe) l) c.in_ok-heard.ensures
    ∙ heard_among universe c.args.cid.now c.args.streams.now

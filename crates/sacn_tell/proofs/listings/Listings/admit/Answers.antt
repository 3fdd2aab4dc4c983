use Rattle.std.proofs.Common.{◌∙◌, ◌++◌, ℕ, List, [], ◌∷◌, None, ap, sym, subst, map}
use Rattle.std.proofs.lemmas.List.{length-map}
use Rattle.sacn_tell.specs.Lines.{KeptList, kept_list}
use Rattle.sacn_tell.specs.ListsOfPages.{AgreeWithPages}
use Rattle.sacn_tell.proofs.PagesAgree.{last_place, one_list_more, source_told}
use Rattle.sacn_tell.proofs.listings.Listings.admit.Goals as goal

pub returns-clause-place : goal.returns-clause-place
returns-clause-place c = last_place c.args.cid c.args.self.now.sources.items c.reserve-2.new.self.items c.push_reserved-2.new.self.items c.len-place.result (c.len-place.ensures ∙ c.reserve-2.new.self.ok.0) c.reserve-2.ensures.items c.push_reserved-2.ensures.items c.requires.new

pub invariant_of-self-2-clause-agrees : goal.invariant_of-self-2-clause-agrees
invariant_of-self-2-clause-agrees c = λ calm.
    let known = c.args.self.now.known.items in
    let sources = c.args.self.now.sources.items in
    let empty = ap (λ (name : List ℕ). let l : KeptList = record { cid = c.args.cid; name = name; universes = None } in l) c.new.ensures.items in
    let lists = one_list_more known c.reserve.new.self.items c.push_reserved.new.self.items _ c.args.cid c.reserve.ensures.items c.push_reserved.ensures.items empty in
    let places = c.push_reserved-2.ensures.items ∙ ap (λ (ss : List (List ℕ)). ss ++ c.args.cid ∷ []) c.reserve-2.ensures.items in
    subst (λ (ss : List (List ℕ)). AgreeWithPages ss (map kept_list c.push_reserved.new.self.items) c.args.self.now.collector) (sym places)
    (subst (λ (ls : List KeptList). AgreeWithPages (sources ++ c.args.cid ∷ []) ls c.args.self.now.collector) (sym lists)
    (source_told c.args.cid sources (map kept_list known) c.args.self.now.collector (length-map known kept_list ∙ c.args.self.now.paired) (c.args.self.now.agrees calm)))

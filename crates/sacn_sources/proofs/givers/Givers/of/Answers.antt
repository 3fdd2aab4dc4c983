use Rattle.std.proofs.Common.{None, Option, List, ℕ, get_or, slice_get, ap, sym, ◌∙◌}
use Rattle.sacn_sources.specs.Givers.{giver_in}
use Rattle.sacn_sources.proofs.Giving.{get_or-made}
use Rattle.sacn_sources.proofs.givers.Givers.of.Goals as goal

pub returns : goal.returns
returns c =
    let cids = c.self.inside.cids.items in
    c.cid_at.ensures
    ∙ ap (λ l. slice_get l c.in-Some.place) c.as_slice.ensures.value
    ∙ ap (giver_in cids) (sym c.in-Some.is)
    ∙ sym (get_or-made (giver_in cids) c.self.inside.places c.args.slot None)
    ∙ ap (λ (l : List (Option (List ℕ))). get_or l c.args.slot None) c.self.view_is

use Rattle.std.proofs.Common.{◌≡◌, None, Some, ℕ, Option, get_or, map, option_and_then, ap, sym, ◌∙◌, refl}
use Rattle.std.proofs.lemmas.Simd.{map-map}
use Rattle.sacn_sources.specs.Givers.{giver_in}
use Rattle.sacn_network.specs.LitUniverses.{giver_place}
use Rattle.sacn_network.proofs.places.giver_places.Goals as goal

pub returns : goal.returns
returns c =
    let cids = c.parts.result.0.now in
    let slots = c.parts.result.1.now in
    let of = giver_place c.args.universe c.args.monitor.now.streams in
    let same : (giver : Option ℕ) → option_and_then (λ at. get_or c.stream_places.result at None) giver ≡ of (giver_in cids giver) = λ giver. elim giver as (λ g. option_and_then (λ at. get_or c.stream_places.result at None) g ≡ of (giver_in cids g)) [
      | None ↦ refl
      | Some at ↦ c.stream_places.ensures at
    ] in
    c.places_by.ensures
    ∙ ap (λ f. map f slots) (λ i giver. same giver i)
    ∙ sym (map-map of (giver_in cids) slots)
    ∙ ap (map of) c.parts.ensures.givers

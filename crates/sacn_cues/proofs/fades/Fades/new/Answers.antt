use Rattle.std.proofs.Common.{◌≡◌, List, replicate, None, Some, length, refl, ap, ◌∙◌}
use Rattle.std.proofs.lemmas.List.{length-replicate}
use Rattle.std.specs.List.{list_all}
use Rattle.sacn_patch.specs.declared.limits.TheConstants.{MAX_CHANNELS}
use Rattle.sacn_cues.specs.Levels.{Ramp, Running, still, is_over_by}
use Rattle.sacn_cues.proofs.Stillness.{still_over}
use Rattle.sacn_cues.proofs.fades.Fades.new.Goals as goal

pub invariant_of-result : goal.invariant_of-result
invariant_of-result c =
    let stills : c.in_ok-fades.fades.items ≡ replicate MAX_CHANNELS still = c.in_ok-fades.ensures.items_if_clones_equal (λ y same. same) ∙ ap {B = List Ramp} (λ (f : Ramp). replicate 2048 f) c.new-still.ensures in (
      ap length stills ∙ length-replicate MAX_CHANNELS still,
      c.in_ok-targets.ensures.items_if_clones_equal (elim [ None ↦ λ same. refl | Some x ↦ λ same. absurd same ]),
      ap (λ (fades : List Ramp). list_all (is_over_by 0) fades) stills ∙ still_over MAX_CHANNELS,
    )

pub returns : goal.returns
returns c =
    let stills : c.in_ok-fades.fades.items ≡ replicate MAX_CHANNELS still = c.in_ok-fades.ensures.items_if_clones_equal (λ y same. same) ∙ ap {B = List Ramp} (λ (f : Ramp). replicate 2048 f) c.new-still.ensures in
    ap (λ (fades : List Ramp). let r : Running = record { rest = 0; fades = fades } in r) stills

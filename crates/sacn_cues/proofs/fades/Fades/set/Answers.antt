use Rattle.std.proofs.Common.{◌≡◌, ℕ, List, length, ap, ◌∙◌, arith}
use Rattle.std.proofs.lemmas.List.{with_items_is}
use Rattle.std.specs.List.{list_all}
use Rattle.sacn_cues.specs.Levels.{Ramp, set_to, all_begun, is_over_by}
use Rattle.sacn_cues.proofs.FadeStarts.{length-all_begun}
use Rattle.sacn_cues.proofs.Stillness.{set_over}
use Rattle.sacn_cues.proofs.fades.Fades.set.Goals as goal

pub invariant_of-self : goal.invariant_of-self
invariant_of-self c =
    let begun : c.set_one.new.fades ≡ all_begun (set_to c.args.channel c.args.level) c.args.now 1 c.self.inside.fades.items = c.set_one.ensures ∙ ap (all_begun (set_to c.args.channel c.args.level) c.args.now 1) c.deref_mut.ensures.value in
    let width : length c.set_one.new.fades ≡ length c.self.inside.fades.items = ap length begun ∙ length-all_begun (set_to c.args.channel c.args.level) c.args.now 1 c.self.inside.fades.items in
    let items = with_items_is c.self.inside.fades c.set_one.new.fades (omega (arith, width, c.self.inside.fades.ok)) in (
      ap length items ∙ width ∙ c.self.invariant.0,
      c.self.invariant.1,
      ap (λ (fades : List Ramp). list_all (is_over_by c.max-self-inside.result) fades) (items ∙ begun)
          ∙ ap (λ (r : ℕ). list_all (is_over_by r) (all_begun (set_to c.args.channel c.args.level) c.args.now 1 c.self.inside.fades.items)) c.max-self-inside.ensures
          ∙ set_over c.args.channel c.args.level c.args.now c.self.inside.rest c.self.inside.fades.items c.self.invariant.2,
    )

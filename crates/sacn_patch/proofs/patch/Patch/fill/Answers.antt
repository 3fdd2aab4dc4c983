use Rattle.std.proofs.Common.{rules, ◌≡◌, ℕ, List, [], replicate, length, refl, sym, ap, subst, ◌∙◌}
use Rattle.sacn_patch.specs.Patch.{Patched, universe_frame}
use Rattle.sacn_patch.proofs.Fills.{written, AreOf, of_universe, are_of, between_is, frame_written}
use Rattle.sacn_patch.proofs.patch.Patch.fill.Goals as goal

pub loop-place-init : goal.loop-place-init
loop-place-init g c =
    let items : c.into_iter-place-iterator.result ≡ of_universe c.args.universe c.self.inside.parts.entries = c.into_iter-place-iterator.ensures.into_iter_gives ∙ c.range-place-items.ensures.between (search rules) ∙ between_is c.args.universe _ _ c.self.inside.parts.entries c.new.ensures.start c.new.ensures.end in
    record {
      of = subst (λ es. AreOf c.args.universe es) (sym items) (are_of c.args.universe c.self.inside.parts.entries);
      told = refl;
      asked = λ x never. absurd (cc);
    }

pub returns : goal.returns
returns g c =
    let level = g.L.LevelOf.level c.args.levels.now in
    let items : c.into_iter-place-iterator.result ≡ of_universe c.args.universe c.self.inside.parts.entries = c.into_iter-place-iterator.ensures.into_iter_gives ∙ c.range-place-items.ensures.between (search rules) ∙ between_is c.args.universe _ _ c.self.inside.parts.entries c.new.ensures.start c.new.ensures.end in
    let long : length c.args.slots.now ≡ 512 = search rules in
    let zeros : c.fill.new.self ≡ replicate 512 0 = c.fill.ensures.after (λ y same. same) ∙ ap {B = List ℕ} (λ n. replicate n 0) long in
    let done : c.loop-place.place-iterator ≡ [] = c.in-None.ensures.steps.0 in
    ap (λ es. written level es c.loop-place.slots) (sym done)
    ∙ c.loop-place.invariant.told
    ∙ ap (λ es. written level es c.fill.new.self) items
    ∙ ap (written level (of_universe c.args.universe c.self.inside.parts.entries)) zeros
    ∙ frame_written level c.self.inside.parts c.args.universe c.range-place-items.ensures.ordered
    ∙ ap (λ (m : Patched). universe_frame level m c.args.universe) c.self.view_is

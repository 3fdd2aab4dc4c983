use Rattle.std.proofs.Common.{◌≡◌, ℕ, ◌-◌, List, length, get_or, max, Option, None, refl, sym, ap, ◌∙◌, arith}
use Rattle.std.proofs.lemmas.List.{with_items_is}
use Rattle.std.specs.List.{list_all}
use Rattle.sacn_cues.specs.Levels.{Ramp, Running, Given, given_to, all_begun, is_over_by, end_of}
use Rattle.sacn_cues.specs.Tracks.{AreTargets}
use Rattle.sacn_cues.proofs.FadeStarts.{begun_there, length-all_begun}
use Rattle.sacn_cues.proofs.Stillness.{cue_over}
use Rattle.sacn_cues.proofs.fades.Fades.play_to.Goals as goal

pub begin_all-requires : goal.begin_all-requires
begin_all-requires c = ap length c.targets.ensures ∙ c.requires ∙ sym (ap length c.deref_mut.ensures.value ∙ c.self.invariant.0)

pub invariant_of-self : goal.invariant_of-self
invariant_of-self c =
    let level : ℕ → Option ℕ = λ channel. get_or c.args.track.now.targets (channel - 1) None in
    let gives : ℕ → Option Given = λ channel. given_to c.args.track.now.up c.args.track.now.down (level channel) in
    let are : AreTargets level c.args.track.now.targets = (c.requires, λ channel inside. refl) in
    let begun : c.begin_all.new.fades ≡ all_begun gives c.args.now 1 c.self.inside.fades.items = begun_there c.args.track.now.up c.args.track.now.down c.args.now level c.times.result.up c.times.result.down c.targets.result.now c.args.track.now.targets c.deref_mut.result.now c.self.inside.fades.items c.begin_all.new.fades c.begin_all.ensures c.times.ensures.up c.times.ensures.down c.targets.ensures c.deref_mut.ensures.value (c.requires ∙ sym c.self.invariant.0) are in
    let width : length c.begin_all.new.fades ≡ length c.self.inside.fades.items = ap length begun ∙ length-all_begun gives c.args.now 1 c.self.inside.fades.items in
    let items = with_items_is c.self.inside.fades c.begin_all.new.fades (omega (arith, width, c.self.inside.fades.ok)) in
    let rest = c.rest_after-self-inside.ensures ∙ ap (λ (n : ℕ). max c.self.inside.rest (end_of c.args.now n)) c.longer.ensures in (
      ap length items ∙ width ∙ c.self.invariant.0,
      c.self.invariant.1,
      ap (λ (fades : List Ramp). list_all (is_over_by c.rest_after-self-inside.result) fades) (items ∙ begun)
          ∙ ap (λ (r : ℕ). list_all (is_over_by r) (all_begun gives c.args.now 1 c.self.inside.fades.items)) rest
          ∙ cue_over level c.args.track.now.up c.args.track.now.down c.args.now c.self.inside.rest c.self.inside.fades.items c.self.invariant.2,
    )

pub returns : goal.returns
returns c level are =
    let gives : ℕ → Option Given = λ channel. given_to c.args.track.now.up c.args.track.now.down (level channel) in
    let begun : c.begin_all.new.fades ≡ all_begun gives c.args.now 1 c.self.inside.fades.items = begun_there c.args.track.now.up c.args.track.now.down c.args.now level c.times.result.up c.times.result.down c.targets.result.now c.args.track.now.targets c.deref_mut.result.now c.self.inside.fades.items c.begin_all.new.fades c.begin_all.ensures c.times.ensures.up c.times.ensures.down c.targets.ensures c.deref_mut.ensures.value (c.requires ∙ sym c.self.invariant.0) are in
    let width : length c.begin_all.new.fades ≡ length c.self.inside.fades.items = ap length begun ∙ length-all_begun gives c.args.now 1 c.self.inside.fades.items in
    let items = with_items_is c.self.inside.fades c.begin_all.new.fades (omega (arith, width, c.self.inside.fades.ok)) in
    let rest = c.rest_after-self-inside.ensures ∙ ap (λ (n : ℕ). max c.self.inside.rest (end_of c.args.now n)) c.longer.ensures in
    ap (λ (fades : List Ramp). let r : Running = record { rest = c.rest_after-self-inside.result; fades = fades } in r) (items ∙ begun)
    ∙ ap (λ (n : ℕ). let r : Running = record { rest = n; fades = all_begun gives c.args.now 1 c.self.inside.fades.items } in r) rest
    ∙ ap (λ (old : Running). let r : Running = record { rest = max old.rest (end_of c.args.now (max c.args.track.now.up c.args.track.now.down)); fades = all_begun gives c.args.now 1 old.fades } in r) c.self.view_is

use Rattle.std.proofs.Common.{◌≡◌, ℕ, List, length, max, replicate, Option, None, sym, ap, ◌∙◌, arith}
use Rattle.std.proofs.lemmas.List.{with_items_is}
use Rattle.std.specs.List.{list_all}
use Rattle.sacn_patch.specs.declared.limits.TheConstants.{MAX_CHANNELS}
use Rattle.sacn_cues.specs.Levels.{Ramp, Running, Given, given_to, all_begun, is_over_by, end_of}
use Rattle.sacn_cues.specs.Cues.{level_of_channel}
use Rattle.sacn_cues.specs.Targets.{Targets}
use Rattle.sacn_cues.specs.Playing.{longer}
use Rattle.sacn_cues.proofs.FadeStarts.{length-all_begun}
use Rattle.sacn_cues.proofs.Stillness.{cue_over}
use Rattle.sacn_cues.proofs.fades.Fades.play.Goals as goal

pub play_cue-requires : goal.play_cue-requires
play_cue-requires c =
    let width : length c.deref_mut-2.result.now ≡ MAX_CHANNELS = ap length c.deref_mut-2.ensures.value ∙ c.self.invariant.0 in
    c.deref_mut.ensures.value ∙ c.self.invariant.1 ∙ ap {B = Targets} (λ (n : ℕ). replicate n None) (sym width)

pub invariant_of-self : goal.invariant_of-self
invariant_of-self c =
    let gives : ℕ → Option Given = λ channel. given_to c.args.cue.now.up c.args.cue.now.down (level_of_channel c.args.cue.now.levels channel) in
    let begun : c.play_cue.new.fades ≡ all_begun gives c.args.now 1 c.self.inside.fades.items = c.play_cue.ensures.fades ∙ ap (all_begun gives c.args.now 1) c.deref_mut-2.ensures.value in
    let width : length c.play_cue.new.fades ≡ length c.self.inside.fades.items = ap length begun ∙ length-all_begun gives c.args.now 1 c.self.inside.fades.items in
    let items = with_items_is c.self.inside.fades c.play_cue.new.fades (omega (arith, width, c.self.inside.fades.ok)) in
    let room : c.play_cue.new.targets ≡ c.self.inside.targets.items = c.play_cue.ensures.targets ∙ c.deref_mut.ensures.value in
    let targets = with_items_is c.self.inside.targets c.play_cue.new.targets (omega (arith, ap length room, c.self.inside.targets.ok)) in
    let rest = c.rest_after-self-inside.ensures ∙ ap (λ (n : ℕ). max c.self.inside.rest (end_of c.args.now n)) c.longer.ensures in (
      ap length items ∙ width ∙ c.self.invariant.0,
      targets ∙ room ∙ c.self.invariant.1,
      ap (λ (fades : List Ramp). list_all (is_over_by c.rest_after-self-inside.result) fades) (items ∙ begun)
          ∙ ap (λ (r : ℕ). list_all (is_over_by r) (all_begun gives c.args.now 1 c.self.inside.fades.items)) rest
          ∙ cue_over (level_of_channel c.args.cue.now.levels) c.args.cue.now.up c.args.cue.now.down c.args.now c.self.inside.rest c.self.inside.fades.items c.self.invariant.2,
    )

pub returns : goal.returns
returns c =
    let gives : ℕ → Option Given = λ channel. given_to c.args.cue.now.up c.args.cue.now.down (level_of_channel c.args.cue.now.levels channel) in
    let begun : c.play_cue.new.fades ≡ all_begun gives c.args.now 1 c.self.inside.fades.items = c.play_cue.ensures.fades ∙ ap (all_begun gives c.args.now 1) c.deref_mut-2.ensures.value in
    let width : length c.play_cue.new.fades ≡ length c.self.inside.fades.items = ap length begun ∙ length-all_begun gives c.args.now 1 c.self.inside.fades.items in
    let items = with_items_is c.self.inside.fades c.play_cue.new.fades (omega (arith, width, c.self.inside.fades.ok)) in
    let rest = c.rest_after-self-inside.ensures ∙ ap (λ (n : ℕ). max c.self.inside.rest (end_of c.args.now n)) c.longer.ensures in
    ap (λ (fades : List Ramp). let r : Running = record { rest = c.rest_after-self-inside.result; fades = fades } in r) (items ∙ begun)
    ∙ ap (λ (n : ℕ). let r : Running = record { rest = n; fades = all_begun gives c.args.now 1 c.self.inside.fades.items } in r) rest
    ∙ ap (λ (old : Running). let r : Running = record { rest = max old.rest (end_of c.args.now (longer c.args.cue.now)); fades = all_begun gives c.args.now 1 old.fades } in r) c.self.view_is

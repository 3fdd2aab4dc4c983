use Rattle.std.proofs.Common.{◌≡◌, length, replicate, None, Some, refl, ap, ◌∙◌, arith}
use Rattle.std.specs.FinMap.{entries}
use Rattle.std.proofs.lemmas.List.{with_items_is}
use Rattle.sacn_patch.specs.declared.limits.TheConstants.{MAX_CHANNELS}
use Rattle.sacn_cues.specs.Targets.{Targets, aimed_everywhere}
use Rattle.sacn_cues.proofs.Aims.{length-aimed_everywhere}
use Rattle.sacn_cues.proofs.list.CueList.zeros.Goals as goal

pub returns : goal.returns
returns c =
    let es = entries c.args.self.now in
    let blank : c.in_ok-targets.targets.items ≡ replicate MAX_CHANNELS None = c.in_ok-targets.ensures.items_if_clones_equal (elim [ None ↦ λ same. refl | Some x ↦ λ same. absurd same ]) in
    let zeros : c.aim_everywhere.new.targets ≡ aimed_everywhere es c.in_ok-targets.targets.items = c.aim_everywhere.ensures ∙ ap (λ (ts : Targets). aimed_everywhere es ts) c.deref_mut.ensures.value in
    let width : length c.aim_everywhere.new.targets ≡ length c.in_ok-targets.targets.items = ap length zeros ∙ length-aimed_everywhere es c.in_ok-targets.targets.items in
    with_items_is c.in_ok-targets.targets c.aim_everywhere.new.targets (omega (arith, width, c.in_ok-targets.targets.ok))
    ∙ zeros
    ∙ ap (λ (ts : Targets). aimed_everywhere es ts) blank

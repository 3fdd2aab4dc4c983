use Rattle.std.proofs.Common.{◌≡◌, List, max, map, take, sym, ap, ap₂, ◌∙◌, arith}
use Rattle.std.proofs.lemmas.List.{take_all}
use Rattle.sacn_sources.specs.Merge.{merged_level}
use Rattle.sacn_slots.specs.SlotMerge.{Member, taking_part, priority_of_slot}
use Rattle.sacn_slots.specs.SlotLayers.{member_of}
use Rattle.sacn_slots.proofs.SetMerging.{merge_by_slot_is}
use Rattle.sacn_slots.proofs.Joining.{followed_along, members_more, priority_more, level_more}
use Rattle.sacn_slots.proofs.merge.merge_with_priorities.Goals as goal

pub loop-layer-preserved : goal.loop-layer-preserved
loop-layer-preserved c =
    let told = c.loop-layer.invariant in
    let layer = c.layer-item.result in
    let members = map member_of (take c.loop-layer.layer-index c.args.layers.now) in
    let more = members_more c.args.layers.now c.loop-layer.layer-index layer c.loop-layer-test.true c.layer-item.is in
    record {
      whole_slots = c.follow.array_long2;
      whole_priorities = c.follow.array_long;
      followed = λ k lt.
          c.follow.ensures.priorities k lt
          ∙ ap₂ max (told.followed k lt) (c.offer.ensures.priorities k lt)
          ∙ sym (priority_more k members (member_of layer))
          ∙ ap (λ (l : List Member). priority_of_slot l k) (sym more);
      merged = λ k lt.
          c.follow.ensures.levels k lt
          ∙ followed_along (told.followed k lt) (told.merged k lt) (c.offer.ensures.priorities k lt) (c.offer.ensures.levels k lt)
          ∙ sym (level_more k members (member_of layer))
          ∙ ap (λ (l : List Member). merged_level (taking_part k l) k) (sym more);
    }

pub returns-clause-merged : goal.returns-clause-merged
returns-clause-merged c =
    let layers = c.args.layers.now in
    let all : take c.loop-layer.layer-index layers ≡ layers = take_all c.loop-layer.layer-index layers (omega (arith, c.loop-layer-test.false)) in
    merge_by_slot_is (map member_of layers) c.loop-layer.slots c.loop-layer.invariant.whole_slots (λ k lt. c.loop-layer.invariant.merged k lt ∙ ap (λ l. merged_level (taking_part k (map member_of l)) k) all)

use Rattle.std.proofs.Common.{◌≡◌, [], replicate, ap, arith}
use Rattle.std.proofs.lemmas.List.Elements.{All-nil, All-same}
use Rattle.sacn_monitor.specs.declared.limits.TheConstants.{CHAINS}
use Rattle.sacn_monitor.specs.Books.{next_loss}
use Rattle.sacn_monitor.proofs.Fitting.{HasFitted}
use Rattle.sacn_monitor.proofs.Admitting.{chained_at_first, distinct_at_first}
use Rattle.sacn_monitor.proofs.register.Register.new.Goals as goal

pub invariant_of-result : goal.invariant_of-result
invariant_of-result c =
    let streams = c.in_ok-with_capacity.field-0 in
    let empty : c.in_ok-vec.field-0.items ≡ replicate CHAINS 0 = c.in_ok-vec.ensures.items_if_clones_equal (λ y same. same) in (
      c.in_ok-with_capacity.ensures.capacity,
      c.in_ok-with_capacity-2.ensures.capacity,
      chained_at_first c.in_ok-vec.field-0.items c.in_ok-with_capacity-2.field-0.items streams.items empty c.in_ok-with_capacity-2.ensures.items c.in_ok-with_capacity.ensures.items,
      distinct_at_first streams.items c.in_ok-with_capacity.ensures.items,
      omega (arith, ap next_loss c.in_ok-with_capacity.ensures.items),
      All-same HasFitted streams.items [] c.in_ok-with_capacity.ensures.items (All-nil HasFitted),
    )

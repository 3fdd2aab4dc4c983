use Rattle.std.proofs.Common.{subst}
use Rattle.std.specs.List.Sorted.{IsStrictlyIncreasing}
use Rattle.sacn_discovery.proofs.Ascending.{kept, risen}
use Rattle.sacn_discovery.proofs.source_pages.in_order.Goals as goal

pub returns-then-rises-2 : goal.returns-then-rises-2
returns-then-rises-2 c = risen c.args.numbers.items (subst IsStrictlyIncreasing c.as_slice.ensures.value (c.rises-then-rises.ensures.0 c.if-rises-2.true))

pub returns : goal.returns
returns c = kept c.args.numbers.items c.sort_unstable.new.self.items c.dedup.new.self.items c.sort_unstable.ensures.permutation c.sort_unstable.ensures.sorted c.dedup.ensures.filtered

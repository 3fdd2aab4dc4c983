use Rattle.std.proofs.Common.{◌≡◌, replicate, None}
use Rattle.sacn_discovery.proofs.source_pages.no_pages.Given as goal

abbrev pub invariant-loop : goal.invariant-loop
invariant-loop l = l.pages.items ≡ replicate l.counter None

use Rattle.std.proofs.Common.{◌≡◌, drop}
use Rattle.sacn_discovery.specs.Collection.{joined}
use Rattle.sacn_discovery.specs.SourceViews.{pages_of}
use Rattle.sacn_discovery.proofs.Loops.{with_rest}
use Rattle.sacn_discovery.proofs.source_pages.all_numbers.Given as goal

abbrev pub invariant-loop-i : goal.invariant-loop-i
invariant-loop-i l = joined (pages_of l.pages) ≡ with_rest l.numbers.items (joined (pages_of (drop l.i l.pages)))

use Rattle.std.proofs.Common.{◌≡◌, ◌^◌, ◌-◌, ◌≤◌, drop}
use Rattle.sacn_discovery.specs.Collection.{joined}
use Rattle.sacn_discovery.specs.SourceViews.{pages_of}
use Rattle.sacn_discovery.proofs.Loops.{counted}
use Rattle.sacn_discovery.proofs.source_pages.count_of.Given as goal

abbrev pub invariant-loop-i : goal.invariant-loop-i
invariant-loop-i l = (l.count ≤ 2 ^ 64 - 1) × (counted (2 ^ 64 - 1) 0 (joined (pages_of l.pages)) ≡ counted (2 ^ 64 - 1) l.count (joined (pages_of (drop l.i l.pages))))

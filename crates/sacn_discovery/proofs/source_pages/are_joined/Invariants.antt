use Rattle.std.proofs.Common.{◌≡◌, ◌≤◌, Some, drop, length}
use Rattle.sacn_discovery.specs.Collection.{joined}
use Rattle.sacn_discovery.specs.SourceViews.{pages_of}
use Rattle.sacn_discovery.proofs.source_pages.are_joined.Given as goal

abbrev pub invariant-loop-i : goal.invariant-loop-i
invariant-loop-i l = (l.at ≤ length l.known) × (joined (pages_of (drop l.i l.pages)) ≡ Some (drop l.at l.known) → joined (pages_of l.pages) ≡ Some l.known)

use Rattle.std.proofs.Common.{length}
use Rattle.sacn_node.proofs.setup.checks.+has_overlap.Given as goal

abbrev pub decreases-has_overlap : goal.decreases-has_overlap
decreases-has_overlap l = length l.ranges.now

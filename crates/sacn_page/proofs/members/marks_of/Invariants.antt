use Rattle.std.proofs.Common.{◌≡◌, ℕ, ◌<◌, None, length, get_or}
use Rattle.sacn_page.specs.Marks.{mark_of}
use Rattle.sacn_page.proofs.members.marks_of.Given as goal

-- the marks of the slots so far
abbrev pub invariant-loop-slot : goal.invariant-loop-slot
invariant-loop-slot l = record {
  whole : length l.marks ≡ 512;
  so_far : (k : ℕ) → k < l.slot → get_or l.marks k 0 ≡ mark_of (get_or l.places k None);
}

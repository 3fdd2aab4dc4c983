use Rattle.std.proofs.Common.{◌≡◌}
use Rattle.sacn_watch.specs.Pages.{FitsOn}
use Rattle.sacn_watch.proofs.alarms.push_alarms.Given as goal

-- the rows so far fit the terminal
abbrev pub invariant-loop-place : goal.invariant-loop-place
invariant-loop-place l = record {
  size : l.page.size ≡ l.fn.page.size;
  fits : FitsOn l.fn.page.size l.fn.page.rows.items → FitsOn l.page.size l.page.rows.items;
}

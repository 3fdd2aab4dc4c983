use Rattle.std.proofs.Common.{◌≡◌}
use Rattle.sacn_watch.specs.Pages.{FitsOn}
use Rattle.sacn_watch.proofs.terminal.Terminal.push_silence.Given as goal

-- the rows so far fit the terminal
abbrev pub invariant-loop-part : goal.invariant-loop-part
invariant-loop-part g l = record {
  size : l.page.size ≡ l.fn.page.size;
  fits : FitsOn l.fn.page.size l.fn.page.rows.items → FitsOn l.page.size l.page.rows.items;
}

use Rattle.std.proofs.Common.{◌≡◌, ◌++◌, take}
use Rattle.sacn_watch.specs.Pages.{cells_of}
use Rattle.sacn_watch.proofs.page.Row.put_text.Given as goal

-- the letters so far stand in the row
abbrev pub invariant-loop-letter : goal.invariant-loop-letter
invariant-loop-letter l = record {
  width : l.self.width ≡ l.fn.self.width;
  kept : l.self ≡ record l.fn.self { cells = take l.fn.self.width (l.fn.self.cells ++ cells_of l.ink l.yielded) };
}

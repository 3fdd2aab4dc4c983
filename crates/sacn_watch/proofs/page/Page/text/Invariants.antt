use Rattle.std.proofs.Common.{◌≡◌, ◌+◌, ◌++◌, drop, string_bytes}
use Rattle.sacn_watch.specs.Drawing.{page_text, placed_from}
use Rattle.sacn_watch.proofs.page.Page.text.Given as goal

-- what is written, and then the rows that are left, is all
abbrev pub invariant-loop-row : goal.invariant-loop-row
invariant-loop-row l = record {
  number : l.number ≡ 1 + l.row-index;
  all : string_bytes l.text ++ placed_from l.has_colours l.self.size.height l.number (drop l.row-index l.row-items) ≡ page_text l.has_colours l.self.size.height l.self.rows.items;
}

use Rattle.std.proofs.Common.{◌≡◌, ◌++◌, drop, string_bytes}
use Rattle.sacn_watch.specs.declared.page.Ink.TheVariants.{Plain}
use Rattle.sacn_watch.specs.Drawing.{inked}
use Rattle.sacn_watch.proofs.page.push_row.Given as goal

-- what is written, and then the letters that are left, is all
abbrev pub invariant-loop-cell : goal.invariant-loop-cell
invariant-loop-cell l =
    string_bytes l.text ++ inked l.has_colours l.ink (drop l.cell-index l.cell-items) ≡ string_bytes l.fn.text ++ inked l.has_colours Plain l.row.cells

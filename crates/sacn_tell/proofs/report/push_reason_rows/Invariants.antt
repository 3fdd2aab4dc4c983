use Rattle.std.proofs.Common.{◌≡◌, ◌++◌, string_bytes, take}
use Rattle.sacn_tell.specs.Totals.{reason_rows}
use Rattle.sacn_tell.proofs.report.push_reason_rows.Given as goal

-- what was pushed so far
abbrev pub invariant-loop-reason : goal.invariant-loop-reason
invariant-loop-reason l = string_bytes l.text ≡ string_bytes l.fn.text ++ reason_rows l.frames (take l.reason-index l.reasons)

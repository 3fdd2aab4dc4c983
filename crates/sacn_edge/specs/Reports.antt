-- What a console's run prints at its end (profile).
use Rattle.std.specs.Prelude.{ℕ, List, ◌++◌, codes}
use Rattle.std.specs.Fmt.{decimal}
use Rattle.sacn_edge.specs.declared.report.ConsoleReport.{ConsoleReport}

unfoldable pub report_text : ConsoleReport → List ℕ
report_text r = codes "sent " ++ decimal r.sent ++ codes " failed " ++ decimal r.failed ++ codes " refused " ++ decimal r.refused ++ codes "\n"

use Rattle.std.proofs.Common.{◌≡◌, false, not, take}
use Rattle.std.specs.List.{list_any}
use Rattle.sacn_audit.specs.UniverseLists.{is_heard}
use Rattle.sacn_audit.proofs.page_verdict.has_unheard.Given as goal

abbrev pub invariant-loop-i : goal.invariant-loop-i
invariant-loop-i l = list_any (λ number. not (list_any (is_heard l.moment l.page.cid number) l.streams)) (take l.i l.page.numbers) ≡ false

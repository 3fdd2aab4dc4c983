use Rattle.std.proofs.Common.{◌≤◌, length, refl, subst}
use Rattle.std.proofs.lemmas.Iterator.{YieldsList-from_chars}
use Rattle.std.proofs.lemmas.Iterator.Consumers.{YieldsList-end}
use Rattle.sacn_watch.specs.Pages.{Line}
use Rattle.sacn_watch.proofs.Letters.{none_put, all_put}
use Rattle.sacn_watch.proofs.page.Row.put_text.Goals as goal

pub loop-letter-init : goal.loop-letter-init
loop-letter-init c = record { width = refl; kept = none_put _ (subst (λ (row : Line). length row.cells ≤ row.width) c.self.view_is c.self.invariant) }

pub returns-clause-kept : goal.returns-clause-kept
returns-clause-kept c =
    let all = YieldsList-end (YieldsList-from_chars c.args.text.now c.utf8.text cc) c.loop-letter.yielded _ c.loop-letter.yielded_by _ _ c.in-None.is c.next.ensures.steps in
    all_put c.args.self.now c.loop-letter.self c.args.ink c.loop-letter.yielded c.args.text.now c.loop-letter.invariant.kept all.0

use Rattle.std.proofs.Common.{ℕ, refl, sym, ap, ◌∙◌}
use Rattle.sacn_monitor.specs.Accounts.{after_gone_on}
use Rattle.sacn_monitor.proofs.GoingOn.{is_taken_so, tells_nothing}
use Rattle.sacn_monitor.proofs.account.Account.take.Goals as goal

pub returns-then-goes_on-clause-news : goal.returns-then-goes_on-clause-news
returns-then-goes_on-clause-news c =
    let so = c.if-goes_on.ensures in
    c.quiet.ensures ∙ sym (tells_nothing c.args.moment c.args.sender c.args.packet.now c.args.self.now c.requires (so.number refl) (so.kind refl) (so.held refl) (so.priority refl) (so.sender refl) (so.name refl))

pub returns-then-goes_on-clause-account : goal.returns-then-goes_on-clause-account
returns-then-goes_on-clause-account c =
    let so = c.if-goes_on.ensures in
    let number = ap (λ (arrived : ℕ). after_gone_on c.args.moment arrived c.args.self.now) c.number.ensures in
    c.go_on.ensures ∙ number ∙ sym (is_taken_so c.args.moment c.args.sender c.args.packet.now c.args.self.now c.requires (so.number refl) (so.kind refl) (so.priority refl) (so.sender refl) (so.name refl))

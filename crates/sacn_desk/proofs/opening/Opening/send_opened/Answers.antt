use Rattle.std.proofs.Common.{sym, ◌∙◌}
use Rattle.sacn_desk.specs.Openings.{begun_of}
use Rattle.sacn_desk.proofs.opening.Opening.send_opened.Goals as goal

pub send_both-requires-clause-begins : goal.send_both-requires-clause-begins
send_both-requires-clause-begins g c = (begun_of c.args.self.now, sym c.begins.ensures.begins ∙ c.if-begins.true)

use Rattle.std.proofs.Common.{subst, arith}
use Rattle.sacn_source.specs.Source.{due, at}
use Rattle.sacn_edge.specs.Hearings.{Hands}
use Rattle.sacn_edge.specs.ConsoleSends.{Handed}
use Rattle.sacn_desk.proofs.Handing.{given_fits, given_read}
use Rattle.sacn_played_run.proofs.Giving.{handed_is}
use Rattle.sacn_played_run.proofs.sending.send.Goals as goal

pub hand-requires-clause-len : goal.hand-requires-clause-len
hand-requires-clause-len g c = given_fits c.args.source.now.source.sender _ c.in-Some.given c.in-Some.ensures.answer c.in-Some.ensures.lawful

pub hand-requires-clause-read : goal.hand-requires-clause-read
hand-requires-clause-read g c = given_read c.args.source.now.source.sender _ c.in-Some.given c.in-Some.ensures.answer c.in-Some.ensures.lawful _ c.args.octets.now c.in-Some.ensures.octets

pub returns-in-Some-clause-link : goal.returns-in-Some-clause-link
returns-in-Some-clause-link g c =
    subst (λ (hs : Handed). Hands (g.L.DeskLink.told c.args.link.now) (g.L.DeskLink.told c.hand.new.link) hs)
    (handed_is c.args.source.now.source.sender (due (at c.args.now c.args.source.now.source)) c.in-Some.given c.in-Some.ensures.answer c.in-Some.ensures.lawful _ c.args.octets.now c.in-Some.ensures.octets c.poll.array_long (omega (arith, c.told-octets)) c.hand.result)
    c.hand.ensures

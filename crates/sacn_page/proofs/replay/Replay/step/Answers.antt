use Rattle.std.proofs.Common.{refl, sym, subst}
use Rattle.sacn_capture.specs.Streams.{to_come}
use Rattle.sacn_page.specs.declared.replay.Next.{Next}
use Rattle.sacn_page.specs.declared.replay.Replay.{Replay}
use Rattle.sacn_page.specs.Replays.{Followed, StaysShown, known_to, shown_by, will_show}
use Rattle.sacn_page.proofs.Replaying.{end_rests, frame_rests}
use Rattle.sacn_page.proofs.replay.Replay.step.Goals as goal

pub returns-else-pending-until-clause-shows : goal.returns-else-pending-until-clause-shows
returns-else-pending-until-clause-shows g c later by =
    let remaining = g.R.Read.remaining in
    let old = c.args.self.now in
    let behind = to_come remaining old.capture in
    let f : Followed = record { clock = old.clock; known = known_to old.board } in
    let rested : Followed = record { clock = old.clock; known = known_to c.rest.new.self.board } in
    subst (λ (r : Replay _). StaysShown (will_show remaining later old) (will_show remaining later r)) (sym c.rest.ensures.rest)
    (subst (λ (n : Next). StaysShown (shown_by later old.port n old.octets.items behind f) (shown_by later old.port n old.octets.items behind rested)) (sym c.in-Frame.is)
    (frame_rests c.args.until old.port old.octets.items f (known_to c.rest.new.self.board) c.rest.ensures.later later c.in-Frame.pending behind by c.if-pending-until.false))

pub returns-in-Nothing-clause-shows : goal.returns-in-Nothing-clause-shows
returns-in-Nothing-clause-shows g c later by =
    let remaining = g.R.Read.remaining in
    let old = c.args.self.now in
    let behind = to_come remaining old.capture in
    let f : Followed = record { clock = old.clock; known = known_to old.board } in
    let rested : Followed = record { clock = old.clock; known = known_to c.rest-in-Nothing.new.self.board } in
    subst (λ (r : Replay _). StaysShown (will_show remaining later old) (will_show remaining later r)) (sym c.rest-in-Nothing.ensures.rest)
    (subst (λ (n : Next). StaysShown (shown_by later old.port n old.octets.items behind f) (shown_by later old.port n old.octets.items behind rested)) (sym c.in-Nothing.is)
    (end_rests old.clock.now old.port old.octets.items f (known_to c.rest-in-Nothing.new.self.board) c.rest-in-Nothing.ensures.later later c.in-Nothing.field-0 behind refl))

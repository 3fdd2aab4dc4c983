use Rattle.std.proofs.Common.{rules, ℕ, Option, Ok, Some, refl, sym, subst, ap, ◌∙◌}
use Rattle.std.proofs.lemmas.Result.{err_from_is_err_and}
use Rattle.sacn_capture.specs.declared.pieces.Pieces.{Pieces}
use Rattle.sacn_capture.specs.Counting.{count_frame, passed_by}
use Rattle.sacn_capture.specs.Check.{map_ok}
use Rattle.sacn_capture.specs.Frames.{seen_among}
use Rattle.sacn_capture.specs.Recordings.{Shown}
use Rattle.sacn_capture.specs.Streams.{Gives, ReadsRecord, shown_of, to_come}
use Rattle.sacn_capture.proofs.StepAnswers.{shown_is, same_to_come}
use Rattle.sacn_capture.proofs.stream.Capture.next.Goals as goal

pub returns-in-None : goal.returns-in-None
returns-in-None g c =
    let given = rw c.in-None.is at c.in_ok-frame.ensures.told in (
      (refl, λ _. tt, (given, c.in_ok-frame.ensures.counts)),
      record { stopped = search rules; end = λ header is. search rules; given = λ header is. tt; rests = tt; told = (to_come g.R.Read.remaining c.advance.new.self, given) },
    )

pub returns-in-Some : goal.returns-in-Some
returns-in-Some g c =
    let remaining = g.R.Read.remaining in
    let old = remaining c.args.self.now.pieces.input.reader in
    let read = c.advance.new.self in
    let told = c.count-seen.new.self in
    let new = remaining read.pieces.input.reader in
    let frame = c.in-Some.frame in
    let moment = c.record_of.ensures.moment ∙ ap (λ (p : Pieces _). p.moment) c.count-seen.ensures.pieces in
    let content = c.record_of.ensures.content ∙ ap (λ (p : Pieces _). map_ok (seen_among p.buffer.octets.items) c.count-seen.result) c.count-seen.ensures.pieces ∙ c.count-seen.ensures.seen in
    let given = subst (λ (s : Shown). Gives (Ok (Some s)) (to_come remaining c.args.self.now) (to_come remaining read)) (shown_is read.pieces frame (shown_of c.record_of.result) (sym moment) (sym content))
    (rw c.in-Some.is at c.in_ok-frame.ensures.told) in (
      (
        refl,
        λ _. tt,
        (
          subst (λ t. Gives (Ok (Some (shown_of c.record_of.result))) (to_come remaining c.args.self.now) t) (sym (same_to_come remaining told read c.count-seen.ensures.pieces c.count-seen.ensures.stopped)) given,
          c.count-seen.ensures.counts ∙ (λ i. count_frame (passed_by (sym content i)) (c.in_ok-frame.ensures.counts i)),
        ),
      ),
      record {
        stopped = search rules;
        end = λ header is. tt;
        given = λ header is. (
          new,
          frame,
          read.pieces.buffer.octets.items,
          subst (λ (m : Option ℕ). ReadsRecord header frame m old new read.pieces.buffer.octets.items) (sym moment) (rw c.in-Some.is at (c.in_ok-frame.ensures.given header is)),
          content,
        );
        rests = tt;
        told = (to_come remaining read, given);
      },
    )

pub returns-in_err-frame : goal.returns-in_err-frame
returns-in_err-frame g c =
    let p = err_from_is_err_and c.from_residual.result c.from_residual.ensures.1 in
    let given = c.in_err-frame.ensures.told in
    rw (p.1, p.2) (
      (refl, λ _. tt, (given, c.in_err-frame.ensures.counts)),
      record { stopped = search rules; end = λ header is. tt; given = λ header is. tt; rests = tt; told = (to_come g.R.Read.remaining c.advance.new.self, given) },
    )

use Rattle.sacn_capture.proofs.Readings.{then_did}
use Rattle.sacn_capture.specs.Check.{map_ok}
use Rattle.sacn_capture.specs.Files.{octets}
use Rattle.sacn_capture.specs.Inputs.{place_of}
use Rattle.sacn_capture.specs.Streams.{gives_piece, file_place, state_of}
use Rattle.sacn_capture.specs.Recordings.{record_behind}
use Rattle.sacn_capture.proofs.pieces.Pieces.record.Goals as goal

pub returns-clause-exact : goal.returns-clause-exact
returns-clause-exact g c =
    let remaining = g.R.Read.remaining in
    let old = c.args.self.now in
    let new = c.framed.new.self in
    then_did (octets 16) (λ head. record_behind c.args.header (state_of old) head) (file_place remaining old) (place_of remaining c.fill.new.self) (file_place remaining new) c.fill.new.buffer
    (map_ok (λ found. gives_piece found new) c.framed.result) c.in_ok-fill.ensures.exact c.framed.ensures.exact

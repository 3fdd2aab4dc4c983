use Rattle.std.proofs.Common.{take}
use Rattle.sacn_capture.proofs.Readings.{then_did}
use Rattle.sacn_capture.specs.Check.{map_ok}
use Rattle.sacn_capture.specs.Files.{octets}
use Rattle.sacn_capture.specs.Inputs.{place_of}
use Rattle.sacn_capture.specs.Streams.{gives_piece, file_place, state_of}
use Rattle.sacn_capture.specs.Recordings.{interface_body}
use Rattle.sacn_capture.proofs.pieces.Pieces.described_in.Goals as goal

pub returns : goal.returns
returns g c =
    let remaining = g.R.Read.remaining in
    let old = c.args.self.now in
    let new = c.added.new.self in
    then_did (octets c.args.len) (λ body. interface_body c.args.order c.args.size (state_of old) body) (file_place remaining old) (place_of remaining c.fill.new.input) (file_place remaining new)
    (take c.args.len c.fill.new.self.octets.items) (map_ok (λ found. gives_piece found new) c.added.result) c.in_ok-fill.ensures.exact c.added.ensures

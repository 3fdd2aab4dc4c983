use Rattle.std.proofs.Common.{sym}
use Rattle.sacn_capture.specs.Pcapng.{reading_block}
use Rattle.std.proofs.lemmas.Result.{err_from_is_err_and}
use Rattle.sacn_capture.proofs.Readings.{said, refused}
use Rattle.sacn_capture.specs.Check.{map_ok}
use Rattle.sacn_capture.specs.Streams.{gives_piece, file_place, state_of}
use Rattle.sacn_capture.specs.Recordings.{block_piece}
use Rattle.sacn_capture.proofs.pieces.Pieces.other.Goals as goal

pub returns : goal.returns
returns g c =
    let remaining = g.R.Read.remaining in
    let old = c.args.self.now in
    let new = c.by_kind.new.self in
    said (reading_block c.args.order c.args.octets) (λ h. block_piece c.args.order h.length (state_of old) h.kind) (file_place remaining old) (file_place remaining new) c.in_ok-head.head
    (map_ok (λ found. gives_piece found new) c.by_kind.result) (sym c.in_ok-head.ensures.head) c.by_kind.ensures

pub returns-in_err-head : goal.returns-in_err-head
returns-in_err-head g c =
    let remaining = g.R.Read.remaining in
    let old = c.args.self.now in
    let p = err_from_is_err_and c.from_residual.result c.from_residual.ensures.1 in
    rw (p.1, p.2) (refused (reading_block c.args.order c.args.octets) (λ h. block_piece c.args.order h.length (state_of old) h.kind) (file_place remaining old) (file_place remaining old) c.in_err-head.field-0.0
    (sym c.in_err-head.ensures.head))

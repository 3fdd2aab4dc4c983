use Rattle.std.proofs.Common.{sym, length}
use Rattle.std.proofs.lemmas.Result.{err_from_is_err_and}
use Rattle.sacn_capture.proofs.Readings.{said, refused}
use Rattle.sacn_capture.specs.Check.{map_ok}
use Rattle.sacn_capture.specs.Streams.{gives_piece, file_place, state_of}
use Rattle.sacn_capture.specs.Recordings.{interface_size, described_by}
use Rattle.sacn_capture.proofs.pieces.Pieces.described.Goals as goal

pub returns : goal.returns
returns g c =
    let remaining = g.R.Read.remaining in
    let old = c.args.self.now in
    let new = c.described_in.new.self in
    said (interface_size c.args.size (length (state_of old).interfaces)) (λ n. described_by n c.args.order c.args.size (state_of old)) (file_place remaining old) (file_place remaining new) c.in_ok-len.len
    (map_ok (λ found. gives_piece found new) c.described_in.result) (sym c.in_ok-len.ensures.len) c.described_in.ensures

pub returns-in_err-len : goal.returns-in_err-len
returns-in_err-len g c =
    let remaining = g.R.Read.remaining in
    let old = c.args.self.now in
    let p = err_from_is_err_and c.from_residual.result c.from_residual.ensures.1 in
    rw (p.1, p.2) (refused (interface_size c.args.size (length (state_of old).interfaces)) (λ n. described_by n c.args.order c.args.size (state_of old)) (file_place remaining old) (file_place remaining old) c.in_err-len.field-0.0
    (sym c.in_err-len.ensures.len))

use Rattle.std.proofs.Common.{sym, ap, ◌∙◌, take}
use Rattle.sacn_capture.specs.Pcapng.{interface_of, reading_interface}
use Rattle.std.proofs.lemmas.Result.{err_from_is_err_and}
use Rattle.sacn_capture.proofs.Readings.{said, refused}
use Rattle.sacn_capture.specs.Check.{map_ok}
use Rattle.sacn_capture.specs.Streams.{gives_piece, file_place, state_of}
use Rattle.sacn_capture.specs.Recordings.{interface_end}
use Rattle.sacn_capture.proofs.pieces.Pieces.added.Goals as goal

pub returns : goal.returns
returns g c =
    let remaining = g.R.Read.remaining in
    let old = c.args.self.now in
    let new = c.pushed.new.self in
    said (reading_interface c.args.order (take c.args.len old.buffer.octets.items)) (λ interface. interface_end c.args.order c.args.size (state_of old) interface) (file_place remaining old) (file_place remaining new)
    (interface_of c.in_ok-interface.interface) (map_ok (λ found. gives_piece found new) c.pushed.result) (ap (reading_interface c.args.order) (sym c.front.ensures) ∙ sym c.in_ok-interface.ensures) c.pushed.ensures

pub returns-in_err-interface : goal.returns-in_err-interface
returns-in_err-interface g c =
    let remaining = g.R.Read.remaining in
    let old = c.args.self.now in
    let p = err_from_is_err_and c.from_residual.result c.from_residual.ensures.1 in
    rw (p.1, p.2) (refused (reading_interface c.args.order (take c.args.len old.buffer.octets.items)) (λ interface. interface_end c.args.order c.args.size (state_of old) interface) (file_place remaining old)
    (file_place remaining old) c.in_err-interface.field-0.0 (ap (reading_interface c.args.order) (sym c.front.ensures) ∙ sym c.in_err-interface.ensures))

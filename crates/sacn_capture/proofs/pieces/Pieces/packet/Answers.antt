use Rattle.std.proofs.Common.{ℕ, Some, ◌-◌, ◌∙◌, ap, sym, subst}
use Rattle.sacn_capture.specs.Clocks.{milliseconds, shifted}
use Rattle.sacn_capture.specs.Pcapng.{interface_of}
use Rattle.std.proofs.lemmas.Result.{err_from_is_err_and}
use Rattle.sacn_capture.proofs.Readings.{said, refused}
use Rattle.sacn_capture.specs.Check.{map_ok}
use Rattle.sacn_capture.specs.Files.{Does}
use Rattle.sacn_capture.specs.Streams.{gives_piece, file_place, state_of}
use Rattle.sacn_capture.specs.Recordings.{interface_at, packet_behind}
use Rattle.sacn_capture.proofs.pieces.Pieces.packet.Goals as goal

pub returns : goal.returns
returns g c =
    let remaining = g.R.Read.remaining in
    let old = c.args.self.now in
    let new = c.packet_frame.new.self in
    let head = c.args.head in
    let rest = c.args.size - 32 - head.captured in
    said (interface_at (state_of old) head.interface)
    (λ interface. packet_behind interface.link head.captured (Some (shifted interface.shift (milliseconds head.ticks interface.units))) rest c.args.order c.args.size (state_of old)) (file_place remaining old) (file_place remaining new)
    (interface_of c.in_ok-interface.interface) (map_ok (λ found. gives_piece found new) c.packet_frame.result) (sym c.in_ok-interface.ensures)
    (subst (λ (moment : ℕ). Does (packet_behind c.in_ok-interface.interface.link head.captured (Some moment) rest c.args.order c.args.size (state_of old)) (file_place remaining old) (file_place remaining new) (map_ok (λ found. gives_piece found new) c.packet_frame.result))
    (c.shifted-moment.ensures ∙ ap (shifted c.in_ok-interface.interface.shift) c.milliseconds_of.ensures) c.packet_frame.ensures)

pub returns-in_err-interface : goal.returns-in_err-interface
returns-in_err-interface g c =
    let remaining = g.R.Read.remaining in
    let old = c.args.self.now in
    let head = c.args.head in
    let p = err_from_is_err_and c.from_residual.result c.from_residual.ensures.1 in
    rw (p.1, p.2) (refused (interface_at (state_of old) head.interface)
    (λ interface. packet_behind interface.link head.captured (Some (shifted interface.shift (milliseconds head.ticks interface.units))) (c.args.size - 32 - head.captured) c.args.order c.args.size (state_of old)) (file_place remaining old)
    (file_place remaining old) c.in_err-interface.field-0.0 (sym c.in_err-interface.ensures))

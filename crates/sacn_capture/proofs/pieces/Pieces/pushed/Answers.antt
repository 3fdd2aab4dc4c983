use Rattle.std.proofs.Common.{List, [], ◌∷◌, ◌++◌, None, Ok, sym, ap, ◌∙◌, map}
use Rattle.std.proofs.lemmas.List.{map-append}
use Rattle.sacn_capture.proofs.Readings.{then_did, gave}
use Rattle.sacn_capture.specs.Files.{gives}
use Rattle.sacn_capture.specs.Inputs.{place_of}
use Rattle.sacn_capture.specs.Pcapng.{Taken, interface_of}
use Rattle.sacn_capture.specs.Recordings.{Piece, closed}
use Rattle.sacn_capture.specs.Streams.{file_place}
use Rattle.sacn_capture.proofs.pieces.Pieces.pushed.Goals as goal

pub returns : goal.returns
returns g c =
    let remaining = g.R.Read.remaining in
    let old = c.args.self.now in
    let after = place_of remaining c.end_of_block.new.input in
    let described : List Taken = map interface_of old.interfaces.items in
    let piece : List Taken → Piece = λ (interfaces : List Taken). record { frame = None; next = record { format = old.format; interfaces = interfaces; moment = old.moment } } in
    let more = sym (ap (λ is. map interface_of is) {y = old.interfaces.items ++ c.args.interface ∷ []} c.in_ok-push.ensures.items ∙ map-append interface_of old.interfaces.items (c.args.interface ∷ [])) in
    then_did (closed c.args.order c.args.size) (λ _. gives (piece (described ++ interface_of c.args.interface ∷ []))) (file_place remaining old) after after c.args.size
    (Ok (piece (map interface_of c.push.new.self.items))) c.in_ok-end_of_block.ensures (gave (piece (described ++ interface_of c.args.interface ∷ [])) (piece (map interface_of c.push.new.self.items)) after (ap piece more))

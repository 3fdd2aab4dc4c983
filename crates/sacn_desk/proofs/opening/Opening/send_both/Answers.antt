use Rattle.std.proofs.Common.{◌≡◌, ◌==◌, List, ℕ, Bool, true, Some, [], ◌∷◌, ap, subst, sym, ◌∙◌}
use Rattle.sacn_packets.specs.PacketReading.{reading_packet}
use Rattle.sacn_edge.specs.ConsoleSends.{Handed}
use Rattle.sacn_edge.proofs.ConsoleLemmas.{Hands-append}
use Rattle.sacn_desk.specs.Groups.{universe_read}
use Rattle.sacn_desk.specs.Openings.{begins, opening_copy}
use Rattle.sacn_desk.proofs.opening.Opening.send_both.Goals as goal

pub new-opening-requires : goal.new-opening-requires
new-opening-requires g c =
    let same = c.octets-octets.ensures in
    let begun = c.requires.begins.0 in
    let read : (octets : List ℕ) → _ = λ octets. universe_read (reading_packet octets) in
    ap read (c.as_slice.ensures.value ∙ c.copy_of-copy.ensures)
    ∙ c.tell_copy.ensures begun c.universe.result (ap (begins begun) same ∙ c.requires.begins.1) (ap read same ∙ c.universe.ensures)

pub returns-clause-sent : goal.returns-clause-sent
returns-clause-sent g c =
    let copy : c.new-opening.result ≡ opening_copy c.args.datagram.now = c.new-opening.ensures ∙ c.as_slice.ensures.value ∙ c.copy_of-copy.ensures ∙ ap opening_copy c.octets-octets.ensures in
    let first : Handed = (c.new-opening.result, c.hand_over.result) ∷ [] in
    let second : Handed = (c.args.datagram.now, c.hand_over-2.result) ∷ [] in (
      (c.new-opening.result, c.hand_over.result) ∷ (c.args.datagram.now, c.hand_over-2.result) ∷ [],
      Hands-append _ _ _ first second c.hand_over.ensures.told c.hand_over-2.ensures.told,
      (c.hand_over.result, ap (λ (octets : List ℕ). let all : Handed = (octets, c.hand_over.result) ∷ (c.args.datagram.now, c.hand_over-2.result) ∷ [] in all) copy),
    )

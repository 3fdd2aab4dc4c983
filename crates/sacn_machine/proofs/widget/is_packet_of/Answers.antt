use Rattle.std.proofs.Common.{◌&&◌, [], ◌∷◌, refl, sym, ◌∙◌}
use Rattle.sacn_machine.proofs.WidgetParts.{same_in_parts}
use Rattle.sacn_machine.proofs.widget.is_packet_of.Goals as goal

pub returns : goal.returns
returns c =
    (λ i. (c.is_same-begins.ensures i && c.is_same-carries.ensures i) && c.is_same-ends.ensures i)
    ∙ sym (same_in_parts 4 513 517 c.args.packet.now (0x7e ∷ 6 ∷ 1 ∷ 2 ∷ []) c.args.frame.now (0xe7 ∷ []) refl c.told-frame refl c.told-packet)

use Rattle.std.proofs.Common.{◌∙◌, ap, arith}
use Rattle.std.proofs.lemmas.List.{take_all}
use Rattle.hex.specs.Hex.{encode_lower}
use Rattle.sacn_edge.proofs.DigitBlocks.{stored_both}
use Rattle.sacn_edge.proofs.digits.write_block.Goals as goal

pub returns : goal.returns
returns c =
    stored_both c.args.digits.now c.digits_of_lanes.result.0 c.digits_of_lanes.result.1 c.requires.room c.digits_of_lanes.ensures.front c.digits_of_lanes.ensures.back
    ∙ c.digits_of_lanes.ensures.digits
    ∙ ap encode_lower (take_all 16 c.args.octets.now (omega arith))

use Rattle.std.proofs.Common.{arith, refl}
use Rattle.sacn_console.proofs.Octets.{front_len}
use Rattle.sacn_source.proofs.Octets.{filled_row}
use Rattle.sacn_source.proofs.source.giving.write_packet.Goals as goal

pub returns-clause-octets : goal.returns-clause-octets
returns-clause-octets c =
    filled_row c.args.sender.now c.args.row.now c.is_ending.result _ c.write_data.new.out _ _ c.write_data.result c.is_ending.ensures refl c.write_data.ensures.text (omega (arith, c.write_data.ensures.len, front_len 638 c.in-Some.front.now c.args.out.now c.in-Some.ensures.cases.same))

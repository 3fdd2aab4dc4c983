use Rattle.sacn_record.specs.Recordings.{sent_of}
use Rattle.sacn_record.proofs.Headers.{packet_put}
use Rattle.sacn_record.proofs.packets.put_packet.Goals as goal

pub returns-clause-items : goal.returns-clause-items
returns-clause-items g c =
    packet_put c.args.out.now.items c.put_ipv4_header.new.out.items c.put_udp_header.new.out.items c.put.new.out.items c.header_checksum.result (sent_of c.args.heard.now) c.header_checksum.ensures c.put_ipv4_header.ensures.items c.put_udp_header.ensures.items c.put.ensures.items

use Rattle.std.proofs.Common.{◌+◌, length, refl}
use Rattle.sacn_record.specs.Recordings.{sent_of}
use Rattle.sacn_record.proofs.Headers.{udp_put}
use Rattle.sacn_record.proofs.packets.put_udp_header.Goals as goal

pub returns-clause-items : goal.returns-clause-items
returns-clause-items g c = udp_put c.args.out.now.items c.put_shorts.new.out.items (8 + length c.args.heard.now.payload.now) (sent_of c.args.heard.now) refl c.put_shorts.ensures.items

use Rattle.std.proofs.Common.{◌+◌, length, refl}
use Rattle.sacn_record.specs.Recordings.{sent_of}
use Rattle.sacn_record.proofs.Headers.{ipv4_put}
use Rattle.sacn_record.proofs.packets.put_ipv4_header.Goals as goal

pub returns-clause-items : goal.returns-clause-items
returns-clause-items g c =
    ipv4_put c.args.out.now.items c.put_shorts.new.out.items c.put.new.out.items c.put-2.new.out.items (28 + length c.args.heard.now.payload.now) c.args.sum (sent_of c.args.heard.now) refl c.put_shorts.ensures.items c.put.ensures.items c.put-2.ensures.items

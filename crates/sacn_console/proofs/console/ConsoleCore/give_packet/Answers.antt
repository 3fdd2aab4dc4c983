use Rattle.sacn_console.proofs.WakeLists.{wakes_sent, place_in}
use Rattle.sacn_console.proofs.Wakes.{sent_wakes}
use Rattle.sacn_console.proofs.Changes.{core_given, ok_given, universe_ok, packet_told, packet_over, frame_read}
use Rattle.sacn_console.proofs.console.ConsoleCore.give_packet.Goals as goal

pub write_packet-len-requires-clause-least : goal.write_packet-len-requires-clause-least
write_packet-len-requires-clause-least c = (universe_ok _ _ c.args.place _ c.self.view_is c.self.invariant.core c.requires.there c.index_mut-line.ensures.value).0

pub write_packet-len-requires-clause-most : goal.write_packet-len-requires-clause-most
write_packet-len-requires-clause-most c = (universe_ok _ _ c.args.place _ c.self.view_is c.self.invariant.core c.requires.there c.index_mut-line.ensures.value).1

pub invariant_of-self : goal.invariant_of-self
invariant_of-self c = record {
  core = ok_given _ c.args.place _ _ _ _ c.self.invariant.core c.index_mut-line.ensures.value c.note_packet.ensures;
  wakes_ok = rw (c.pass.ensures, c.put.ensures, c.wake_sent-wake.ensures) (wakes_sent _ _ _ _ c.args.place _ _ _ c.self.invariant.wakes_ok (place_in _ _ c.args.place c.self.view_is c.requires.there)
      (sent_wakes _ _ _ _ _ _ c.note_packet.ensures (frame_read _ _ c.args.place _ _ c.self.view_is c.requires.there c.index_mut-line.ensures.value c.requires.frame) c.self.invariant.core.clock c.is_still.ensures.still c.is_still.ensures.stays));
}

pub returns-clause-answer : goal.returns-clause-answer
returns-clause-answer c = packet_told _ _ c.args.place _ _ c.self.view_is c.requires.there c.index_mut-line.ensures.value c.write_packet-len.ensures.len

pub returns-clause-octets : goal.returns-clause-octets
returns-clause-octets c =
    packet_over _ _ c.args.place _ _ _ _ c.self.view_is c.requires.there c.index_mut-line.ensures.value (frame_read _ _ c.args.place _ _ c.self.view_is c.requires.there c.index_mut-line.ensures.value c.requires.frame) c.write_packet-len.ensures.octets

pub returns-clause-core : goal.returns-clause-core
returns-clause-core c =
    core_given _ _ c.args.place _ _ _ c.self.view_is c.self.invariant.core c.requires.there c.index_mut-line.ensures.value (frame_read _ _ c.args.place _ _ c.self.view_is c.requires.there c.index_mut-line.ensures.value c.requires.frame) c.note_packet.ensures

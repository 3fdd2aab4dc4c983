-- What a datagram tells.
use Rattle.std.specs.Prelude.{◌≡◌, ℕ, List, ◌++◌, Option, Result}
use Rattle.sacn_packets.specs.declared.root.fault.PacketFault.{PacketFault}
use Rattle.sacn_packets.specs.declared.framing.packet.Packet.{Packet}
use Rattle.sacn_monitor.specs.declared.account.Endpoint.{Endpoint}
use Rattle.sacn_network.specs.Networks.{LeavesNone, note_of, take_told, taken, ticked}
use Rattle.sacn_tell.specs.declared.follower.Follower.{Follower}
use Rattle.sacn_tell.specs.declared.options.Form.{Form}
use Rattle.sacn_tell.specs.Causes.{cause_among}
use Rattle.sacn_tell.specs.LineWriting.{told_lines}
use Rattle.sacn_tell.specs.ListBooks.{ListBook, list_book, page_told}
use Rattle.sacn_tell.specs.Shows.{after_turn, staged, turn_shown}
use Rattle.sacn_tell.specs.Silences.{AreDark, IsLit, Scene, after_darks, darks_told, scene_of}
use Rattle.sacn_tell.specs.Tellings.{Tells}

-- one at t, by what it was read as: what the network tells, then the list of a page, and then the frames of the node that it changes
abbrev pub datagram_told : ℕ → Endpoint → Result Packet PacketFault → ListBook → Scene → Form → List ℕ → List ℕ
datagram_told t sender reading lists s form wanted =
    told_lines form wanted (take_told t sender reading s.network)
    ++ (page_told form t reading lists
    ++ turn_shown form t reading (cause_among (taken t sender reading s.network).monitor.streams (note_of t sender reading (ticked t s.network))) s.stage)

-- a call told what the node lost up to t, and then what a datagram tells, once what ended by then was told
pub record TellsTurn {O : Type 0} (contents : O → Option (List ℕ)) (t : ℕ) (sender : Endpoint) (reading : Result Packet PacketFault) (old new : Follower O) : Type 0 where
  pub darks : List ℕ
  pub are : AreDark t darks (scene_of old)
  pub lit : IsLit t (after_darks darks (scene_of old)).stage
  pub silent : LeavesNone t (ticked t (after_darks darks (scene_of old)).network)
  pub told : Tells contents old.writer.teller new.writer.teller
      (darks_told darks (scene_of old) old.writer.teller.form old.writer.options.universes.now
      ++ datagram_told t sender reading (list_book old.listings) (after_darks darks (scene_of old)) old.writer.teller.form old.writer.options.universes.now)
  pub network : new.network ≡ taken t sender reading (after_darks darks (scene_of old)).network
  pub stage : staged new.stage ≡ after_turn t reading (after_darks darks (scene_of old)).stage

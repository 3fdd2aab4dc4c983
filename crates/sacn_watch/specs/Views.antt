-- What a screen shows of a network.
use Rattle.std.specs.Prelude.{◌≡◌, ℕ, ◌==◌, ◌⊎◌, Bool, true, false, List, [], ◌∷◌, replicate, Option, None, Some, Result, Ok, Err, if◌then◌else◌}
use Rattle.sacn_packets.specs.declared.root.fault.PacketFault.{PacketFault}
use Rattle.sacn_packets.specs.Data.{Data}
use Rattle.sacn_packets.specs.declared.framing.packet.Packet.{Packet}
use Rattle.sacn_packets.specs.declared.framing.packet.Packet.TheVariants.{DataPacket, PagePacket, SyncPacket}
use Rattle.sacn_packets.specs.PacketReading.{reading_packet}
use Rattle.sacn_monitor.specs.Histories.{Call, Take, Tick}
use Rattle.sacn_monitor.specs.declared.stream.Stream.{Stream}
use Rattle.sacn_network.specs.LitUniverses.{giver_places}
use Rattle.sacn_watch.specs.declared.view.View.{View}
use Rattle.sacn_sources.specs.Packets.{packet_of}
use Rattle.sacn_sources.specs.LatestMerge.{Kept, new_kept, kept_after_take, kept_after_merged}

-- the universe whose levels are shown, what is held of its sources, and whether a data packet of it came since it was chosen
pub record Shown : Type 0 where
  pub universe : Option ℕ
  pub sources : Kept
  pub is_heard : Bool

-- the universe whose levels a screen shows, once one was asked for or heard
abbrev pub chosen : View → Option ℕ
chosen v = if v.is_chosen then Some v.lit.universe else None

abbrev pub shown_of : View → Shown
shown_of v = record { universe = chosen v; sources = v.lit.sources; is_heard = v.is_heard }

-- the universe that is asked for, else the first of which a data packet came
abbrev pub shown_with : ℕ → Option ℕ → ℕ
shown_with universe None = universe
shown_with universe (Some asked) = asked

-- a data packet goes to the table of the universe that is shown
abbrev pub after_packet : ℕ → Data → Shown → Shown
after_packet now d s = record {
  universe = Some (shown_with d.universe s.universe);
  sources = if shown_with d.universe s.universe == d.universe then kept_after_take now (packet_of d) s.sources else s.sources;
  is_heard = if shown_with d.universe s.universe == d.universe then true else s.is_heard;
}

abbrev pub after_reading : ℕ → Result Packet PacketFault → Shown → Shown
after_reading now (Ok (DataPacket d)) s = after_packet now d s
after_reading now (Ok (PagePacket p)) s = s
after_reading now (Ok SyncPacket) s = s
after_reading now (Err fault) s = s

-- nothing is shown yet
abbrev pub nothing_shown : Shown
nothing_shown = record { universe = None; sources = new_kept; is_heard = false }

abbrev pub is_shown : ℕ → Option ℕ → Bool
is_shown universe None = false
is_shown universe (Some shown) = shown == universe

-- another universe is chosen: what was held of the sources of the one before is none of it; the same one again changes nothing
abbrev pub after_choice : ℕ → Shown → Shown
after_choice universe s =
    if is_shown universe s.universe then s
    else record { universe = Some universe; sources = new_kept; is_heard = false }

-- the levels are merged, and the sources that are lost by then dropped
abbrev pub after_look : ℕ → Shown → Shown
after_look now s = record { universe = s.universe; sources = kept_after_merged now s.sources; is_heard = s.is_heard }

-- a universe was chosen, or none
abbrev pub IsSteered : Shown → Shown → Type 0
IsSteered old new = (new ≡ old) ⊎ ((universe : ℕ) × (new ≡ after_choice universe old))

-- the levels are looked at, or not
abbrev pub after_look_where : Bool → ℕ → Shown → Shown
after_look_where true now s = after_look now s
after_look_where false now s = s

-- what a screen came through: a call that it was handed, a universe that was chosen, a look at the levels
pub data Deed : Type 0 where
  Handed : Call → Deed
  Chosen : ℕ → Deed
  Looked : ℕ → Deed

-- the calls among deeds; of both the latest stands first
abbrev pub calls_of : List Deed → List Call
calls_of [] = []
calls_of (Handed call ∷ earlier) = call ∷ calls_of earlier
calls_of (Chosen universe ∷ earlier) = calls_of earlier
calls_of (Looked now ∷ earlier) = calls_of earlier

abbrev pub after_call : Call → Shown → Shown
after_call (Take now sender octets) s = after_reading now (reading_packet octets) s
after_call (Tick now) s = s

-- what is shown after deeds: of the universe that was chosen last, the merge of its packets since then
abbrev pub shown_after : List Deed → Shown
shown_after [] = nothing_shown
shown_after (Handed call ∷ earlier) = after_call call (shown_after earlier)
shown_after (Chosen universe ∷ earlier) = after_choice universe (shown_after earlier)
shown_after (Looked now ∷ earlier) = after_look now (shown_after earlier)

-- what may be shown after these calls, with choices and looks between them
abbrev pub IsShownBy : List Call → Shown → Type 0
IsShownBy calls s = (deeds : List Deed) × (calls_of deeds ≡ calls) × (s ≡ shown_after deeds)

-- for each slot the place of the stream of the source that gives it its level, where a universe is shown
unfoldable pub places_shown : Option ℕ → List Stream → List (Option (List ℕ)) → List (Option ℕ)
places_shown None ss givers = replicate 512 None
places_shown (Some universe) ss givers = giver_places universe ss givers

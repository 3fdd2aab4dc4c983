-- Calls of a recording that is played as a source. A history is the list of the calls so far, the latest first.
use Rattle.std.specs.Prelude.{ℕ, Bool, false, ◌||◌, ◌==◌, if◌then◌else◌, List, [], ◌∷◌, Option, Some, None, Ok, Err}
use Rattle.sacn_packets.specs.PacketReading.{Reading, reading_packet}
use Rattle.sacn_packets.specs.declared.framing.packet.Packet.TheVariants.{DataPacket, PagePacket, SyncPacket}
use Rattle.sacn_sources.specs.Packets.{packet_of}
use Rattle.sacn_sources.specs.Rows.{answer, renews, slots_of}
use Rattle.sacn_sources.specs.Calls as table
use Rattle.sacn_sources.specs.Calls.{Take, Expire, Merge}
use Rattle.sacn_console.specs.declared.sender.Sender.{Sender}
use Rattle.sacn_source.specs.Rows.{dark}
use Rattle.sacn_played_source.specs.Universes.{since, is_over}
use Rattle.sacn_played_source.specs.Played.{Played, new_played, after_reading, after_advance, after_rewind, after_poll, after_end_all}

-- a call, with the moment of the recording, or for a poll that of the machine's clock
pub data Call : Type 0 where
  Hear : ℕ → List ℕ → Call
  Advance : ℕ → Call
  Rewind : Call
  Poll : ℕ → Call
  EndAll : Call

-- what the contracts of the calls say
abbrev pub step : Call → Played → Played
step (Hear moment octets) p = after_reading moment (reading_packet octets) p
step (Advance moment) p = after_advance moment p
step Rewind p = after_rewind p
step (Poll now) p = after_poll now p
step EndAll p = after_end_all p

-- the value that a history leaves, from that of `new`
abbrev pub after_calls : Sender → List ℕ → ℕ → List Call → Played
after_calls sender us first [] = new_played sender us first
after_calls sender us first (call ∷ earlier) = step call (after_calls sender us first earlier)

-- ---- one table, told the same datagrams at the same moments

abbrev pub told_by : ℕ → ℕ → Reading → List table.Call → List table.Call
told_by u moment (Ok (DataPacket d)) earlier = if d.universe == u then Merge moment ∷ Take moment (packet_of d) ∷ earlier else earlier
told_by u moment (Ok (PagePacket page)) earlier = earlier
told_by u moment (Ok SyncPacket) earlier = earlier
told_by u moment (Err fault) earlier = earlier

-- what it was told since the recording began: the data packets of its universe, and how far the recording came
abbrev pub told : ℕ → List Call → List table.Call
told u [] = []
told u (Hear moment octets ∷ earlier) = told_by u moment (reading_packet octets) (told u earlier)
told u (Advance moment ∷ earlier) = Merge moment ∷ told u earlier
told u (Rewind ∷ earlier) = []
told u (Poll now ∷ earlier) = told u earlier
told u (EndAll ∷ earlier) = told u earlier

-- the first moment at which it was merged
abbrev pub begun : List table.Call → Option ℕ
begun [] = None
begun (Take moment x ∷ earlier) = begun earlier
begun (Expire moment ∷ earlier) = begun earlier
begun (Merge moment ∷ earlier) = Some (since (begun earlier) moment)

-- a packet renewed a source, or what was sent before is over
abbrev pub is_own : List table.Call → Bool
is_own [] = false
is_own (Take moment x ∷ earlier) = is_own earlier || renews (answer moment x (table.after_calls earlier).table)
is_own (Expire moment ∷ earlier) = is_own earlier
is_own (Merge moment ∷ earlier) = is_own earlier || is_over (since (begun earlier) moment) moment

-- the merge of what such a table holds, where that is sent, and else the levels before
abbrev pub held_or : List table.Call → List ℕ → List ℕ
held_or calls before = if is_own calls then slots_of (table.after_calls calls).table.rows else before

-- the levels that are sent on a universe: they stay when the recording begins anew, until a packet renews a source there or they are over
abbrev pub levels_sent : ℕ → List Call → List ℕ
levels_sent u [] = dark
levels_sent u (Hear moment octets ∷ earlier) = held_or (told u (Hear moment octets ∷ earlier)) (levels_sent u earlier)
levels_sent u (Advance moment ∷ earlier) = held_or (told u (Advance moment ∷ earlier)) (levels_sent u earlier)
levels_sent u (Rewind ∷ earlier) = levels_sent u earlier
levels_sent u (Poll now ∷ earlier) = levels_sent u earlier
levels_sent u (EndAll ∷ earlier) = levels_sent u earlier

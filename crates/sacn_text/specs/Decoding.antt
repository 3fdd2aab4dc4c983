-- The text of a list of datagrams, up to the first that is refused.
use Rattle.std.specs.Prelude.{◌≡◌, ℕ, ◌+◌, ◌<◌, List, [], ◌∷◌, ◌++◌, codes, length, map, take, Bool, true, false, Option, Some, None, Result, Ok, Err}
use Rattle.std.specs.Prelude.{Vec}
use Rattle.std.specs.declared.alloc.Global.{Global}
use Rattle.sacn_packets.specs.declared.root.fault.PacketFault.{PacketFault}
use Rattle.sacn_packets.specs.declared.framing.packet.Packet.{Packet}
use Rattle.sacn_packets.specs.declared.framing.packet.Packet.TheVariants.{DataPacket, PagePacket, SyncPacket}
use Rattle.sacn_packets.specs.PacketReading.{reading_packet}
use Rattle.sacn_discovery.specs.Collection.{State, after_take, after_expire, known_list}
use Rattle.sacn_text.specs.Blocks.{data_block, page_block}
use Rattle.sacn_text.specs.declared.fault.DecodeFault.{DecodeFault}
use Rattle.sacn_text.specs.declared.fault.DecodeFault.TheVariants.{OutOfMemory, Refused, WriteFailed}

-- the collector after a packet, at moment 0
abbrev pub state_after : Packet → State → State
state_after (DataPacket d) s = s
state_after (PagePacket p) s = after_expire 0 (after_take 0 p s)
state_after SyncPacket s = s

abbrev pub block : Packet → State → List ℕ
block (DataPacket d) s = data_block d
block (PagePacket p) s = page_block p (known_list (after_expire 0 (after_take 0 p s)) p.cid)
block SyncPacket s = codes "sync\n"

-- the text, and the first refusal
pub record Decoded : Type 0 where
  pub text : List ℕ
  pub refused : Option (ℕ × PacketFault)

abbrev pub then_text : List ℕ → Decoded → Decoded
then_text text d = record { text = text ++ d.text; refused = d.refused }

abbrev pub decoded_by : Result Packet PacketFault → State → ℕ → (State → Decoded) → Decoded
decoded_by (Err fault) s i rest = record { text = []; refused = Some (i, fault) }
decoded_by (Ok packet) s i rest = then_text (block packet s) (rest (state_after packet s))

-- what the datagrams from number i on give
abbrev pub decoded : State → ℕ → List (List ℕ) → Decoded
decoded s i [] = record { text = []; refused = None }
decoded s i (octets ∷ datagrams) = decoded_by (reading_packet octets) s i (λ t. decoded t (i + 1) datagrams)

-- what was written up to a fault: all up to a refusal, and otherwise a part
abbrev pub Stops : DecodeFault → Bool → (List ℕ → Type 0) → Decoded → Type 0
Stops OutOfMemory failed Written d = (failed ≡ false) × ((n : ℕ) × Written (take n d.text))
Stops (Refused i fault) failed Written d = (failed ≡ false) × (d.refused ≡ Some (i, fault)) × Written d.text
Stops WriteFailed failed Written d = (failed ≡ true) × ((n : ℕ) × (n < length d.text) × Written (take n d.text))

abbrev pub octets_of : List (Vec ℕ Global) → List (List ℕ)
octets_of datagrams = map (λ v. v.items) datagrams

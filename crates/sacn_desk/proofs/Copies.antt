-- The copy that opens a stream is read as a packet of the same universe.
use Rattle.std.proofs.Common.{◌≡◌, ℕ, ◌+◌, Bool, true, false, ◌&&◌, List, [], ◌∷◌, ◌++◌, length, get_or, set, Option, Some, Result, Ok, Err, refl, sym, ap, ◌∙◌, append_assoc, arith}
use Rattle.std.specs.Int.{w16, w32, to_be_bytes}
use Rattle.std.proofs.lemmas.List.{length-append}
use Rattle.std.proofs.lemmas.Option.{same_Some}
use Rattle.sacn_packets.specs.declared.root.fault.PacketFault.{PacketFault}
use Rattle.sacn_packets.specs.RootText.{flags_and_length, root_head}
use Rattle.sacn_packets.proofs.Pieces.{IsBytes}
use Rattle.sacn_packets.specs.Data.{Data}
use Rattle.sacn_packets.specs.FramingText.{Ignored, framing_text, options}
use Rattle.sacn_packets.specs.PacketText.{ReadsData, data_text, framing}
use Rattle.sacn_packets.specs.PacketReading.{reading_packet}
use Rattle.sacn_packets.specs.declared.framing.packet.Packet.{Packet}
use Rattle.sacn_packets.specs.declared.framing.packet.Packet.TheVariants.{DataPacket, PagePacket, SyncPacket}
use Rattle.sacn_packets.proofs.FramingLaws.{length_framing_text}
use Rattle.sacn_packets.proofs.Packets.{packet_found, data_only}
use Rattle.sacn_desk.specs.Groups.{universe_read}
use Rattle.sacn_desk.specs.Openings.{begins, begins_read, has_room, opening_copy, opening_number}

abbrev numbered : Data → ℕ → Data
numbered d m = record d { number = m }

set_there : (xs ys : List ℕ) (n m : ℕ) → set (xs ++ n ∷ ys) (length xs) m ≡ xs ++ m ∷ ys
set_there [] ys n m = refl
set_there (x ∷ xs) ys n m = ap (λ t. x ∷ t) (set_there xs ys n m)

-- what stands before the number, and after it
abbrev before : Data → Ignored → ℕ → List ℕ
before d i len =
    root_head 4 d.cid len ++ (flags_and_length (77 + length (framing d).body) ++ to_be_bytes w32 2 ++ (d.name ++ ((d.priority ∷ []) ++ to_be_bytes w16 i.synchronization)))

abbrev behind : Data → Ignored → List ℕ → List ℕ
behind d i rest = (options (framing d) i ∷ []) ++ to_be_bytes w16 d.universe ++ (framing d).body ++ rest

length_before : (d : Data) (i : Ignored) (len : ℕ) → length d.cid ≡ 16 → length d.name ≡ 64 → length (before d i len) ≡ 111
length_before d i len cid name =
    let ends : List ℕ = (d.priority ∷ []) ++ to_be_bytes w16 i.synchronization in
    let more : List ℕ = flags_and_length (77 + length (framing d).body) ++ to_be_bytes w32 2 ++ (d.name ++ ends) in
    omega (arith, length-append (root_head 4 d.cid len) more, length-append d.cid more, length-append d.name ends, cid, name)

regroup : (r f v nm p s n o u b rest : List ℕ) → (r ++ ((f ++ v ++ nm ++ p ++ s ++ n ++ o ++ u) ++ b)) ++ rest ≡ (r ++ (f ++ v ++ (nm ++ (p ++ s)))) ++ (n ++ (o ++ u ++ b ++ rest))
regroup r f v nm p s n o u b rest = simp append_assoc

parted : (d : Data) (i : Ignored) (rest : List ℕ) → data_text d i ++ rest ≡ before d i (length (framing_text (framing d) i)) ++ d.number ∷ behind d i rest
parted d i rest =
    regroup (root_head 4 d.cid (length (framing_text (framing d) i))) (flags_and_length (77 + length (framing d).body)) (to_be_bytes w32 2) d.name (d.priority ∷ []) (to_be_bytes w16 i.synchronization) (d.number ∷ []) (options (framing d) i ∷ []) (to_be_bytes w16 d.universe) (framing d).body rest

copy_text : (d : Data) (i : Ignored) (rest : List ℕ) (m : ℕ) → length d.cid ≡ 16 → length d.name ≡ 64 → set (data_text d i ++ rest) 111 m ≡ data_text (numbered d m) i ++ rest
copy_text d i rest m cid name =
    let old : ℕ = length (framing_text (framing d) i) in
    let new : ℕ = length (framing_text (framing (numbered d m)) i) in
    let as_long : old ≡ new = length_framing_text (framing d) i name ∙ sym (length_framing_text (framing (numbered d m)) i name) in
    ap (λ (xs : List ℕ). set xs 111 m) (parted d i rest)
    ∙ ap (λ (k : ℕ). set (before d i old ++ d.number ∷ behind d i rest) k m) (sym (length_before d i old cid name))
    ∙ set_there (before d i old) (behind d i rest) d.number m
    ∙ ap (λ (n : ℕ). before d i n ++ m ∷ behind d i rest) as_long
    ∙ sym (parted (numbered d m) i rest)

copy_read : (octets : List ℕ) (d : Data) (m : ℕ) → IsBytes octets → reading_packet octets ≡ Ok (DataPacket d) → reading_packet (set octets 111 m) ≡ Ok (DataPacket (numbered d m))
copy_read octets d m bytes e =
    let r : ReadsData octets d = packet_found octets (DataPacket d) bytes e in
    data_only (set octets 111 m) (numbered d m) (record {
      is_data = record { cid = r.is_data.cid; name = r.is_data.name; priority = r.is_data.priority; universe = r.is_data.universe; slots = r.is_data.slots };
      ignored = r.ignored;
      is_ignored = r.is_ignored;
      rest = r.rest;
      begins = ap (λ (xs : List ℕ). set xs 111 m) r.begins ∙ copy_text d r.ignored r.rest m r.is_data.cid r.is_data.name;
    })

-- only a data packet begins a stream
begins_data : (room : Bool) (r : Result Packet PacketFault) (u : Option ℕ) (begun : List Bool) → universe_read r ≡ Some u → room && begins_read r begun ≡ true → (d : Data) × (r ≡ Ok (DataPacket d)) × (Some d.universe ≡ u)
begins_data true (Ok (DataPacket d)) u begun e b = (d, refl, same_Some _ _ e)
begins_data true (Ok (PagePacket p)) u begun e b = absurd (cc)
begins_data true (Ok SyncPacket) u begun e b = absurd (cc)
begins_data true (Err fault) u begun e b = absurd (cc)
begins_data false r u begun e b = absurd (cc)

pub copy_told : (octets : List ℕ) (u : Option ℕ) (begun : List Bool) → IsBytes octets → universe_read (reading_packet octets) ≡ Some u → begins begun octets ≡ true → universe_read (reading_packet (opening_copy octets)) ≡ Some u
copy_told octets u begun bytes e b =
    let d = begins_data (has_room octets) (reading_packet octets) u begun e b in
    ap universe_read (copy_read octets d.0 (opening_number (get_or octets 111 0)) bytes d.1) ∙ ap Some d.2

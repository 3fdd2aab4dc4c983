-- A data packet with another universe is read as itself, but for its universe.
use Rattle.std.proofs.Common.{◌≡◌, ℕ, ◌+◌, ◌≤◌, true, false, cond, eqb, List, [], ◌∷◌, ◌++◌, length, take, drop, Option, Ok, refl, sym, ap, ◌∙◌, append_assoc, arith}
use Rattle.std.specs.Int.{w16, w32, to_be_bytes}
use Rattle.std.specs.List.{All}
use Rattle.std.proofs.Math.Seq.{drop-append-add, take-append_seam}
use Rattle.std.proofs.lemmas.List.{length-append}
use Rattle.std.proofs.lemmas.List.Elements.{All-head, All-tail}
use Rattle.sacn_packets.specs.RootText.{flags_and_length, root_head}
use Rattle.sacn_packets.specs.Data.{Data}
use Rattle.sacn_packets.specs.FramingText.{Ignored, framing_text, options}
use Rattle.sacn_packets.specs.PacketText.{ReadsData, data_text, framing}
use Rattle.sacn_packets.specs.PacketReading.{reading_packet}
use Rattle.sacn_packets.specs.Universe.{IsUniverse}
use Rattle.sacn_packets.specs.Writing.{put_at}
use Rattle.sacn_packets.specs.declared.framing.packet.Packet.TheVariants.{DataPacket}
use Rattle.sacn_packets.proofs.FramingLaws.{length_framing_text}
use Rattle.sacn_packets.proofs.Packets.{data_only}
use Rattle.sacn_replay.specs.declared.universes.Mapping.{Mapping}
use Rattle.sacn_replay.specs.Maps.{RewritingChangesTheUniverse, mapped, rewritten_by, universe_by, with_universe}

abbrev renumbered : Data → ℕ → Data
renumbered d universe = record d { universe = universe }

put_there : (xs ys old new : List ℕ) → length new ≡ length old → put_at (xs ++ (old ++ ys)) (length xs) new ≡ xs ++ (new ++ ys)
put_there xs ys old new as_long =
    let front : take (length xs) (xs ++ (old ++ ys)) ≡ xs = take-append_seam xs (old ++ ys) in
    let back : drop (length xs + length old) (xs ++ (old ++ ys)) ≡ ys = drop-append-add xs (old ++ ys) (length old) ∙ drop_old old in
    let at : drop (length xs + length new) (xs ++ (old ++ ys)) ≡ ys = ap (λ (n : ℕ). drop (length xs + n) (xs ++ (old ++ ys))) as_long ∙ back in
    (λ i. front i ++ new ++ at i) ∙ append_assoc xs new ys
  where
    drop_old : (os : List ℕ) → drop (length os) (os ++ ys) ≡ ys
    drop_old [] = refl
    drop_old (o ∷ os) = drop_old os

-- what stands before the universe, and after it
abbrev before : Data → Ignored → ℕ → List ℕ
before d i len =
    root_head 4 d.cid len
    ++ (flags_and_length (77 + length (framing d).body) ++ to_be_bytes w32 2 ++ (d.name ++ ((d.priority ∷ []) ++ to_be_bytes w16 i.synchronization ++ (d.number ∷ []) ++ (options (framing d) i ∷ []))))

abbrev behind : Data → List ℕ → List ℕ
behind d rest = (framing d).body ++ rest

length_before : (d : Data) (i : Ignored) (len : ℕ) → length d.cid ≡ 16 → length d.name ≡ 64 → length (before d i len) ≡ 113
length_before d i len cid name =
    let ends : List ℕ = (d.priority ∷ []) ++ to_be_bytes w16 i.synchronization ++ (d.number ∷ []) ++ (options (framing d) i ∷ []) in
    let more : List ℕ = flags_and_length (77 + length (framing d).body) ++ to_be_bytes w32 2 ++ (d.name ++ ends) in
    omega (arith, length-append (root_head 4 d.cid len) more, length-append d.cid more, length-append d.name ends, cid, name)

regroup : (r f v nm p s n o u b rest : List ℕ) → (r ++ ((f ++ v ++ nm ++ p ++ s ++ n ++ o ++ u) ++ b)) ++ rest ≡ (r ++ (f ++ v ++ (nm ++ (p ++ s ++ n ++ o)))) ++ (u ++ (b ++ rest))
regroup r f v nm p s n o u b rest = simp append_assoc

parted : (d : Data) (i : Ignored) (rest : List ℕ) → data_text d i ++ rest ≡ before d i (length (framing_text (framing d) i)) ++ (to_be_bytes w16 d.universe ++ behind d rest)
parted d i rest =
    regroup (root_head 4 d.cid (length (framing_text (framing d) i))) (flags_and_length (77 + length (framing d).body)) (to_be_bytes w32 2) d.name (d.priority ∷ []) (to_be_bytes w16 i.synchronization) (d.number ∷ []) (options (framing d) i ∷ []) (to_be_bytes w16 d.universe) (framing d).body rest

text_with : (d : Data) (i : Ignored) (rest : List ℕ) (universe : ℕ) → length d.cid ≡ 16 → length d.name ≡ 64 → with_universe universe (data_text d i ++ rest) ≡ data_text (renumbered d universe) i ++ rest
text_with d i rest universe cid name =
    let old : ℕ = length (framing_text (framing d) i) in
    let new : ℕ = length (framing_text (framing (renumbered d universe)) i) in
    let as_long : old ≡ new = length_framing_text (framing d) i name ∙ sym (length_framing_text (framing (renumbered d universe)) i name) in
    ap (with_universe universe) (parted d i rest)
    ∙ ap (λ (k : ℕ). put_at (before d i old ++ (to_be_bytes w16 d.universe ++ behind d rest)) k (to_be_bytes w16 universe)) (sym (length_before d i old cid name))
    ∙ put_there (before d i old) (behind d rest) (to_be_bytes w16 d.universe) (to_be_bytes w16 universe) refl
    ∙ ap (λ (n : ℕ). before d i n ++ (to_be_bytes w16 universe ++ behind d rest)) as_long
    ∙ sym (parted (renumbered d universe) i rest)

-- a data packet has room for a universe
pub has_room : (octets : List ℕ) (d : Data) → ReadsData octets d → 115 ≤ length octets
has_room octets d r =
    let old : ℕ = length (framing_text (framing d) r.ignored) in
    let front : List ℕ = before d r.ignored old in
    let tail : List ℕ = behind d r.rest in
    let whole : length octets ≡ length (front ++ (to_be_bytes w16 d.universe ++ tail)) = ap length (r.begins ∙ parted d r.ignored r.rest) in
    omega (arith, whole, length-append front (to_be_bytes w16 d.universe ++ tail), length_before d r.ignored old r.is_data.cid r.is_data.name)

renumbered_read : (octets : List ℕ) (d : Data) (universe : ℕ) → IsUniverse universe → ReadsData octets d → reading_packet (with_universe universe octets) ≡ Ok (DataPacket (renumbered d universe))
renumbered_read octets d universe is r =
    data_only (with_universe universe octets) (renumbered d universe) (record {
      is_data = record { cid = r.is_data.cid; name = r.is_data.name; priority = r.is_data.priority; universe = is; slots = r.is_data.slots };
      ignored = r.ignored;
      is_ignored = r.is_ignored;
      rest = r.rest;
      begins = ap (with_universe universe) r.begins ∙ text_with d r.ignored r.rest universe r.is_data.cid r.is_data.name;
    })

-- a universe goes out under a universe's number
pub mapped_range : (ps : List Mapping) (universe : ℕ) → All (λ (p : Mapping). IsUniverse p.to) ps → IsUniverse universe → IsUniverse (mapped ps universe)
mapped_range [] universe all is = is
mapped_range (p ∷ ps) universe all is = elim (eqb p.from universe) as (λ b. IsUniverse (cond b p.to (mapped ps universe))) [
  | true ↦ All-head (λ (p : Mapping). IsUniverse p.to) p ps all
  | false ↦ mapped_range ps universe (All-tail (λ (p : Mapping). IsUniverse p.to) p ps all) is
]

pub changes_universe : RewritingChangesTheUniverse
changes_universe ps octets d all r =
    ap (λ (o : Option ℕ). reading_packet (rewritten_by ps o octets)) (ap universe_by (data_only octets d r))
    ∙ renumbered_read octets d (mapped ps d.universe) (mapped_range ps d.universe all r.is_data.universe) r

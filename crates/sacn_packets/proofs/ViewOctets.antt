-- What the octets of a packet show is what was read of them.
use Rattle.std.proofs.Common.{◌≡◌, ℕ, ◌+◌, ◌-◌, ◌≤◌, ◌%◌, List, length, drop, Result, Ok, refl, sym, ap, ◌∙◌, arith}
use Rattle.std.proofs.lemmas.Bool.{leb-true, eqb-true}
use Rattle.std.proofs.lemmas.List.{length-take, length-drop}
use Rattle.sacn_packets.specs.declared.root.fault.PacketFault.{PacketFault}
use Rattle.sacn_packets.specs.Results.{◌>>=◌}
use Rattle.sacn_packets.specs.Octets.{number16_at, length_of}
use Rattle.sacn_packets.specs.RootText.{Root, ReadsRoot}
use Rattle.sacn_packets.specs.RootReading.{root_checks, root_at}
use Rattle.sacn_packets.proofs.CheckLists.{all_passed}
use Rattle.sacn_packets.proofs.RootLayer.{root_only}
use Rattle.sacn_packets.specs.DmpText.{Dmp}
use Rattle.sacn_packets.specs.DmpReading.{reading_dmp, dmp_checks, dmp_at}
use Rattle.sacn_packets.specs.Data.{Data}
use Rattle.sacn_packets.specs.FramingText.{Framing}
use Rattle.sacn_packets.specs.declared.framing.packet.Packet.TheVariants.{DataPacket}
use Rattle.sacn_packets.specs.PacketReading.{reading_data}
use Rattle.sacn_packets.specs.FramingReading.{reading_framing, framing_checks, framing_at}
use Rattle.sacn_packets.specs.PageText.{PageLayer}
use Rattle.sacn_packets.specs.PageReading.{reading_page, page_checks, page_at}
use Rattle.sacn_packets.specs.DataLayers.{data_of, data_in, IsLaidOut}
use Rattle.sacn_packets.specs.PageLayers.{page_of, page_in, IsPageLaidOut}

-- the root PDU is there whole, and the body is the rest of it
record IsWhole (octets : List ℕ) (root : Root) : Type 0 where
  same : root_at octets ≡ root
  whole : 16 + length_of octets 16 ≤ length octets
  size : length root.body + 38 ≡ 16 + length_of octets 16

whole_root : (octets : List ℕ) (root : Root) → ReadsRoot octets root → IsWhole octets root
whole_root octets root reads =
    let h = all_passed (root_checks octets) (root_at octets) root (root_only octets root reads) in
    let least : 22 ≤ length_of octets 16 = leb-true 22 (length_of octets 16) h.0.1.1.1.1.1.1.1.1.0 in
    let whole : 16 + length_of octets 16 ≤ length octets = leb-true (16 + length_of octets 16) (length octets) h.0.1.1.1.1.1.1.1.1.1.0 in
    record {
      same = h.1;
      whole = whole;
      size = omega (arith, ap (λ (r : Root). length r.body) h.1, length-take (16 + length_of octets 16 - 38) (drop 38 octets), length-drop 38 octets, whole, least);
    }

data_shown : (octets : List ℕ) (root : Root) (f : Framing) (dmp : Dmp) → ReadsRoot octets root → reading_framing root.body ≡ Ok f → reading_dmp f.body ≡ Ok dmp → data_of root f dmp ≡ data_in octets
data_shown octets root f dmp reads in_framing in_dmp =
    let same : root_at octets ≡ root = (whole_root octets root reads).same in
    let inner : framing_at root.body ≡ f = (all_passed (framing_checks root.body) (framing_at root.body) f in_framing).1 in
    let innermost : dmp_at f.body ≡ dmp = (all_passed (dmp_checks f.body) (dmp_at f.body) dmp in_dmp).1 in
    rw (← innermost, ← inner, ← same) refl

pub data_laid_out : (octets : List ℕ) (root : Root) (f : Framing) (dmp : Dmp) → ReadsRoot octets root → reading_framing root.body ≡ Ok f → reading_dmp f.body ≡ Ok dmp → IsLaidOut octets
data_laid_out octets root f dmp reads in_framing in_dmp =
    let outer = whole_root octets root reads in
    let g = all_passed (framing_checks root.body) (framing_at root.body) f in_framing in
    let h = all_passed (dmp_checks f.body) (dmp_at f.body) dmp in_dmp in
    let room : 77 ≤ length root.body = leb-true 77 (length root.body) g.0.1.1.1.0 in
    let body : length f.body ≡ length root.body - 77 = sym (ap (λ (x : Framing). length x.body) g.1) ∙ length-drop 77 root.body in
    let some : 1 ≤ number16_at f.body 8 = leb-true 1 (number16_at f.body 8) h.0.1.1.1.1.1.1.1.1.0 in
    let count : number16_at f.body 8 + 10 ≡ length f.body = eqb-true (number16_at f.body 8 + 10) (length f.body) h.0.1.1.1.1.1.1.1.1.1.1.0 in
    record { least = omega (arith, outer.size, room, body, some, count); whole = outer.whole }

pub page_shown : (octets : List ℕ) (root : Root) (layer : PageLayer) → ReadsRoot octets root → reading_page root.body ≡ Ok layer → page_of root layer ≡ page_in octets
page_shown octets root layer reads in_page =
    let same : root_at octets ≡ root = (whole_root octets root reads).same in
    let inner : page_at root.body ≡ layer = (all_passed (page_checks root.body) (page_at root.body) layer in_page).1 in
    rw (← inner, ← same) refl

pub page_laid_out : (octets : List ℕ) (root : Root) (layer : PageLayer) → ReadsRoot octets root → reading_page root.body ≡ Ok layer → IsPageLaidOut octets
page_laid_out octets root layer reads in_page =
    let outer = whole_root octets root reads in
    let h = all_passed (page_checks root.body) (page_at root.body) layer in_page in
    let least : 82 ≤ length root.body = leb-true 82 (length root.body) h.0.0 in
    let said : length_of root.body 74 + 74 ≡ length root.body = eqb-true (length_of root.body 74 + 74) (length root.body) h.0.1.1.0 in
    let even : length_of root.body 74 % 2 ≡ 0 = eqb-true (length_of root.body 74 % 2) 0 h.0.1.1.1.0 in
    record { least = omega (arith, outer.size, least); whole = outer.whole; even = omega (arith, outer.size, said, even) }

pub data_is : (octets : List ℕ) (root : Root) (f : Framing) (dmp : Dmp) → ReadsRoot octets root → reading_framing root.body ≡ Ok f → reading_dmp f.body ≡ Ok dmp → reading_data root ≡ Ok (DataPacket (data_in octets))
unfolding reading_data
data_is octets root f dmp reads in_framing in_dmp =
    ap (λ (x : Result Framing PacketFault). x >>= λ g. reading_dmp g.body >>= λ d. Ok (DataPacket (data_of root g d))) in_framing
    ∙ ap (λ (x : Result Dmp PacketFault). x >>= λ d. Ok (DataPacket (data_of root f d))) in_dmp
    ∙ ap (λ (d : Data). Ok (DataPacket d)) (data_shown octets root f dmp reads in_framing in_dmp)

-- What the checks of a packet's layers answer alone, and what is then read of the packet.
use Rattle.std.proofs.Common.{◌≡◌, ℕ, Bool, false, cond, eqb, List, [], ◌∷◌, drop, Result, Ok, Err, sym, ap, subst, inl, inr, ◌∙◌}
use Rattle.sacn_packets.specs.declared.root.fault.PacketFault.{PacketFault}
use Rattle.sacn_packets.specs.Results.{◌>>=◌}
use Rattle.sacn_packets.specs.Check.{Check, checked}
use Rattle.sacn_packets.specs.RootText.{Root, ReadsRoot}
use Rattle.sacn_packets.proofs.CheckLists.{all_passed, checked_is, either}
use Rattle.sacn_packets.proofs.Pieces.{IsBytes}
use Rattle.sacn_packets.proofs.RootLayer.{root_only, body_bytes}
use Rattle.sacn_packets.specs.DmpText.{Dmp}
use Rattle.sacn_packets.specs.DmpReading.{checking_dmp, reading_dmp, dmp_checks, dmp_at}
use Rattle.sacn_packets.specs.Page.{Page, IsPage}
use Rattle.sacn_packets.specs.FramingText.{Framing}
use Rattle.sacn_packets.specs.FramingReading.{reading_body, reading_framing, framing_checks, framing_at}
use Rattle.sacn_packets.specs.PageText.{PageLayer}
use Rattle.sacn_packets.specs.PageReading.{checking_page, reading_page, reading_extended_vector, page_checks, page_at}
use Rattle.sacn_packets.specs.DataLayers.{data_of, data_in, IsLaidOut}
use Rattle.sacn_packets.specs.PageLayers.{page_of, page_in, IsPageLaidOut}
use Rattle.sacn_packets.specs.declared.framing.packet.Packet.TheVariants.{DataPacket, PagePacket, SyncPacket}
use Rattle.sacn_packets.specs.PacketReading.{reading_data, reading_extended}
use Rattle.sacn_packets.proofs.PageLaws.{layer_is}
use Rattle.sacn_packets.proofs.ViewOctets.{data_laid_out, data_is, page_shown, page_laid_out}

-- the checks alone decide whether and how a layer is refused
refused : {A B : Type 0} (checks : List Check) (x : A) (y : B) (fault : PacketFault) → checked checks x ≡ Err fault → checked checks y ≡ Err fault
refused [] x y fault e = absurd cc
refused (c ∷ checks) x y fault e =
    elim (either c.passes (checked checks x) (Err c.fault) (Err fault) e) [
      | inl passes ↦ rw passes.0 (refused checks x y fault passes.1)
      | inr fails ↦ rw fails.0 cc
    ]

framing_passed : (octets body : List ℕ) → Ok body ≡ reading_body octets → (reading_framing octets ≡ Ok (framing_at octets)) × (drop 77 octets ≡ body)
framing_passed octets body e =
    let h = all_passed (framing_checks octets) (drop 77 octets) body (sym e) in
    (checked_is (framing_checks octets) (framing_at octets) h.0, h.1)

pub framing_refused : (root : Root) (fault : PacketFault) → Err fault ≡ reading_body root.body → Err fault ≡ reading_data root
unfolding reading_data
framing_refused root fault e =
    sym (ap (λ (x : Result Framing PacketFault). x >>= λ g. reading_dmp g.body >>= λ d. Ok (DataPacket (data_of root g d)))
    (refused (framing_checks root.body) (drop 77 root.body) (framing_at root.body) fault (sym e)))

pub dmp_refused : (root : Root) (body : List ℕ) (fault : PacketFault) → Ok body ≡ reading_body root.body → Err fault ≡ checking_dmp body → Err fault ≡ reading_data root
unfolding reading_data
dmp_refused root body fault whole e =
    let framing = framing_passed root.body body whole in
    let inner : checking_dmp (drop 77 root.body) ≡ Err fault = ap checking_dmp framing.1 ∙ sym e in
    sym (ap (λ (x : Result Framing PacketFault). x >>= λ g. reading_dmp g.body >>= λ d. Ok (DataPacket (data_of root g d))) framing.0
    ∙ ap (λ (x : Result Dmp PacketFault). x >>= λ d. Ok (DataPacket (data_of root (framing_at root.body) d)))
    (refused (dmp_checks (drop 77 root.body)) tt (dmp_at (drop 77 root.body)) fault inner))

pub data_passed : (octets : List ℕ) (root : Root) (body : List ℕ) → ReadsRoot octets root → Ok body ≡ reading_body root.body → Ok tt ≡ checking_dmp body → (reading_data root ≡ Ok (DataPacket (data_in octets))) × IsLaidOut octets
data_passed octets root body reads whole e =
    let framing = framing_passed root.body body whole in
    let inner : checking_dmp (drop 77 root.body) ≡ Ok tt = ap checking_dmp framing.1 ∙ sym e in
    let dmp : reading_dmp (drop 77 root.body) ≡ Ok (dmp_at (drop 77 root.body)) =
    checked_is (dmp_checks (drop 77 root.body)) (dmp_at (drop 77 root.body)) (all_passed (dmp_checks (drop 77 root.body)) tt tt inner).0 in (
      data_is octets root (framing_at root.body) (dmp_at (drop 77 root.body)) reads framing.0 dmp,
      data_laid_out octets root (framing_at root.body) (dmp_at (drop 77 root.body)) reads framing.0 dmp,
    )

after_vector : (root : Root) (vector : ℕ) → Ok vector ≡ reading_extended_vector root.body → eqb vector 1 ≡ false → reading_extended root ≡ (reading_page root.body >>= λ q. Ok (PagePacket (page_of root q)))
unfolding reading_extended
after_vector root vector in_vector other =
    ap (λ (x : Result ℕ PacketFault). x >>= λ v. cond (eqb v 1) (Ok SyncPacket) (reading_page root.body >>= λ q. Ok (PagePacket (page_of root q)))) (sym in_vector)
    ∙ ap (λ (b : Bool). cond b (Ok SyncPacket) (reading_page root.body >>= λ q. Ok (PagePacket (page_of root q)))) other

pub page_refused : (root : Root) (vector : ℕ) (fault : PacketFault) → Ok vector ≡ reading_extended_vector root.body → eqb vector 1 ≡ false → Err fault ≡ checking_page root.body → Err fault ≡ reading_extended root
page_refused root vector fault in_vector other e =
    sym (after_vector root vector in_vector other
    ∙ ap (λ (x : Result PageLayer PacketFault). x >>= λ q. Ok (PagePacket (page_of root q))) (refused (page_checks root.body) tt (page_at root.body) fault (sym e)))

page_whole : (octets : List ℕ) → Ok tt ≡ checking_page octets → reading_page octets ≡ Ok (page_at octets)
page_whole octets e = checked_is (page_checks octets) (page_at octets) (all_passed (page_checks octets) tt tt (sym e)).0

pub page_passed : (octets : List ℕ) (root : Root) (vector : ℕ) → ReadsRoot octets root → Ok vector ≡ reading_extended_vector root.body → eqb vector 1 ≡ false → Ok tt ≡ checking_page root.body → reading_extended root ≡ Ok (PagePacket (page_in octets))
page_passed octets root vector reads in_vector other e =
    after_vector root vector in_vector other
    ∙ ap (λ (x : Result PageLayer PacketFault). x >>= λ q. Ok (PagePacket (page_of root q))) (page_whole root.body e)
    ∙ ap (λ (p : Page). Ok (PagePacket p)) (page_shown octets root (page_at root.body) reads (page_whole root.body e))

pub page_is_shown : (octets : List ℕ) (root : Root) → IsBytes octets → ReadsRoot octets root → Ok tt ≡ checking_page root.body → IsPage (page_in octets) × IsPageLaidOut octets
page_is_shown octets root fits reads e =
    let whole = page_whole root.body e in
    let is = (layer_is root.body (body_bytes octets root fits (root_only octets root reads)) (all_passed (page_checks root.body) tt tt (sym e)).0).0 in
    let read : IsPage (page_of root (page_at root.body)) = record { cid = reads.is_root.cid; name = is.name; page = is.page; count = is.count; numbers = is.numbers } in
    (subst (λ (p : Page). IsPage p) (page_shown octets root (page_at root.body) reads whole) read, page_laid_out octets root (page_at root.body) reads whole)

-- How often a source had two addresses at once is a number of the list of its packets.
use Rattle.std.proofs.Common.{◌≡◌, ℕ, ◌-◌, not, ◌&&◌, List, [], ◌∷◌, Option, Some, None, max, nat_le, refl, ap, ◌∙◌, arith}
use Rattle.std.specs.Str.{bytes_eq}
use Rattle.sacn_audit.specs.Breaches.{breach_by, no_breach, noted_if}
use Rattle.sacn_audit.specs.declared.source.SourceAudit.{SourceAudit}
use Rattle.sacn_audit.specs.Networks.{is_elsewhere}
use Rattle.sacn_audit.specs.NetworkHistories.{Heard, SendersAreOfTheirPackets, SentData, SentPage, SourcePacket, has_two_senders, moment_after, source_by, source_with, source_with_packet, two_senders_at}
use Rattle.sacn_audit.proofs.Noting.{noted_by}

itself : (t : ℕ) → t ≡ max t 0
itself t = omega arith

-- ---- one packet or page more, whichever it is

module _ (t : ℕ) (address : List ℕ) where
  first_moment : (p : SourcePacket) → (source_with_packet t address p None).moment ≡ max t 0
  first_moment (SentData d) = itself t
  first_moment (SentPage p) = itself t

  next_moment : (p : SourcePacket) (s : SourceAudit) → (source_with_packet t address p (Some s)).moment ≡ max t s.moment
  next_moment (SentData d) s = refl
  next_moment (SentPage p) s = refl

  address_with : (p : SourcePacket) (o : Option SourceAudit) → (source_with_packet t address p o).address ≡ address
  address_with (SentData d) None = refl
  address_with (SentData d) (Some s) = refl
  address_with (SentPage p) None = refl
  address_with (SentPage p) (Some s) = refl

  first_senders : (p : SourcePacket) → (source_with_packet t address p None).two_senders ≡ no_breach
  first_senders (SentData d) = refl
  first_senders (SentPage p) = refl

  next_senders : (p : SourcePacket) (s : SourceAudit) → (source_with_packet t address p (Some s)).two_senders ≡ noted_if (is_elsewhere (max t s.moment) address s) (max t s.moment) s.two_senders
  next_senders (SentData d) s = refl
  next_senders (SentPage p) s = refl

-- ---- over a list of them

pub moment_is : (x : Heard) (earlier : List Heard) → (source_with x (source_by earlier)).moment ≡ moment_after (x ∷ earlier)
moment_is x [] = first_moment x.moment x.address x.packet
moment_is x (y ∷ earlier) = next_moment x.moment x.address x.packet (source_with y (source_by earlier)) ∙ ap (max x.moment) (moment_is y earlier)

address_is : (x : Heard) (earlier : List Heard) → (source_with x (source_by earlier)).address ≡ x.address
address_is x earlier = address_with x.moment x.address x.packet (source_by earlier)

senders_are : (x : Heard) (earlier : List Heard) → (source_with x (source_by earlier)).two_senders ≡ breach_by (two_senders_at (x ∷ earlier))
senders_are x [] = first_senders x.moment x.address x.packet
senders_are x (y ∷ earlier) =
    let s = source_with y (source_by earlier) in
    let t : ℕ = moment_after (x ∷ y ∷ earlier) in
    next_senders x.moment x.address x.packet s
    ∙ ap (λ (m : ℕ). noted_if (not (bytes_eq s.address x.address) && nat_le (max x.moment m - m) 2500) (max x.moment m) s.two_senders) (moment_is y earlier)
    ∙ ap (λ (address : List ℕ). noted_if (not (bytes_eq address x.address) && nat_le (t - moment_after (y ∷ earlier)) 2500) t s.two_senders) (address_is y earlier)
    ∙ ap (noted_if (has_two_senders (x ∷ y ∷ earlier)) t) (senders_are y earlier)
    ∙ noted_by (has_two_senders (x ∷ y ∷ earlier)) t (two_senders_at (y ∷ earlier))

pub senders_are_of_their_packets : SendersAreOfTheirPackets
senders_are_of_their_packets [] = refl
senders_are_of_their_packets (x ∷ earlier) = senders_are x earlier

-- What is kept of a sender and a check that its datagrams fail is what these alone give, whatever else came.
use Rattle.std.proofs.Common.{◌≡◌, ℕ, ◌&&◌, ◌==◌, cond, Bool, true, false, List, [], ◌∷◌, Option, Some, None, inl, refl, sym, ap, subst, ◌∙◌}
use Rattle.std.specs.Prelude.{position}
use Rattle.std.specs.Str.{bytes_eq}
use Rattle.std.proofs.lemmas.Bool.{eqb-true}
use Rattle.std.proofs.lemmas.Slice.Eq.{bytes_eq-Decides}
use Rattle.sacn_packets.specs.declared.root.fault.PacketFault.{PacketFault}
use Rattle.sacn_packets.specs.PacketFaults.{fault_number}
use Rattle.sacn_audit.specs.declared.breach.Breach.{Breach}
use Rattle.sacn_audit.specs.declared.refused.RefusedPackets.{RefusedPackets}
use Rattle.sacn_audit.specs.Breaches.{no_breach, noted}
use Rattle.sacn_audit.specs.Refusals.{Refused, RefusalsAreOfTheirPackets, breach_at, first_refused, is_alike, is_of_pair, place_refused, refused_after, refused_again, refused_at, refused_by}
use Rattle.sacn_audit.proofs.Noting.{noted_by}
use Rattle.sacn_audit.proofs.Tracking.{Tracks, tracks_other, tracks_own}

both : (a b : Bool) → a && b ≡ true → (a ≡ true) × (b ≡ true)
both true b e = (refl, e)
both false b e = absurd cc

abbrev breach : RefusedPackets → Breach
breach r = r.breach

-- what a datagram more makes of what was kept
abbrev noted_with : ℕ → Option Breach → Breach
noted_with t None = noted t no_breach
noted_with t (Some b) = noted t b

one_more : (t : ℕ) (ms : List ℕ) → Some (noted_with t (breach_at ms)) ≡ breach_at (t ∷ ms)
one_more t [] = refl
one_more t (m ∷ ms) = ap (λ (b : Breach). Some b) (noted_by true t (m ∷ ms))

module _ (address : List ℕ) (fault : PacketFault) where
  abbrev q : RefusedPackets → Bool
  q r = is_alike address fault r

  abbrev Keeps : List RefusedPackets → Option Breach → Type 0
  Keeps rs o = Tracks 256 breach q rs o

  -- what is kept of the datagram's sender and fault is ours exactly where the datagram is
  like : (x : Refused) (r : RefusedPackets) → is_alike x.address x.fault r ≡ true → q r ≡ is_of_pair address fault x
  like x r e =
      let parts = both (bytes_eq r.address x.address) (fault_number r.fault == fault_number x.fault) e in
      ap (λ (a : List ℕ). bytes_eq a address && (fault_number r.fault == fault_number fault)) ((bytes_eq-Decides r.address x.address).0 parts.0)
      ∙ ap (λ (n : ℕ). bytes_eq x.address address && (n == fault_number fault)) (eqb-true (fault_number r.fault) (fault_number x.fault) parts.1)

  -- a datagram of ours looks for our place
  looks : (x : Refused) (rs : List RefusedPackets) → is_of_pair address fault x ≡ true → position q rs ≡ place_refused x.address x.fault rs
  looks x rs e =
      let parts = both (bytes_eq x.address address) (fault_number x.fault == fault_number fault) e in
      sym (
      ap (λ (a : List ℕ). position (λ (r : RefusedPackets). bytes_eq r.address a && (fault_number r.fault == fault_number x.fault)) rs) ((bytes_eq-Decides x.address address).0 parts.0)
      ∙ ap (λ (n : ℕ). position (λ (r : RefusedPackets). bytes_eq r.address address && (fault_number r.fault == n)) rs) (eqb-true (fault_number x.fault) (fault_number fault) parts.1)
      )

  module _ (x : Refused) (rs : List RefusedPackets) (ms : List ℕ) (keeps : Keeps rs (breach_at ms)) where
    heard_by : (k : Bool) → is_of_pair address fault x ≡ k → Keeps (refused_after x.moment x.address x.fault rs) (breach_at (cond k (x.moment ∷ ms) ms))
    heard_by true e =
        subst (λ (o : Option Breach). Keeps (refused_after x.moment x.address x.fault rs) o) (one_more x.moment ms)
        (tracks_own 256 breach q (refused_again x.moment) (first_refused x.moment x.address x.fault) (λ r. refl) rs (breach_at ms) (noted_with x.moment) e (λ r. refl) refl (place_refused x.address x.fault rs) (looks x rs e) keeps)
    heard_by false e = tracks_other 256 breach q (refused_again x.moment) (first_refused x.moment x.address x.fault) (λ r. refl) rs (breach_at ms) (is_alike x.address x.fault) (λ r h. like x r h ∙ e) e (place_refused x.address x.fault rs) refl keeps

pub refusals_are_of_their_packets : RefusalsAreOfTheirPackets
refusals_are_of_their_packets [] address fault = inl refl
refusals_are_of_their_packets (x ∷ earlier) address fault = heard_by address fault x (refused_by earlier) (refused_at address fault earlier) (refusals_are_of_their_packets earlier address fault) (is_of_pair address fault x) refl

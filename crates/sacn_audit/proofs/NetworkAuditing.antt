-- The audit of a stream, and that of a source, is the one that its own packets give, whatever else came.
use Rattle.std.proofs.Common.{◌≡◌, ℕ, inl, ◌&&◌, ◌==◌, cond, Bool, true, false, List, [], ◌∷◌, ◌++◌, Option, Some, refl, sym, ap, subst, ◌∙◌}
use Rattle.std.specs.Prelude.{position}
use Rattle.std.specs.Str.{bytes_eq}
use Rattle.std.proofs.lemmas.Bool.{eqb-true}
use Rattle.std.proofs.lemmas.Slice.Eq.{bytes_eq-Decides}
use Rattle.sacn_packets.specs.Data.{Data}
use Rattle.sacn_packets.specs.Page.{Page}
use Rattle.sacn_audit.specs.declared.delivery.Delivery.{Delivery}
use Rattle.sacn_audit.specs.declared.audit.StreamAudit.{StreamAudit}
use Rattle.sacn_audit.specs.declared.source.SourceAudit.{SourceAudit}
use Rattle.sacn_audit.specs.declared.stream_register.AuditedStream.{AuditedStream}
use Rattle.sacn_audit.specs.Arrivals.{Arrival}
use Rattle.sacn_audit.specs.Histories.{audit_by, audit_with}
use Rattle.sacn_audit.specs.declared.page_verdict.PageVerdict.{PageVerdict}
use Rattle.sacn_audit.specs.Networks.{Network, first_heard, first_source, first_stream, is_from, is_of, place_from, place_of, source_after, source_after_page, sources_after, sources_after_page, stream_after, streams_after}
use Rattle.sacn_audit.specs.NetworkHistories.{AuditsAreOfTheirPackets, Heard, SentData, SentPage, SourcePacket, SourcesAreOfTheirPackets, after_all, arrival_of, arrivals, by_itself, is_on, packets_from, sender_of, source_by, source_with_packet, with_packet}
use Rattle.sacn_audit.specs.UniverseLists.{verdict_of}
use Rattle.sacn_audit.proofs.Tracking.{Tracks, tracks_other, tracks_own}

both : (a b : Bool) → a && b ≡ true → (a ≡ true) × (b ≡ true)
both true b e = (refl, e)
both false b e = absurd cc

-- ---- a stream

module _ (universe : ℕ) (cid : List ℕ) where
  abbrev q : AuditedStream → Bool
  q s = is_of universe cid s

  abbrev Follows : List AuditedStream → Option StreamAudit → Type 0
  Follows ss o = Tracks 1024 (λ (s : AuditedStream). s.audit) q ss o

  -- a stream of the packet's source and universe is ours exactly where the packet is
  like : (d : Data) (s : AuditedStream) → is_of d.universe d.cid s ≡ true → q s ≡ is_on universe cid d
  like d s e =
      let parts = both (s.universe == d.universe) (bytes_eq s.cid d.cid) e in
      ap (λ (u : ℕ). (u == universe) && bytes_eq s.cid cid) (eqb-true s.universe d.universe parts.0)
      ∙ ap (λ (c : List ℕ). (d.universe == universe) && bytes_eq c cid) ((bytes_eq-Decides s.cid d.cid).0 parts.1)

  -- a packet of ours looks for our stream
  looks : (d : Data) (ss : List AuditedStream) → is_on universe cid d ≡ true → position q ss ≡ place_of d.universe d.cid ss
  looks d ss e =
      let parts = both (d.universe == universe) (bytes_eq d.cid cid) e in
      sym (
      ap (λ (u : ℕ). position (is_of u d.cid) ss) (eqb-true d.universe universe parts.0)
      ∙ ap (λ (c : List ℕ). position (is_of universe c) ss) ((bytes_eq-Decides d.cid cid).0 parts.1)
      )

  module _ (t : ℕ) (delivery : Delivery) (d : Data) (ss : List AuditedStream) (xs : List Arrival) (follows : Follows ss (audit_by xs)) where
    abbrev a : Arrival
    a = record { moment = t; delivery = delivery; packet = d }

    heard_by : (k : Bool) → is_on universe cid d ≡ k → Follows (streams_after t delivery d ss) (audit_by (cond k (a ∷ []) [] ++ xs))
    heard_by true e = tracks_own 1024 (λ (s : AuditedStream). s.audit) q (stream_after t delivery d) (first_stream t delivery d) (λ s. refl) ss (audit_by xs) (audit_with a) e (λ s. refl) refl (place_of d.universe d.cid ss) (looks d ss e) follows
    heard_by false e = tracks_other 1024 (λ (s : AuditedStream). s.audit) q (stream_after t delivery d) (first_stream t delivery d) (λ s. refl) ss (audit_by xs) (is_of d.universe d.cid) (λ s h. like d s h ∙ e) e (place_of d.universe d.cid ss) refl follows

  followed : (t : ℕ) (address : List ℕ) (delivery : Delivery) (p : SourcePacket) (n : Network) (xs : List Arrival) → Follows n.streams (audit_by xs) → Follows (with_packet t address delivery p n).streams (audit_by (arrival_of universe cid t delivery p ++ xs))
  followed t address delivery (SentData d) n xs follows = heard_by t delivery d n.streams xs follows (is_on universe cid d) refl
  followed t address delivery (SentPage p) n xs follows = follows

pub audits_are_of_their_packets : AuditsAreOfTheirPackets
audits_are_of_their_packets [] universe cid = inl refl
audits_are_of_their_packets (x ∷ earlier) universe cid = followed universe cid x.moment x.address x.delivery x.packet (after_all earlier) (arrivals universe cid earlier) (audits_are_of_their_packets earlier universe cid)

-- ---- a source

module _ (cid : List ℕ) where
  abbrev Keeps : List SourceAudit → Option SourceAudit → Type 0
  Keeps ss o = Tracks 1024 by_itself (is_from cid) ss o

  looks_from : (sender : List ℕ) (ss : List SourceAudit) → bytes_eq sender cid ≡ true → position (is_from cid) ss ≡ place_from sender ss
  looks_from sender ss e = sym (ap (λ (c : List ℕ). position (is_from c) ss) ((bytes_eq-Decides sender cid).0 e))

  like_from : (sender : List ℕ) (s : SourceAudit) → is_from sender s ≡ true → is_from cid s ≡ bytes_eq sender cid
  like_from sender s e = ap (λ (c : List ℕ). bytes_eq c cid) ((bytes_eq-Decides s.cid sender).0 e)

  module _ (t : ℕ) (address : List ℕ) (ss : List SourceAudit) (xs : List Heard) (keeps : Keeps ss (source_by xs)) where
    packet_from : (d : Data) (k : Bool) → bytes_eq d.cid cid ≡ k → Keeps (sources_after t address d ss) (cond k (Some (source_with_packet t address (SentData d) (source_by xs))) (source_by xs))
    packet_from d true e = tracks_own 1024 by_itself (is_from cid) (source_after t address d) (first_source t address d) (λ s. refl) ss (source_by xs) (source_with_packet t address (SentData d)) e (λ s. refl) refl (place_from d.cid ss) (looks_from d.cid ss e) keeps
    packet_from d false e = tracks_other 1024 by_itself (is_from cid) (source_after t address d) (first_source t address d) (λ s. refl) ss (source_by xs) (is_from d.cid) (λ s h. like_from d.cid s h ∙ e) e (place_from d.cid ss) refl keeps

    page_from : (p : Page) (v : PageVerdict) (k : Bool) → bytes_eq p.cid cid ≡ k → Keeps (sources_after_page t address p v ss) (cond k (Some (source_with_packet t address (SentPage p) (source_by xs))) (source_by xs))
    page_from p v true e = tracks_own 1024 by_itself (is_from cid) (source_after_page t address p v) (first_heard t address p.cid p.name) (λ s. refl) ss (source_by xs) (source_with_packet t address (SentPage p)) e (λ s. refl) refl (place_from p.cid ss) (looks_from p.cid ss e) keeps
    page_from p v false e = tracks_other 1024 by_itself (is_from cid) (source_after_page t address p v) (first_heard t address p.cid p.name) (λ s. refl) ss (source_by xs) (is_from p.cid) (λ s h. like_from p.cid s h ∙ e) e (place_from p.cid ss) refl keeps

  kept_with : (t : ℕ) (address : List ℕ) (delivery : Delivery) (p : SourcePacket) (n : Network) (xs : List Heard) → Keeps n.sources (source_by xs) → Keeps (with_packet t address delivery p n).sources (cond (bytes_eq (sender_of p) cid) (Some (source_with_packet t address p (source_by xs))) (source_by xs))
  kept_with t address delivery (SentData d) n xs keeps = packet_from t address n.sources xs keeps d (bytes_eq d.cid cid) refl
  kept_with t address delivery (SentPage p) n xs keeps = page_from t address n.sources xs keeps p (verdict_of t p n.untracked n.streams) (bytes_eq p.cid cid) refl

  joined : (x : Heard) (xs : List Heard) (k : Bool) → cond k (Some (source_with_packet x.moment x.address x.packet (source_by xs))) (source_by xs) ≡ source_by (cond k (x ∷ xs) xs)
  joined x xs true = refl
  joined x xs false = refl

  kept_from : (xs : List Heard) → Keeps (after_all xs).sources (source_by (packets_from cid xs))
  kept_from [] = inl refl
  kept_from (x ∷ earlier) =
      let xs = packets_from cid earlier in
      subst (Keeps (after_all (x ∷ earlier)).sources) (joined x xs (bytes_eq (sender_of x.packet) cid)) (kept_with x.moment x.address x.delivery x.packet (after_all earlier) xs (kept_from earlier))

pub sources_are_of_their_packets : SourcesAreOfTheirPackets
sources_are_of_their_packets xs cid = kept_from cid xs

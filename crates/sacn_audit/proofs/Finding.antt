-- A stream that a hint led to is the one that a look at all finds, and so is a source; and one more has a key of its own.
use Rattle.std.proofs.Common.{◌≡◌, ℕ, ◌<◌, Bool, true, false, ◌&&◌, ◌==◌, List, [], ◌∷◌, ◌++◌, length, get_or, slice_set, Some, None, refl, sym, ap, ◌∙◌}
use Rattle.std.specs.List.{position}
use Rattle.std.specs.Str.{bytes_eq}
use Rattle.std.proofs.lemmas.Bool.{eqb-true}
use Rattle.std.proofs.lemmas.List.{get_or_read}
use Rattle.std.proofs.lemmas.Slice.Eq.{bytes_eq-Decides}
use Rattle.sacn_audit.specs.declared.source.SourceAudit.{SourceAudit}
use Rattle.sacn_audit.specs.declared.stream_register.AuditedStream.{AuditedStream}
use Rattle.sacn_audit.specs.Networks.{AreApart, AreDistinct, is_from, is_of}
use Rattle.sacn_audit.proofs.Keys.{admitted_apart, changed_apart, found_first}

both : (a b : Bool) → a && b ≡ true → (a ≡ true) × (b ≡ true)
both true b e = (refl, e)
both false b e = absurd cc

-- ---- streams

abbrev same : AuditedStream → AuditedStream → Bool
same later earlier = is_of later.universe later.cid earlier

same_stream : (universe : ℕ) (cid : List ℕ) (s : AuditedStream) → is_of universe cid s ≡ true → (x : AuditedStream) → is_of universe cid x ≡ same s x
same_stream universe cid s e x =
    let parts = both (s.universe == universe) (bytes_eq s.cid cid) e in
    sym (
    ap (λ (u : ℕ). is_of u s.cid x) (eqb-true s.universe universe parts.0)
    ∙ ap (λ (c : List ℕ). is_of universe c x) ((bytes_eq-Decides s.cid cid).0 parts.1)
    )

pub stream_found : (universe : ℕ) (cid : List ℕ) (place : ℕ) (s : AuditedStream) (ss : List AuditedStream) → AreDistinct ss → place < length ss → s ≡ get_or ss place s → is_of universe cid s ≡ true → position (is_of universe cid) ss ≡ Some place
stream_found universe cid place s ss distinct low here e = found_first same (is_of universe cid) ss place s distinct low here e (same_stream universe cid s e)

pub stream_admitted : (ss after : List AuditedStream) (s : AuditedStream) → AreDistinct ss → position (is_of s.universe s.cid) ss ≡ None → after ≡ ss ++ s ∷ [] → AreDistinct after
stream_admitted ss after s distinct unknown e = admitted_apart same ss after s distinct unknown e

-- x, at this place, becomes s
pub stream_kept : (ss : List AuditedStream) (at : ℕ) (x s : AuditedStream) → AreDistinct ss → at < length ss → x ≡ get_or ss at x → s.universe ≡ x.universe → s.cid ≡ x.cid → AreDistinct (slice_set ss at s)
stream_kept ss at x s distinct low here universe cid = changed_apart same ss at s distinct low
    (λ y d. rw (universe, cid, ← get_or_read ss at x low here d) refl)
    (λ y d. rw (universe, cid, ← get_or_read ss at x low here d) refl)

-- ---- sources

abbrev alike : SourceAudit → SourceAudit → Bool
alike later earlier = is_from later.cid earlier

same_source : (cid : List ℕ) (s : SourceAudit) → is_from cid s ≡ true → (x : SourceAudit) → is_from cid x ≡ alike s x
same_source cid s e x = sym (ap (λ (c : List ℕ). is_from c x) ((bytes_eq-Decides s.cid cid).0 e))

pub source_found : (cid : List ℕ) (place : ℕ) (s : SourceAudit) (ss : List SourceAudit) → AreApart ss → place < length ss → s ≡ get_or ss place s → is_from cid s ≡ true → position (is_from cid) ss ≡ Some place
source_found cid place s ss apart low here e = found_first alike (is_from cid) ss place s apart low here e (same_source cid s e)

pub source_admitted : (ss after : List SourceAudit) (s : SourceAudit) → AreApart ss → position (is_from s.cid) ss ≡ None → after ≡ ss ++ s ∷ [] → AreApart after
source_admitted ss after s apart unknown e = admitted_apart alike ss after s apart unknown e

-- How often a source sends no list of its universes for more than 12 s is a number of the list of its packets and
-- pages.
use Rattle.std.proofs.Common.{◌≡◌, ℕ, ◌-◌, Bool, true, not, ◌&&◌, ◌||◌, cond, List, [], ◌∷◌, Some, None, max, nat_lt}
use Rattle.std.proofs.Common.{refl, sym, ap, ◌∙◌, arith}
use Rattle.sacn_audit.specs.declared.breach.Breach.{Breach}
use Rattle.sacn_audit.specs.declared.source.SourceAudit.{SourceAudit}
use Rattle.sacn_audit.specs.Breaches.{breach_by, no_breach, noted_if}
use Rattle.sacn_audit.specs.NetworkHistories.{Heard, SentData, SentPage, SourcePacket, moment_after}
use Rattle.sacn_audit.specs.NetworkHistories.{source_by, source_with, source_with_packet}
use Rattle.sacn_audit.specs.ListHistories.{MissingListsAreOfTheirPackets, is_list_late, is_page, list_awaited}
use Rattle.sacn_audit.specs.ListHistories.{misses_list, no_list_at}
use Rattle.sacn_audit.proofs.Noting.{noted_by}
use Rattle.sacn_audit.proofs.Senders.{moment_is}

none : (t : ℕ) → t - t ≡ 0
none t = omega arith

none_yet : (t : ℕ) → max t 0 - t ≡ 0
none_yet t = omega arith

-- ---- one packet or page more, whichever it is

module _ (t : ℕ) (address : List ℕ) where
  first_awaited : (p : SourcePacket) → (source_with_packet t address p None).pages.awaited ≡ t
  first_awaited (SentData d) = refl
  first_awaited (SentPage p) = refl

  first_none : (p : SourcePacket) → (source_with_packet t address p None).pages.no_list ≡ no_breach
  first_none (SentData d) = refl
  first_none (SentPage p) = refl

  module _ (s : SourceAudit) where
    next_awaited : (p : SourcePacket) →
        (source_with_packet t address p (Some s)).pages.awaited
        ≡ cond (is_page p || nat_lt 2500 (max t s.moment - s.moment)) (max t s.moment) s.pages.awaited
    next_awaited (SentData d) = refl
    next_awaited (SentPage p) = refl

    abbrev late_now : SourcePacket → Bool
    late_now p = nat_lt 12000 (max t s.moment - (source_with_packet t address p (Some s)).pages.awaited)

    abbrev late_before : Bool
    late_before = nat_lt 12000 (s.moment - s.pages.awaited)

    by_page : (before : Bool) →
        s.pages.no_list
        ≡ noted_if (nat_lt 12000 (max t s.moment - max t s.moment) && not before) (max t s.moment) s.pages.no_list
    by_page before =
        sym (
        ap (λ (n : ℕ). noted_if (nat_lt 12000 n && not before) (max t s.moment) s.pages.no_list) (none (max t s.moment))
        )

    next_none : (p : SourcePacket) →
        (source_with_packet t address p (Some s)).pages.no_list
        ≡ noted_if (late_now p && not late_before) (max t s.moment) s.pages.no_list
    next_none (SentData d) = refl
    next_none (SentPage p) = by_page late_before

-- ---- over a list of them

awaited_is : (x : Heard) (earlier : List Heard) →
    (source_with x (source_by earlier)).pages.awaited ≡ list_awaited (x ∷ earlier)
awaited_is x [] = first_awaited x.moment x.address x.packet
awaited_is x (y ∷ earlier) =
    let s = source_with y (source_by earlier) in
    let t : ℕ = moment_after (x ∷ y ∷ earlier) in
    let before : ℕ = moment_after (y ∷ earlier) in
    next_awaited x.moment x.address s x.packet
    ∙ ap (λ (m : ℕ). cond (is_page x.packet || nat_lt 2500 (max x.moment m - m)) (max x.moment m) s.pages.awaited)
    (moment_is y earlier)
    ∙ ap (λ (since : ℕ). cond (is_page x.packet || nat_lt 2500 (t - before)) t since) (awaited_is y earlier)

-- a list that is awaited since one moment, after another packet at `before`, when one was awaited since another moment
abbrev told : Breach → ℕ → ℕ → ℕ → ℕ → Breach
told b t since before awaited = noted_if (nat_lt 12000 (t - since) && not (nat_lt 12000 (before - awaited))) t b

none_first : (x : Heard) → no_breach ≡ breach_by (no_list_at (x ∷ []))
none_first x =
    sym (ap (λ (n : ℕ). breach_by (cond (nat_lt 12000 n && true) (moment_after (x ∷ []) ∷ []) [])) (none_yet x.moment))

lists_are : (x : Heard) (earlier : List Heard) →
    (source_with x (source_by earlier)).pages.no_list ≡ breach_by (no_list_at (x ∷ earlier))
lists_are x [] = first_none x.moment x.address x.packet ∙ none_first x
lists_are x (y ∷ earlier) =
    let s = source_with y (source_by earlier) in
    let t : ℕ = moment_after (x ∷ y ∷ earlier) in
    let before : ℕ = moment_after (y ∷ earlier) in
    let now : ℕ = (source_with x (Some s)).pages.awaited in
    next_none x.moment x.address s x.packet
    ∙ ap (λ (m : ℕ). told s.pages.no_list (max x.moment m) now m s.pages.awaited) (moment_is y earlier)
    ∙ ap (λ (since : ℕ). told s.pages.no_list t since before s.pages.awaited) (awaited_is x (y ∷ earlier))
    ∙ ap (λ (since : ℕ). told s.pages.no_list t (list_awaited (x ∷ y ∷ earlier)) before since) (awaited_is y earlier)
    ∙ ap (noted_if (misses_list (x ∷ y ∷ earlier)) t) (lists_are y earlier)
    ∙ noted_by (misses_list (x ∷ y ∷ earlier)) t (no_list_at (y ∷ earlier))

pub missing_lists_are_of_their_packets : MissingListsAreOfTheirPackets
missing_lists_are_of_their_packets [] = refl
missing_lists_are_of_their_packets (x ∷ earlier) = lists_are x earlier

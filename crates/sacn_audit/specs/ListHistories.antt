-- How long a source sends no list of its universes (E1.31, 4.3 and 8), over its packets and pages: a list of them, the
-- latest first.
use Rattle.std.specs.Prelude.{◌≡◌, ℕ, ◌-◌, nat_lt, Bool, true, false, not, ◌&&◌, ◌||◌, List, [], ◌∷◌, Option, Some, None}
use Rattle.std.specs.Prelude.{if◌then◌else◌}
use Rattle.sacn_sources.specs.declared.limits.TheConstants.{NETWORK_DATA_LOSS}
use Rattle.sacn_audit.specs.declared.breach.Breach.{Breach}
use Rattle.sacn_audit.specs.declared.source.SourceAudit.{SourceAudit}
use Rattle.sacn_audit.specs.Breaches.{breach_by, no_breach}
use Rattle.sacn_audit.specs.NetworkHistories.{Heard, SourcePacket, SentData, SentPage, moment_after, source_by}

abbrev pub is_page : SourcePacket → Bool
is_page (SentData d) = false
is_page (SentPage p) = true

-- the source awaits a list since the latest page, or since it came back from more than 2500 ms of silence, or since it
-- first came
abbrev pub list_awaited : List Heard → ℕ
list_awaited [] = 0
list_awaited (x ∷ []) = x.moment
list_awaited (x ∷ y ∷ earlier) =
    if is_page x.packet || nat_lt NETWORK_DATA_LOSS (moment_after (x ∷ y ∷ earlier) - moment_after (y ∷ earlier))
    then moment_after (x ∷ y ∷ earlier) else list_awaited (y ∷ earlier)

-- for more than 12 s
abbrev pub is_list_late : List Heard → Bool
is_list_late xs = nat_lt 12000 (moment_after xs - list_awaited xs)

-- the latest is the first by which it is
abbrev pub misses_list : List Heard → Bool
misses_list [] = false
misses_list (x ∷ earlier) = is_list_late (x ∷ earlier) && not (is_list_late earlier)

-- the moments at which that was so, the latest first
abbrev pub no_list_at : List Heard → List ℕ
no_list_at [] = []
no_list_at (x ∷ earlier) =
    if misses_list (x ∷ earlier) then moment_after (x ∷ earlier) ∷ no_list_at earlier else no_list_at earlier

abbrev pub no_list_in : Option SourceAudit → Breach
no_list_in None = no_breach
no_list_in (Some s) = s.pages.no_list

-- For any packets and pages of a source its audit says how often no list of universes came for more than 12 s, the first
-- and the latest moment at which that was so.
abbrev pub MissingListsAreOfTheirPackets : Type 0
MissingListsAreOfTheirPackets = (xs : List Heard) → no_list_in (source_by xs) ≡ breach_by (no_list_at xs)

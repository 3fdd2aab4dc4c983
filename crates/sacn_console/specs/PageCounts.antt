-- Which discovery page comes next, by counting the pages that were given. The deeds have the latest first.
use Rattle.std.specs.Prelude.{◌≡◌, ℕ, ◌+◌, ◌-◌, ◌==◌, nat_lt, nat_le, if◌then◌else◌, List, [], ◌∷◌, length, Option, Some, None}
use Rattle.sacn_discovery.specs.Pages.{page_count}
use Rattle.sacn_console.specs.declared.limits.TheConstants.{DISCOVERY_INTERVAL}
use Rattle.sacn_console.specs.Lines.{Page, Packet, Paged, Deed, Accepted, Gave}
use Rattle.sacn_console.specs.Core.{page_by}
use Rattle.sacn_console.specs.Due.{Life, standing_by, list_by, cycle_by}
use Rattle.sacn_console.specs.Runs.{Call, deeds_after}

-- how many pages were given since the first one of the latest cycle, it among them
abbrev pub pages_given : List Deed → ℕ
pages_given [] = 0
pages_given (Gave t (Paged p) ∷ ds) = if p.page == 0 then 1 else pages_given ds + 1
pages_given (Gave t (Packet d) ∷ ds) = pages_given ds
pages_given (Accepted t k ∷ ds) = pages_given ds

-- when the first page of the latest cycle was given
abbrev pub cycle_start : List Deed → Option ℕ
cycle_start [] = None
cycle_start (Gave t (Paged p) ∷ ds) = if p.page == 0 then Some t else cycle_start ds
cycle_start (Gave t (Packet d) ∷ ds) = cycle_start ds
cycle_start (Accepted t k ∷ ds) = cycle_start ds

-- the page at t after so many of a cycle that began then: as long as its list has more, the one with that number;
-- else the first one of a new cycle, ten seconds after the first one of the latest
abbrev pub page_counted : ℕ → List ℕ → List ℕ → Option ℕ → ℕ → Option Page
page_counted t all listed None given = Some (record { list = all; page = 0 })
page_counted t all listed (Some began) given =
    if nat_lt given (page_count (length listed)) then Some (record { list = listed; page = given })
    else (if nat_le DISCOVERY_INTERVAL (t - began) then Some (record { list = all; page = 0 }) else None)

-- the page that comes next where no packet does, after these deeds
abbrev pub next_page : Life → ℕ → List Deed → Option Page
next_page life t ds = page_by t (standing_by life.universes ds) (list_by life.universes ds) (cycle_by ds)

-- After any list of calls, the number of the page that comes next is how many were given since the latest cycle's first one.
abbrev pub PagesAreCounted : Type 0
PagesAreCounted = (life : Life) (calls : List Call) (t : ℕ) →
    next_page life t (deeds_after life 0 [] calls) ≡ page_counted t (standing_by life.universes (deeds_after life 0 [] calls)) (list_by life.universes (deeds_after life 0 [] calls)) (cycle_start (deeds_after life 0 [] calls)) (pages_given (deeds_after life 0 [] calls))

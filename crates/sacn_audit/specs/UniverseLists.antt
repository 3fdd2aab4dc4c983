-- A source's list of universes (E1.31, 8), which it sends in pages: when one is missing, and what one says beside the streams
-- that are heard.
use Rattle.std.specs.Prelude.{ℕ, ◌-◌, nat_le, nat_lt, Bool, not, ◌&&◌, ◌||◌, ◌==◌, List, length, slice_index}
use Rattle.std.specs.Prelude.{if◌then◌else◌}
use Rattle.std.specs.List.{list_any}
use Rattle.std.specs.Str.{bytes_eq}
use Rattle.sacn_packets.specs.Page.{Page}
use Rattle.sacn_sources.specs.declared.limits.TheConstants.{NETWORK_DATA_LOSS}
use Rattle.sacn_audit.specs.declared.page_habits.PageHabits.{PageHabits}
use Rattle.sacn_audit.specs.declared.page_verdict.PageVerdict.{PageVerdict}
use Rattle.sacn_audit.specs.declared.stream_register.AuditedStream.{AuditedStream}
use Rattle.sacn_audit.specs.Breaches.{no_breach, noted_if}

-- ---- a page

-- it tells of universes from its first number on, the first page from 1 on
abbrev pub begins_by : ℕ → Page → Bool
begins_by universe p = (p.page == 0) || (nat_lt 0 (length p.numbers) && nat_le (slice_index p.numbers 0) universe)

-- up to its last number, the last page up to 63999
abbrev pub reaches : ℕ → Page → Bool
reaches universe p =
    (p.page == p.last)
    || (nat_lt 0 (length p.numbers) && nat_le universe (slice_index p.numbers (length p.numbers - 1)))

-- it has this number
abbrev pub lists : ℕ → Page → Bool
lists universe p = list_any (λ number. number == universe) p.numbers

-- it tells of this universe, and doesn't have it
abbrev pub leaves_universe_out : ℕ → Page → Bool
leaves_universe_out universe p = begins_by universe p && reaches universe p && not (lists universe p)

-- ---- beside the streams that are heard

-- at t this source has sent the stream for more than 10 s, the latest packet at most 2500 ms before, and that doesn't
-- end it
abbrev pub is_sent : ℕ → List ℕ → AuditedStream → Bool
is_sent t cid s =
    bytes_eq s.cid cid
    && nat_lt 10000 (t - s.began)
    && nat_le (t - s.audit.moment) NETWORK_DATA_LOSS
    && not s.audit.latest.terminated

abbrev pub is_left_out : ℕ → Page → AuditedStream → Bool
is_left_out t p s = is_sent t p.cid s && leaves_universe_out s.universe p

-- the page leaves out a universe that its source sends
abbrev pub lacks_universe : ℕ → Page → List AuditedStream → Bool
lacks_universe t p ss = list_any (is_left_out t p) ss

-- at t a packet of this source on this universe was heard at most 12 s before
abbrev pub is_heard : ℕ → List ℕ → ℕ → AuditedStream → Bool
is_heard t cid universe s = (s.universe == universe) && bytes_eq s.cid cid && nat_le (t - s.audit.moment) 12000

-- the page has a universe on which its source wasn't heard
abbrev pub has_unheard : ℕ → Page → List AuditedStream → Bool
has_unheard t p ss = list_any (λ number. not (list_any (is_heard t p.cid number) ss)) p.numbers

-- both, where no stream went untracked: else nothing is said
abbrev pub verdict_of : ℕ → Page → ℕ → List AuditedStream → PageVerdict
verdict_of t p untracked ss = record {
  lacks_universe = (untracked == 0) && lacks_universe t p ss;
  has_unheard = (untracked == 0) && has_unheard t p ss;
}

-- ---- what is kept of a source's pages; t is the moment of what is heard, `before` that of the packet or page before it

abbrev pub first_pages : ℕ → PageHabits
first_pages t = record { began = t; awaited = t; no_list = no_breach; lacking = no_breach; unheard = no_breach }

-- the source is heard since this moment: after more than 12 s with neither packets nor pages it begins anew
abbrev pub heard_since : ℕ → ℕ → PageHabits → ℕ
heard_since t before h = if nat_lt 12000 (t - before) then t else h.began

-- a list is awaited since this moment: a source that was lost begins anew (E1.31, 6.7.1)
abbrev pub awaited_since : ℕ → ℕ → PageHabits → ℕ
awaited_since t before h = if nat_lt NETWORK_DATA_LOSS (t - before) then t else h.awaited

-- more than 12 s without a list
abbrev pub is_without_list : ℕ → ℕ → Bool
is_without_list t awaited = nat_lt 12000 (t - awaited)

-- a data packet: the first one that comes so late
abbrev pub pages_beside : ℕ → ℕ → PageHabits → PageHabits
pages_beside t before h = record h {
  began = heard_since t before h;
  awaited = awaited_since t before h;
  no_list =
      noted_if (is_without_list t (awaited_since t before h) && not (is_without_list before h.awaited)) t h.no_list;
}

-- a page. Which universes are heard is known of a source that is heard for more than 12 s.
abbrev pub pages_after : ℕ → ℕ → PageVerdict → PageHabits → PageHabits
pages_after t before v h = record {
  began = heard_since t before h;
  awaited = t;
  no_list = h.no_list;
  lacking = noted_if v.lacks_universe t h.lacking;
  unheard = noted_if (v.has_unheard && nat_lt 12000 (t - heard_since t before h)) t h.unheard;
}

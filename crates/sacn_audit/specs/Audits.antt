-- What a packet changes in the audit of its stream.
use Rattle.std.specs.Prelude.{ℕ, ◌+◌, ◌-◌, min, max, nat_lt, Bool, false, not, ◌&&◌, ◌==◌, List, Option, Some, None, if◌then◌else◌}
use Rattle.std.specs.List.{before_first, list_any}
use Rattle.std.specs.Str.{bytes_eq, is_utf8}
use Rattle.sacn_packets.specs.Data.{Data}
use Rattle.sacn_audit.specs.declared.delivery.Delivery.{Delivery}
use Rattle.sacn_audit.specs.declared.sight.Sight.{Sight}
use Rattle.sacn_audit.specs.declared.pace.Pace.{Pace}
use Rattle.sacn_audit.specs.declared.number_habits.NumberHabits.{NumberHabits}
use Rattle.sacn_audit.specs.declared.breach.Breaches.{Breaches}
use Rattle.sacn_audit.specs.declared.audit.StreamAudit.{StreamAudit}
use Rattle.sacn_audit.specs.Arrivals.{number_after, second_of}
use Rattle.sacn_audit.specs.Groups.{is_other_group}
use Rattle.sacn_audit.specs.Options.{has_reserved_bits}
use Rattle.sacn_audit.specs.Rules.{is_late}
use Rattle.sacn_audit.specs.Breaches.{no_breaches, noted_if}

-- of a packet, and of what came with it
abbrev pub sight_of : Delivery → Data → Sight
sight_of delivery d = record {
  number = d.number;
  terminated = d.terminated;
  start = d.start;
  is_name_ended = list_any (λ octet. octet == 0) d.name;
  is_name_text = is_utf8 (before_first (λ octet. octet == 0) d.name);
  is_to_other_group = is_other_group delivery.destination d.universe;
  has_reserved_bits = has_reserved_bits delivery.options;
}

abbrev pub is_after : Sight → Sight → Bool
is_after earlier s = s.number == number_after earlier.number

-- ---- how fast

abbrev pub first_pace : ℕ → Pace
first_pace t = record { second = second_of t; count = 1; follows_many = false }

-- a packet more at t
abbrev pub pace_after : ℕ → Pace → Pace
pace_after t p =
    if second_of t == p.second
    then record p { count = min (p.count + 1) 46 }
    else record { second = second_of t; count = 1; follows_many = (second_of t == p.second + 1) && nat_lt 44 p.count }

abbrev pub is_too_fast : Pace → Bool
is_too_fast p = p.follows_many && (p.count == 45)

-- ---- by which numbers

abbrev pub first_habits : NumberHabits
first_habits = record { left_out = 0; turns = 0; same = 1 }

-- a number passes over the one before it alone
abbrev pub passes_over : ℕ → ℕ → Bool
passes_over held arrived = arrived == number_after (number_after held)

abbrev pub left_out_after : ℕ → ℕ → NumberHabits → ℕ
left_out_after held arrived n = if passes_over held arrived then number_after held else n.left_out

abbrev pub turns_after : ℕ → ℕ → NumberHabits → ℕ
turns_after held arrived n =
    if passes_over held arrived then (if number_after held == n.left_out then min (n.turns + 1) 3 else 1)
    else if (arrived == number_after held) && not (arrived == n.left_out) then n.turns else 0

abbrev pub same_after : ℕ → ℕ → NumberHabits → ℕ
same_after held arrived n = if arrived == held then min (n.same + 1) 4 else 1

-- a packet more, of the number that arrived, after one of that held
abbrev pub habits_after : ℕ → ℕ → NumberHabits → NumberHabits
habits_after held arrived n = record { left_out = left_out_after held arrived n; turns = turns_after held arrived n; same = same_after held arrived n }

-- ---- how many in a row

abbrev pub ends_after : Bool → ℕ → ℕ
ends_after terminated n = if terminated then min (n + 1) 3 else 0

abbrev pub is_short : ℕ → Bool
is_short n = nat_lt 0 n && nat_lt n 3

-- the packets so far with levels that have changed: none where that wasn't seen, or where three have them
abbrev pub copies_after : Bool → Bool → ℕ → ℕ
copies_after goes_on is_same n = if goes_on && not is_same then 1 else (if (goes_on && is_same) && (n == 1) then 2 else 0)

-- ---- what a packet that is seen at t breaks

abbrev pub carries_on : Sight → Sight → Bool
carries_on earlier s = is_after earlier s && not earlier.terminated && (earlier.start == 0) && (s.start == 0)

-- nothing was lost between the latest packet and this one, and the stream hadn't ended
abbrev pub is_continued : Sight → StreamAudit → Bool
is_continued s a = is_after a.latest s && not a.latest.terminated

abbrev pub is_silent : ℕ → Sight → StreamAudit → Bool
is_silent t s a = is_continued s a && (s.start == 0) && is_late t a.levels

abbrev pub is_short_change : ℕ → Sight → StreamAudit → Bool
is_short_change t s a = is_continued s a && nat_lt 500 (t - a.moment) && nat_lt 0 a.copies

abbrev pub is_close_end : ℕ → Sight → StreamAudit → Bool
is_close_end t s a = s.terminated && a.latest.terminated && nat_lt (t - a.moment) 20

abbrev pub leaves_out : Sight → StreamAudit → Bool
leaves_out s a = passes_over a.latest.number s.number && (a.habits.turns == 3)

-- by itself, whatever came before
abbrev pub judged_alone : ℕ → Sight → Breaches → Breaches
judged_alone t s b = record b {
  name_not_ended = noted_if (not s.is_name_ended) t b.name_not_ended;
  name_not_text = noted_if (not s.is_name_text) t b.name_not_text;
  reserved_bits = noted_if s.has_reserved_bits t b.reserved_bits;
  other_group = noted_if s.is_to_other_group t b.other_group;
  other_start = noted_if (not (s.start == 0) && not (s.start == 221)) t b.other_start;
}

-- where the pace and the habits count it already
abbrev pub judged : ℕ → Sight → StreamAudit → Breaches
judged t s a = record (judged_alone t s a.breaches) {
  too_fast = noted_if (is_too_fast a.pace) t a.breaches.too_fast;
  silent = noted_if (is_silent t s a) t a.breaches.silent;
  short_change = noted_if (is_short_change t s a) t a.breaches.short_change;
  short_end = noted_if (not s.terminated && is_short a.ends) t a.breaches.short_end;
  close_ends = noted_if (is_close_end t s a) t a.breaches.close_ends;
  number_stays = noted_if (a.habits.same == 4) t a.breaches.number_stays;
  number_left_out = noted_if (leaves_out s a) t a.breaches.number_left_out;
}

-- ---- packets in turn

abbrev pub first_audit : ℕ → Delivery → Data → StreamAudit
first_audit t delivery d = record {
  moment = t;
  latest = sight_of delivery d;
  content = d.slots;
  levels = if d.start == 0 then Some t else None;
  pace = first_pace t;
  habits = first_habits;
  ends = ends_after d.terminated 0;
  copies = 0;
  breaches = judged_alone t (sight_of delivery d) no_breaches;
}

-- the moment of the latest levels, where nothing was lost since
abbrev pub levels_after : ℕ → Sight → StreamAudit → Option ℕ
levels_after t s a = if s.start == 0 then Some t else if is_continued s a then a.levels else None

-- the pace and the habits count a packet
abbrev pub counted : ℕ → Sight → StreamAudit → StreamAudit
counted t s a = record a { pace = pace_after t a.pace; habits = habits_after a.latest.number s.number a.habits }

abbrev pub after_at : ℕ → Delivery → Data → StreamAudit → StreamAudit
after_at t delivery d a = record {
  moment = t;
  latest = sight_of delivery d;
  content = d.slots;
  levels = levels_after t (sight_of delivery d) a;
  pace = pace_after t a.pace;
  habits = habits_after a.latest.number d.number a.habits;
  ends = ends_after d.terminated a.ends;
  copies = copies_after (carries_on a.latest (sight_of delivery d)) (bytes_eq a.content d.slots) a.copies;
  breaches = judged t (sight_of delivery d) (counted t (sight_of delivery d) a);
}

abbrev pub after_packet : ℕ → Delivery → Data → StreamAudit → StreamAudit
after_packet t delivery d a = after_at (max t a.moment) delivery d a

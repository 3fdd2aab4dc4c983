-- What is known of one source on one universe, and what a packet changes in it.
use Rattle.std.specs.Prelude.{◌≡◌, ℕ, pos, ◌-◌, ◌*◌, ◌%◌, ◌^◌, max, nat_lt, int_lt, Bool, true, false, not, nat_le, List, length, replicate, ◌&&◌, ◌||◌, ◌==◌, Option, Some, None, if◌then◌else◌}
use Rattle.std.specs.Str.{bytes_eq}
use Rattle.std.specs.List.{before_first}
use Rattle.sacn_packets.specs.Naming.{padded}
use Rattle.sacn_packets.specs.Data.{Data}
use Rattle.sacn_sources.specs.Sequence.{step, is_late}
use Rattle.sacn_sources.specs.Packets.{kind_of}
use Rattle.sacn_sources.specs.declared.kind.Kind.TheVariants.{Live}
use Rattle.sacn_sources.specs.declared.limits.TheConstants.{NETWORK_DATA_LOSS}
use Rattle.sacn_monitor.specs.declared.account.Account.{Account}
use Rattle.sacn_monitor.specs.declared.account.Endpoint.{Endpoint}
use Rattle.sacn_monitor.specs.declared.news.StreamEvent.{StreamEvent}
use Rattle.sacn_monitor.specs.declared.news.StreamEvent.TheVariants.{GoesOn, Appeared, CameBack, Ended, OutOfSequence, Repeated}
use Rattle.sacn_monitor.specs.declared.news.Change.{Change}
use Rattle.sacn_monitor.specs.declared.news.News.{News}
use Rattle.sacn_monitor.specs.declared.holding.Holding.TheVariants.{Nothing, Levels}
use Rattle.sacn_monitor.specs.Holdings.{begins_holding, held_after, is_relit}
use Rattle.sacn_monitor.specs.Kinds.{more, no_packets, with_one_more}
use Rattle.sacn_monitor.specs.Rates.{first_rate, rate_after}
use Rattle.sacn_monitor.specs.declared.numbering.Numbering.{Numbering}
use Rattle.sacn_monitor.specs.declared.numbering.NumberNews.{NumberNews}
use Rattle.sacn_monitor.specs.declared.numbering.TheConstants.{OPENING_STEP}
use Rattle.sacn_monitor.specs.Numberings.{ahead_of, digit, first_numbering, further, goes_back, is_left_out, is_missing, is_settled, lost_in, numbering_after, omission_in}

-- a name's octets, and NUL to the end of its field
abbrev pub fitted : List ℕ → List ℕ
fitted name = if nat_le (length name) 64 then padded name else replicate 64 0

abbrev pub name_of : Data → List ℕ
name_of d = fitted (before_first (λ octet. octet == 0) d.name)

-- a field as it is kept: what is read from it, fitted, is the field again
pub record IsFitted (field : List ℕ) : Type 0 where
  pub again : fitted (before_first (λ octet. octet == 0) field) ≡ field

abbrev pub same_sender : Endpoint → Endpoint → Bool
same_sender a b = bytes_eq a.address b.address && (a.port == b.port)

-- at t the latest taken packet still counts
abbrev pub is_fresh : ℕ → Account → Bool
is_fresh t a = nat_lt (t - a.latest) NETWORK_DATA_LOSS

-- at t a packet is out of sequence, and a node holds nothing anew by it
abbrev pub is_discarded : ℕ → Data → Account → Bool
is_discarded t d a = is_fresh t a && (is_late a.sequence_number d.number && not (begins_holding t (kind_of d) a.holding))

-- a packet that is taken at t is the first of a stream: the one before was lost, or had ended
abbrev pub begins_life : ℕ → Bool → Account → Bool
begins_life t terminated a = not (is_fresh t a) || (a.ended && not terminated)

-- it doesn't go on from the number before: that was lost, or ended a stream and lies so far behind that another one more likely begins its numbers
abbrev pub begins_apart : ℕ → Bool → ℕ → Account → Bool
begins_apart t terminated arrived a = not (is_fresh t a) || ((a.ended && not terminated) && nat_le OPENING_STEP (ahead_of a.sequence_number arrived))

-- the packets that were lost before one that is taken at t
abbrev pub lost_at : ℕ → Bool → ℕ → Account → ℕ
lost_at t terminated arrived a = if begins_apart t terminated arrived a then 0 else lost_in a.sequence_number arrived a.numbering

-- what is missing behind one that is taken at t: nothing where its number doesn't go on from the one before
abbrev pub missing_at : ℕ → Bool → ℕ → Account → ℕ
missing_at t terminated arrived a =
    if begins_apart t terminated arrived a || goes_back a.sequence_number arrived then 0
    else further (nat_lt 0 (lost_at t terminated arrived a)) (ahead_of a.sequence_number arrived) a.missing

-- how the source numbers its packets, as far as one that is taken tells
abbrev pub numbering_at : Bool → ℕ → Account → Numbering
numbering_at begins arrived a = if begins then first_numbering else numbering_after a.sequence_number arrived a.numbering

-- the sender began its numbers anew
abbrev pub begins_anew : ℕ → ℕ → Account → Bool
begins_anew t arrived a = is_fresh t a && int_lt (step a.sequence_number arrived) (pos 0)

-- a packet that is taken at t has the next number of a stream that goes on, and this step tells nothing of how its sender numbers
abbrev pub is_next : ℕ → ℕ → Account → Bool
is_next t arrived a = (ahead_of a.sequence_number arrived == 1) && is_settled arrived a.numbering && not a.ended && is_fresh t a

-- what the number of a packet that is taken at t tells
abbrev pub number_news : ℕ → Bool → ℕ → Account → NumberNews
number_news t terminated arrived a = record {
  skipped = lost_at t terminated arrived a;
  began_anew = begins_anew t arrived a;
  leaves_out = omission_in a.numbering (numbering_at (begins_life t terminated a) arrived a);
}

-- and how the source numbers its packets from then on
abbrev pub renumbered : ℕ → Bool → ℕ → Account → Account
renumbered t terminated arrived a = record a { numbering = numbering_at (begins_life t terminated a) arrived a }

-- ---- a packet after others

-- a number that was counted as lost, and comes late after all
abbrev pub is_found : ℕ → Account → Bool
is_found arrived a = is_missing (ahead_of arrived a.sequence_number) a.missing && not (is_left_out arrived a.numbering)

-- it isn't lost
abbrev pub after_found : ℕ → Account → Account
after_found arrived a =
    if is_found arrived a
    then record a { skipped = a.skipped - 1; missing = a.missing - digit (ahead_of arrived a.sequence_number) }
    else a

abbrev pub after_late : ℕ → Account → Account
after_late arrived a = after_found arrived (record a { late = more 1 a.late })

abbrev pub after_discarded : ℕ → Account → Account
after_discarded arrived a = if arrived == a.sequence_number then record a { repeats = more 1 a.repeats } else after_late arrived a

unfoldable pub after_taken : ℕ → Endpoint → Data → Account → Account
after_taken t sender d a = record {
  sender = sender;
  name = name_of d;
  priority = d.priority;
  first = a.first;
  latest = t;
  sequence_number = d.number;
  ended = d.terminated;
  kinds = with_one_more (kind_of d) a.kinds;
  holding = held_after t (kind_of d) d.priority a.holding;
  numbering = numbering_at (begins_life t d.terminated a) d.number a;
  skipped = more (lost_at t d.terminated d.number a) a.skipped;
  missing = missing_at t d.terminated d.number a;
  late = a.late;
  repeats = a.repeats;
  greatest_gap = max a.greatest_gap (t - a.latest);
  rate = rate_after t a.rate;
}

-- one that goes on as the one before: its levels are held anew, and nothing else is new
abbrev pub after_gone_on : ℕ → ℕ → Account → Account
after_gone_on t arrived a = record a {
  latest = t;
  sequence_number = arrived;
  kinds = with_one_more Live a.kinds;
  holding = Levels t a.priority;
  skipped = more 0 a.skipped;
  missing = a.missing * 2 ^ 1 % 2 ^ 32;
  greatest_gap = max a.greatest_gap (t - a.latest);
  rate = rate_after t a.rate;
}

abbrev pub after_packet : ℕ → Endpoint → Data → Account → Account
after_packet t sender d a = if is_discarded t d a then after_discarded d.number a else after_taken t sender d a

unfoldable pub first_account : ℕ → Endpoint → Data → Account
first_account t sender d = record {
  sender = sender;
  name = name_of d;
  priority = d.priority;
  first = t;
  latest = t;
  sequence_number = d.number;
  ended = d.terminated;
  kinds = with_one_more (kind_of d) no_packets;
  holding = held_after t (kind_of d) d.priority Nothing;
  numbering = first_numbering;
  skipped = 0;
  missing = 0;
  late = 0;
  repeats = 0;
  greatest_gap = 0;
  rate = first_rate t;
}

-- ---- what it tells that is new

abbrev pub quiet : StreamEvent → News
quiet event = record { event = event; skipped = 0; began_anew = false; leaves_out = None; priority = None; renamed = false; moved = false; relit = false }

abbrev pub discarded_event : ℕ → Account → StreamEvent
discarded_event arrived a = if arrived == a.sequence_number then Repeated else OutOfSequence

-- a packet was taken of it that isn't an end
abbrev pub has_begun : Account → Bool
has_begun a = nat_lt 0 a.kinds.live || nat_lt 0 a.kinds.previews || nat_lt 0 a.kinds.others

-- there is no stream of it at t: it has ended, or is lost
abbrev pub is_away : ℕ → Account → Bool
is_away t a = a.ended || not (is_fresh t a)

-- of the first packet of all, and of a further one: an end of a stream that isn't there begins nothing and ends nothing
abbrev pub first_event : Bool → StreamEvent
first_event terminated = if terminated then GoesOn else Appeared

abbrev pub taken_event : ℕ → Bool → Account → StreamEvent
taken_event t true a = if is_away t a then GoesOn else Ended
taken_event t false a = if is_away t a then (if has_begun a then CameBack else Appeared) else GoesOn

abbrev pub changed : ℕ → ℕ → Option Change
changed from to = if from == to then None else Some (record { from = from; to = to })

unfoldable pub taken_news : ℕ → Endpoint → Data → Account → News
taken_news t sender d a = record {
  event = taken_event t d.terminated a;
  skipped = lost_at t d.terminated d.number a;
  began_anew = begins_anew t d.number a;
  leaves_out = omission_in a.numbering (numbering_at (begins_life t d.terminated a) d.number a);
  priority = changed a.priority d.priority;
  renamed = not (bytes_eq a.name (name_of d));
  moved = not (same_sender a.sender sender);
  relit = is_relit a.latest t a.holding (held_after t (kind_of d) d.priority a.holding);
}

abbrev pub news_of : ℕ → Endpoint → Data → Account → News
news_of t sender d a = if is_discarded t d a then quiet (discarded_event d.number a) else taken_news t sender d a

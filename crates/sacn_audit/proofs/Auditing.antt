-- An audit is the one that the list of its packets has: each of its numbers is one of the list.
use Rattle.std.proofs.Common.{◌≡◌, ◌<◌, ◌≤◌, ℕ, ◌+◌, ◌-◌, Bool, true, false, not, ◌&&◌, ◌==◌, cond, List, [], ◌∷◌, min, max, nat_lt, refl, sym, ap, ◌∙◌, arith}
use Rattle.std.proofs.lemmas.Bool.Decides.{nat_tests}
use Rattle.sacn_audit.specs.declared.rule.Rule.{Rule}
use Rattle.sacn_audit.specs.declared.rule.Rule.TheVariants.{TooFast, Silent, ShortChange, ShortEnd, CloseEnds, NameNotEnded, NameNotText, NumberStays, NumberLeftOut, ReservedBits, OtherGroup, OtherStart}
use Rattle.sacn_audit.specs.declared.breach.Breaches.{Breaches}
use Rattle.sacn_audit.specs.declared.audit.StreamAudit.{StreamAudit}
use Rattle.sacn_audit.specs.Arrivals.{Arrival, ends, follows, in_turn, latest_levels, latest_moment, packets_in, passes_one, second_of}
use Rattle.sacn_audit.specs.Rules.{breaks, ends_close, goes_to_other_group, goes_too_fast, had_short_end, has_no_text, has_other_start, keeps_number, leaves_name_open, leaves_number_out, moments_where, had_short_change, sets_reserved_bits, was_silent}
use Rattle.sacn_audit.specs.Breaches.{breach_by, breach_of, no_breach, noted_if}
use Rattle.sacn_audit.specs.Audits.{after_at, after_packet, counted, first_audit, is_short, is_too_fast, judged, sight_of}
use Rattle.sacn_audit.specs.Histories.{BreachesAreOfTheirPackets, ShortEndsAreOfTheirPackets, audit_by, audit_with}
use Rattle.sacn_audit.proofs.Noting.{noted_by}
use Rattle.sacn_audit.proofs.Pacing.{first_paced, first_slow, in_order, none_later, pace_of, paced, too_many}
use Rattle.sacn_audit.proofs.Counting.{counted_more, first_counted, first_stays_not, leaves, habits_of, stays}
use Rattle.sacn_audit.proofs.Running.{copies, copies_more, ends_in_turn, ends_more, some_copies}

abbrev breaches_of : List Arrival → Breaches
breaches_of xs = record {
  too_fast = breach_by (moments_where goes_too_fast xs);
  silent = breach_by (moments_where was_silent xs);
  short_change = breach_by (moments_where had_short_change xs);
  short_end = breach_by (moments_where had_short_end xs);
  close_ends = breach_by (moments_where ends_close xs);
  name_not_ended = breach_by (moments_where leaves_name_open xs);
  name_not_text = breach_by (moments_where has_no_text xs);
  number_stays = breach_by (moments_where keeps_number xs);
  number_left_out = breach_by (moments_where leaves_number_out xs);
  reserved_bits = breach_by (moments_where sets_reserved_bits xs);
  other_group = breach_by (moments_where goes_to_other_group xs);
  other_start = breach_by (moments_where has_other_start xs);
}

-- the audit of a list that is in turn
abbrev audit_of : Arrival → List Arrival → StreamAudit
audit_of x earlier = record {
  moment = x.moment;
  latest = sight_of x.delivery x.packet;
  content = x.packet.slots;
  levels = latest_levels (x ∷ earlier);
  pace = pace_of x earlier;
  habits = habits_of x earlier;
  ends = min (ends (x ∷ earlier)) 3;
  copies = copies (x ∷ earlier);
  breaches = breaches_of (x ∷ earlier);
}

-- ---- a packet more

short : (n : ℕ) → is_short (min n 3) ≡ nat_lt 0 n && nat_lt n 3
short n = grind (arith, nat_tests)

module _ (x y : Arrival) (earlier : List Arrival) where
  abbrev ys : List Arrival
  ys = y ∷ earlier

  abbrev before : StreamAudit
  before = record (audit_of y earlier) { pace = pace_of x ys; habits = habits_of x ys }

  noted : (is_broken test : Bool) (ms : List ℕ) → is_broken ≡ test → noted_if is_broken x.moment (breach_by ms) ≡ breach_by (cond test (x.moment ∷ ms) ms)
  noted is_broken test ms e = noted_by is_broken x.moment ms ∙ ap (λ (b : Bool). breach_by (cond b (x.moment ∷ ms) ms)) e

  fast : is_too_fast (pace_of x ys) ≡ goes_too_fast (x ∷ ys)
  fast = ap (λ (b : Bool). nat_lt 44 (packets_in 1 (second_of x.moment) (x ∷ ys)) && b) (too_many (packets_in 0 (second_of x.moment) (x ∷ ys)))

  short_change : follows y.packet x.packet && not y.packet.terminated && nat_lt 500 (x.moment - y.moment) && nat_lt 0 (copies ys) ≡ had_short_change (x ∷ ys)
  short_change = ap (λ (b : Bool). follows y.packet x.packet && not y.packet.terminated && nat_lt 500 (x.moment - y.moment) && b) (some_copies y earlier)

  short_end : not x.packet.terminated && is_short (min (ends ys) 3) ≡ had_short_end (x ∷ ys)
  short_end = ap (λ (b : Bool). not x.packet.terminated && b) (short (ends ys))

  judges : judged x.moment (sight_of x.delivery x.packet) before ≡ breaches_of (x ∷ ys)
  judges =
      let too_fast = noted (is_too_fast (pace_of x ys)) (goes_too_fast (x ∷ ys)) (moments_where goes_too_fast ys) fast in
      let silent = noted (was_silent (x ∷ ys)) (was_silent (x ∷ ys)) (moments_where was_silent ys) refl in
      let change = noted (follows y.packet x.packet && not y.packet.terminated && nat_lt 500 (x.moment - y.moment) && nat_lt 0 (copies ys)) (had_short_change (x ∷ ys)) (moments_where had_short_change ys) short_change in
      let end = noted (not x.packet.terminated && is_short (min (ends ys) 3)) (had_short_end (x ∷ ys)) (moments_where had_short_end ys) short_end in
      let close = noted (ends_close (x ∷ ys)) (ends_close (x ∷ ys)) (moments_where ends_close ys) refl in
      let name = noted (leaves_name_open (x ∷ ys)) (leaves_name_open (x ∷ ys)) (moments_where leaves_name_open ys) refl in
      let text = noted (has_no_text (x ∷ ys)) (has_no_text (x ∷ ys)) (moments_where has_no_text ys) refl in
      let start = noted (has_other_start (x ∷ ys)) (has_other_start (x ∷ ys)) (moments_where has_other_start ys) refl in
      let bits = noted (sets_reserved_bits (x ∷ ys)) (sets_reserved_bits (x ∷ ys)) (moments_where sets_reserved_bits ys) refl in
      let group = noted (goes_to_other_group (x ∷ ys)) (goes_to_other_group (x ∷ ys)) (moments_where goes_to_other_group ys) refl in
      let stay = noted ((habits_of x ys).same == 4) (keeps_number (x ∷ ys)) (moments_where keeps_number ys) (stays x ys) in
      let left = noted (passes_one y.packet x.packet && ((habits_of x ys).turns == 3)) (leaves_number_out (x ∷ ys)) (moments_where leaves_number_out ys) (leaves x y earlier) in
      λ i. record {
        too_fast = too_fast i;
        silent = silent i;
        short_change = change i;
        short_end = end i;
        close_ends = close i;
        name_not_ended = name i;
        name_not_text = text i;
        number_stays = stay i;
        number_left_out = left i;
        reserved_bits = bits i;
        other_group = group i;
        other_start = start i;
      }

  heard : second_of y.moment ≤ second_of x.moment → ((before second : ℕ) → second_of y.moment + before < second → packets_in before second ys ≡ 0) → after_at x.moment x.delivery x.packet (audit_of y earlier) ≡ audit_of x ys
  heard ordered later =
      let pace = paced x y earlier ordered later in
      let habits = counted_more x y earlier in
      let ends = ends_more x ys in
      let copied = copies_more x y earlier in
      let counts : counted x.moment (sight_of x.delivery x.packet) (audit_of y earlier) ≡ before = λ i. record (audit_of y earlier) { pace = pace i; habits = habits i } in
      let breaches = ap (judged x.moment (sight_of x.delivery x.packet)) counts ∙ judges in
      λ i. record {
        moment = x.moment;
        latest = sight_of x.delivery x.packet;
        content = x.packet.slots;
        levels = latest_levels (x ∷ ys);
        pace = pace i;
        habits = habits i;
        ends = ends i;
        copies = copied i;
        breaches = breaches i;
      }

-- ---- the first packet

not_both : (b : Bool) → b && false ≡ false
not_both true = refl
not_both false = refl

begins : (x : Arrival) → first_audit x.moment x.delivery x.packet ≡ audit_of x []
begins x =
    let pace = first_paced x in
    let habits = first_counted x in
    let ends = ends_more x [] in
    let fast = ap (λ (b : Bool). breach_by (cond b (x.moment ∷ []) [])) (sym (first_slow x)) in
    let end = ap (λ (b : Bool). breach_by (cond b (x.moment ∷ []) [])) (sym (not_both (not x.packet.terminated))) in
    let name = noted_by (leaves_name_open (x ∷ [])) x.moment [] in
    let text = noted_by (has_no_text (x ∷ [])) x.moment [] in
    let start = noted_by (has_other_start (x ∷ [])) x.moment [] in
    let bits = noted_by (sets_reserved_bits (x ∷ [])) x.moment [] in
    let group = noted_by (goes_to_other_group (x ∷ [])) x.moment [] in
    let stay = ap (λ (b : Bool). breach_by (cond b (x.moment ∷ []) [])) (sym (first_stays_not x)) in
    λ i. record {
      moment = x.moment;
      latest = sight_of x.delivery x.packet;
      content = x.packet.slots;
      levels = latest_levels (x ∷ []);
      pace = pace i;
      habits = habits i;
      ends = ends i;
      copies = 0;
      breaches = record {
        too_fast = fast i;
        silent = no_breach;
        short_change = no_breach;
        short_end = end i;
        close_ends = no_breach;
        name_not_ended = name i;
        name_not_text = text i;
        number_stays = stay i;
        number_left_out = no_breach;
        reserved_bits = bits i;
        other_group = group i;
        other_start = start i;
      };
    }

-- ---- packets in turn

abbrev head_of : Arrival → List Arrival → Arrival
head_of x earlier = record x { moment = latest_moment (x ∷ earlier) }

itself : (t : ℕ) → t ≡ max t 0
itself t = omega arith

is_audit_of : (x : Arrival) (earlier : List Arrival) → audit_with x (audit_by earlier) ≡ audit_of (head_of x earlier) (in_turn earlier)
is_audit_of x [] = begins x ∙ ap (λ (t : ℕ). audit_of (record x { moment = t }) []) (itself x.moment)
is_audit_of x (y ∷ earlier) =
    let ordered : second_of (latest_moment (y ∷ earlier)) ≤ second_of (latest_moment (x ∷ y ∷ earlier)) = in_order (latest_moment (y ∷ earlier)) (latest_moment (x ∷ y ∷ earlier)) (omega arith) in
    ap (after_packet x.moment x.delivery x.packet) (is_audit_of y earlier)
    ∙ heard (head_of x (y ∷ earlier)) (head_of y earlier) (in_turn earlier) ordered (none_later (y ∷ earlier))

by_rule : (rule : Rule) (xs : List Arrival) → breach_of rule (breaches_of xs) ≡ breach_by (moments_where (breaks rule) xs)
by_rule TooFast xs = refl
by_rule Silent xs = refl
by_rule ShortChange xs = refl
by_rule ShortEnd xs = refl
by_rule CloseEnds xs = refl
by_rule NameNotEnded xs = refl
by_rule NameNotText xs = refl
by_rule NumberStays xs = refl
by_rule NumberLeftOut xs = refl
by_rule ReservedBits xs = refl
by_rule OtherGroup xs = refl
by_rule OtherStart xs = refl

pub breaches_are_of_their_packets : BreachesAreOfTheirPackets
breaches_are_of_their_packets [] rule = refl
breaches_are_of_their_packets (x ∷ earlier) rule =
    ap (λ (a : StreamAudit). breach_of rule a.breaches) (is_audit_of x earlier)
    ∙ by_rule rule (in_turn (x ∷ earlier))

pub short_ends_are_of_their_packets : ShortEndsAreOfTheirPackets
short_ends_are_of_their_packets [] = refl
short_ends_are_of_their_packets (x ∷ earlier) =
    ap (λ (a : StreamAudit). is_short a.ends) (is_audit_of x earlier)
    ∙ short (ends (in_turn (x ∷ earlier)))
    ∙ ap (λ (n : ℕ). nat_lt 0 n && nat_lt n 3) (ends_in_turn (x ∷ earlier))

-- How often the universes of a source had one counter is a number of the list of its packets and pages.
use Rattle.std.proofs.Common.{◌≡◌, ℕ, ◌+◌, Bool, true, false, not, ◌&&◌, ◌==◌, nat_lt, cond, List, [], ◌∷◌, max, min}
use Rattle.std.proofs.Common.{Option, Some, None, refl, ap, ◌∙◌, arith}
use Rattle.std.proofs.lemmas.Bool.Decides.{nat_tests}
use Rattle.std.specs.Option.{option_map}
use Rattle.sacn_packets.specs.Data.{Data}
use Rattle.sacn_audit.specs.declared.source.SourceAudit.{SourceAudit}
use Rattle.sacn_audit.specs.declared.source_numbers.SourceNumbers.{SourceNumbers}
use Rattle.sacn_audit.specs.Breaches.{breach_by, no_breach, noted_if}
use Rattle.sacn_audit.specs.Counters.{numbers_after}
use Rattle.sacn_audit.specs.NetworkHistories.{Heard, SentData, SentPage, SourcePacket, moment_after, source_by}
use Rattle.sacn_audit.specs.NetworkHistories.{source_with, source_with_packet}
use Rattle.sacn_audit.specs.ListHistories.{is_page}
use Rattle.sacn_audit.specs.CounterHistories.{CountersAreOfTheirPackets, counted_on, counted_with, counts_on, data_with}
use Rattle.sacn_audit.specs.CounterHistories.{latest_data, one_counter_at, shares_counter}
use Rattle.sacn_audit.proofs.Noting.{noted_by}
use Rattle.sacn_audit.proofs.Senders.{moment_is}

-- the numbers that a data packet leaves, where so many in a row count on
abbrev left_by : ℕ → Data → SourceNumbers
left_by n d = record { universe = d.universe; number = d.number; counted_on = min n 8 }

abbrev numbers_of : Option Data → ℕ → Option SourceNumbers
numbers_of before n = option_map (left_by n) before

one_more : (n : ℕ) → min (min n 8 + 1) 8 ≡ min (1 + n) 8
one_more n = omega arith

counted_by : (b : Bool) (n : ℕ) → cond b (min (min n 8 + 1) 8) 0 ≡ min (cond b (1 + n) 0) 8
counted_by true n = one_more n
counted_by false n = refl

eight : (n : ℕ) → (min n 8 == 8) ≡ nat_lt 7 n
eight n = grind (arith, nat_tests)

-- ---- one packet or page more, whichever it is

step : (d : Data) (before : Option Data) (n : ℕ) →
    numbers_after d (numbers_of before n) ≡ left_by (counted_with (SentData d) before n) d
step d None n = refl
step d (Some e) n =
    let counted = counted_by (counts_on d (Some e)) n in
    λ i. record { universe = d.universe; number = d.number; counted_on = counted i }

abbrev is_eighth : Option SourceNumbers → Bool
is_eighth None = false
is_eighth (Some n) = n.counted_on == 8

eighth : (p : SourcePacket) (before : Option Data) (n : ℕ) →
    (not (is_page p) && is_eighth (numbers_of (data_with p before) n)) ≡ (not (is_page p) && nat_lt 7 n)
eighth (SentData d) before n = eight n
eighth (SentPage p) before n = refl

module _ (t : ℕ) (address : List ℕ) where
  first_numbers_are : (p : SourcePacket) →
      (source_with_packet t address p None).numbers ≡ numbers_of (data_with p None) (counted_with p None 0)
  first_numbers_are (SentData d) = refl
  first_numbers_are (SentPage p) = refl

  first_counter : (p : SourcePacket) → (source_with_packet t address p None).one_counter ≡ no_breach
  first_counter (SentData d) = refl
  first_counter (SentPage p) = refl

  next_numbers : (p : SourcePacket) (s : SourceAudit) (before : Option Data) (n : ℕ) →
      s.numbers ≡ numbers_of before n →
      (source_with_packet t address p (Some s)).numbers ≡ numbers_of (data_with p before) (counted_with p before n)
  next_numbers (SentData d) s before n e =
      ap (λ (held : Option SourceNumbers). Some (numbers_after d held)) e ∙ ap Some (step d before n)
  next_numbers (SentPage p) s before n e = e

  next_counter : (p : SourcePacket) (s : SourceAudit) →
      (source_with_packet t address p (Some s)).one_counter
      ≡ noted_if (not (is_page p) && is_eighth (source_with_packet t address p (Some s)).numbers) (max t s.moment) s.one_counter
  next_counter (SentData d) s = refl
  next_counter (SentPage p) s = refl

-- ---- over a list of them

numbers_are : (x : Heard) (earlier : List Heard) →
    (source_with x (source_by earlier)).numbers ≡ numbers_of (latest_data (x ∷ earlier)) (counted_on (x ∷ earlier))
numbers_are x [] = first_numbers_are x.moment x.address x.packet
numbers_are x (y ∷ earlier) =
    let s = source_with y (source_by earlier) in
    next_numbers x.moment x.address x.packet s (latest_data (y ∷ earlier)) (counted_on (y ∷ earlier)) (numbers_are y earlier)

none_yet : (p : SourcePacket) → false ≡ (not (is_page p) && nat_lt 7 (counted_with p None 0))
none_yet (SentData d) = refl
none_yet (SentPage p) = refl

none_first : (x : Heard) → no_breach ≡ breach_by (one_counter_at (x ∷ []))
none_first x = ap (λ (b : Bool). breach_by (cond b (moment_after (x ∷ []) ∷ []) [])) (none_yet x.packet)

counters_are : (x : Heard) (earlier : List Heard) →
    (source_with x (source_by earlier)).one_counter ≡ breach_by (one_counter_at (x ∷ earlier))
counters_are x [] = first_counter x.moment x.address x.packet ∙ none_first x
counters_are x (y ∷ earlier) =
    let s = source_with y (source_by earlier) in
    let t : ℕ = moment_after (x ∷ y ∷ earlier) in
    let is_data : Bool = not (is_page x.packet) in
    next_counter x.moment x.address x.packet s
    ∙ ap (λ (m : ℕ). noted_if (is_data && is_eighth (source_with x (Some s)).numbers) (max x.moment m) s.one_counter)
    (moment_is y earlier)
    ∙ ap (λ (n : Option SourceNumbers). noted_if (is_data && is_eighth n) t s.one_counter) (numbers_are x (y ∷ earlier))
    ∙ ap (λ (b : Bool). noted_if b t s.one_counter)
    (eighth x.packet (latest_data (y ∷ earlier)) (counted_on (x ∷ y ∷ earlier)))
    ∙ ap (noted_if (shares_counter (x ∷ y ∷ earlier)) t) (counters_are y earlier)
    ∙ noted_by (shares_counter (x ∷ y ∷ earlier)) t (one_counter_at (y ∷ earlier))

pub counters_are_of_their_packets : CountersAreOfTheirPackets
counters_are_of_their_packets [] = refl
counters_are_of_their_packets (x ∷ earlier) = counters_are x earlier

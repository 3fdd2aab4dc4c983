-- The rules: which packets break them, by what came before these. A test looks at a list whose first packet breaks its rule.
use Rattle.std.specs.Prelude.{ℕ, ◌-◌, nat_lt, Bool, false, not, ◌&&◌, ◌||◌, ◌==◌, List, [], ◌∷◌, Option, Some, None, if◌then◌else◌}
use Rattle.std.specs.List.{before_first, list_any}
use Rattle.std.specs.Str.{is_utf8}
use Rattle.sacn_audit.specs.declared.rule.Rule.{Rule}
use Rattle.sacn_audit.specs.declared.rule.Rule.TheVariants.{TooFast, Silent, ShortChange, ShortEnd, CloseEnds, NameNotEnded, NameNotText, NumberStays, NumberLeftOut, ReservedBits, OtherGroup, OtherStart}
use Rattle.sacn_audit.specs.Arrivals.{Arrival, changes, ends, follows, in_a_row, latest_levels, number_after, packets_in, passes_one, repeats, second_of, turns_without}
use Rattle.sacn_audit.specs.Groups.{is_other_group}
use Rattle.sacn_audit.specs.Options.{has_reserved_bits}

-- the second before had more than 44 packets, and it is the 45th of its own
abbrev pub goes_too_fast : List Arrival → Bool
goes_too_fast [] = false
goes_too_fast (x ∷ earlier) = nat_lt 44 (packets_in 1 (second_of x.moment) (x ∷ earlier)) && (packets_in 0 (second_of x.moment) (x ∷ earlier) == 45)

-- t is more than 1000 ms after levels, where there are any
abbrev pub is_late : ℕ → Option ℕ → Bool
is_late t None = false
is_late t (Some m) = nat_lt 1000 (t - m)

-- it has levels, and comes more than 1000 ms after the levels before it: nothing was lost in between, and the stream didn't end
abbrev pub was_silent : List Arrival → Bool
was_silent [] = false
was_silent (x ∷ []) = false
was_silent (x ∷ y ∷ earlier) = follows y.packet x.packet && not y.packet.terminated && (x.packet.start == 0) && is_late x.moment (latest_levels (y ∷ earlier))

-- the levels of the latest packet have changed, and it is the first or the second that has them
abbrev pub is_short_change : List Arrival → Bool
is_short_change [] = false
is_short_change (x ∷ earlier) = changes (x ∷ earlier) || (repeats (x ∷ earlier) && changes earlier)

-- it comes more than 500 ms after one that it follows and that doesn't end the stream, whose levels had changed so
abbrev pub had_short_change : List Arrival → Bool
had_short_change [] = false
had_short_change (x ∷ []) = false
had_short_change (x ∷ y ∷ earlier) = follows y.packet x.packet && not y.packet.terminated && nat_lt 500 (x.moment - y.moment) && is_short_change (y ∷ earlier)

-- the stream has ended, with fewer than three packets that say so
abbrev pub is_short_end : List Arrival → Bool
is_short_end xs = nat_lt 0 (ends xs) && nat_lt (ends xs) 3

-- it goes on with a stream that had ended so
abbrev pub had_short_end : List Arrival → Bool
had_short_end [] = false
had_short_end (x ∷ earlier) = not x.packet.terminated && is_short_end earlier

-- it ends the stream, as the packet before it did, and comes less than 20 ms after that one
abbrev pub ends_close : List Arrival → Bool
ends_close [] = false
ends_close (x ∷ []) = false
ends_close (x ∷ y ∷ earlier) = x.packet.terminated && y.packet.terminated && nat_lt (x.moment - y.moment) 20

-- the field of its source's name has no NUL
abbrev pub leaves_name_open : List Arrival → Bool
leaves_name_open [] = false
leaves_name_open (x ∷ earlier) = not (list_any (λ octet. octet == 0) x.packet.name)

-- its source's name, which stands before the first NUL, is not UTF-8
abbrev pub has_no_text : List Arrival → Bool
has_no_text [] = false
has_no_text (x ∷ earlier) = not (is_utf8 (before_first (λ octet. octet == 0) x.packet.name))

-- it has the number of the three packets before it
abbrev pub keeps_number : List Arrival → Bool
keeps_number [] = false
keeps_number (x ∷ earlier) = nat_lt 3 (in_a_row x.packet.number (x ∷ earlier))

-- it passes over one number, as the two turns before it did
abbrev pub leaves_number_out : List Arrival → Bool
leaves_number_out [] = false
leaves_number_out (x ∷ []) = false
leaves_number_out (x ∷ y ∷ earlier) = passes_one y.packet x.packet && nat_lt 2 (turns_without (number_after y.packet.number) (x ∷ y ∷ earlier))

-- reserved bits of its options are set
abbrev pub sets_reserved_bits : List Arrival → Bool
sets_reserved_bits [] = false
sets_reserved_bits (x ∷ earlier) = has_reserved_bits x.delivery.options

-- it was sent to another multicast group than its universe's
abbrev pub goes_to_other_group : List Arrival → Bool
goes_to_other_group [] = false
goes_to_other_group (x ∷ earlier) = is_other_group x.delivery.destination x.packet.universe

-- it has neither levels nor priorities of slots: a start code that is neither 0 nor 0xDD
abbrev pub has_other_start : List Arrival → Bool
has_other_start [] = false
has_other_start (x ∷ earlier) = not (x.packet.start == 0) && not (x.packet.start == 221)

abbrev pub breaks : Rule → List Arrival → Bool
breaks TooFast xs = goes_too_fast xs
breaks Silent xs = was_silent xs
breaks ShortChange xs = had_short_change xs
breaks ShortEnd xs = had_short_end xs
breaks CloseEnds xs = ends_close xs
breaks NameNotEnded xs = leaves_name_open xs
breaks NameNotText xs = has_no_text xs
breaks NumberStays xs = keeps_number xs
breaks NumberLeftOut xs = leaves_number_out xs
breaks ReservedBits xs = sets_reserved_bits xs
breaks OtherGroup xs = goes_to_other_group xs
breaks OtherStart xs = has_other_start xs

-- the moments at which packets broke a rule, the latest first
abbrev pub moments_where : (List Arrival → Bool) → List Arrival → List ℕ
moments_where is_broken [] = []
moments_where is_broken (x ∷ earlier) = if is_broken (x ∷ earlier) then x.moment ∷ moments_where is_broken earlier else moments_where is_broken earlier

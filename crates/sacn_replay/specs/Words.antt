-- Speeds as they are typed: "2", "0.5", "1.25".
use Rattle.std.specs.Prelude.{ℕ, ◌+◌, ◌-◌, ◌*◌, ◌^◌, nat_lt, nat_le, ◌==◌, ◌&&◌, Bool, List, [], ◌∷◌, length, take, drop, Option, None, Some, Result, Err, if◌then◌else◌}
use Rattle.std.specs.List.{list_all, position}
use Rattle.std.specs.Option.{option_and_then, option_map}
use Rattle.std.specs.Char.{is_ascii_digit}
use Rattle.sacn_replay.specs.declared.fault.ReplayFault.{ReplayFault}
use Rattle.sacn_replay.specs.declared.fault.ReplayFault.TheVariants.{SpeedWord}
use Rattle.sacn_replay.specs.Speeds.{speed_with}

-- one digit or more, up to so many
abbrev pub is_number : ℕ → List ℕ → Bool
is_number most digits = nat_lt 0 (length digits) && nat_le (length digits) most && list_all is_ascii_digit digits

-- the value of digits behind a number
abbrev pub value_after : ℕ → List ℕ → ℕ
value_after n [] = n
value_after n (digit ∷ digits) = value_after (10 * n + (digit - 48)) digits

abbrev pub number_in : ℕ → List ℕ → Option ℕ
number_in most digits = if is_number most digits then Some (value_after 0 digits) else None

abbrev pub is_point : ℕ → Bool
is_point octet = octet == 46

-- so many digits behind the point, in thousandths
abbrev pub decimals_in : List ℕ → Option ℕ
decimals_in digits = option_map (λ n. 10 ^ (3 - length digits) * n) (number_in 3 digits)

abbrev pub without_point : List ℕ → Option ℕ
without_point word = option_map (λ whole. 1000 * whole) (number_in 4 word)

abbrev pub with_point : List ℕ → List ℕ → Option ℕ
with_point before behind = option_and_then (λ whole. option_map (λ decimals. 1000 * whole + decimals) (decimals_in behind)) (number_in 4 before)

-- up to four digits, and behind a point up to three decimals
abbrev pub thousandths_by : Option ℕ → List ℕ → Option ℕ
thousandths_by None word = without_point word
thousandths_by (Some point) word = with_point (take point word) (drop (point + 1) word)

abbrev pub thousandths_in : List ℕ → Option ℕ
thousandths_in word = thousandths_by (position is_point word) word

abbrev pub speed_by : Option ℕ → Result ℕ ReplayFault
speed_by None = Err SpeedWord
speed_by (Some thousandths) = speed_with thousandths

-- what a word is as a speed
abbrev pub speed_in : List ℕ → Result ℕ ReplayFault
speed_in word = speed_by (thousandths_in word)

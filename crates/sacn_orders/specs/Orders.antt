-- Orders as a lighting crew says them, and what they mean (profile).
use Rattle.std.specs.Prelude.{◌≡◌, ◌==◌, ◌&&◌, ◌||◌, ◌+◌, ◌-◌, ◌*◌, ◌/◌, ℕ, max, nat_lt, nat_le, Bool, true, false, List, [], ◌∷◌, ◌++◌, map, filter, find, take, drop, length, reverse, Option, None, Some, Result, Ok, Err, codes, if◌then◌else◌, slice_index}
use Rattle.std.specs.Option.{option_map}
use Rattle.std.specs.List.{list_all, position_or_len, before_first, after_first, range_with_len}
use Rattle.std.specs.Str.{bytes_eq}
use Rattle.std.specs.Char.{is_ascii_digit}
use Rattle.sacn_packets.specs.Results.{◌>>=◌}
use Rattle.sacn_files.specs.Words.{number_in}
use Rattle.sacn_files.specs.declared.faults.TextFault.{TextFault}
use Rattle.sacn_files.specs.declared.faults.TextFault.TheVariants.{WordCount}
use Rattle.sacn_console.specs.Scripts.{command_in}
use Rattle.sacn_console.specs.declared.command.Command.{Command}
use Rattle.sacn_console.specs.declared.command.Command.TheVariants.{SetLevel}
use Rattle.sacn_orders.specs.Pieces.{is_sign, pieces_of}
use Rattle.sacn_orders.specs.declared.part.Part.{Part}
use Rattle.sacn_orders.specs.declared.order.Order.{Order}
use Rattle.sacn_orders.specs.declared.order.Order.TheVariants.{Levels, Master, Back, Cues, Patch, Plain}
use Rattle.sacn_orders.specs.declared.fault.OrderFault.{OrderFault}
use Rattle.sacn_orders.specs.declared.fault.OrderFault.TheVariants.{Text, NoChannels, Word, Channel, Backwards, TooManyParts, Level}
use Rattle.sacn_cues.specs.declared.limits.TheConstants.{FULL}
use Rattle.sacn_orders.specs.declared.limits.TheConstants.{FULL_HUNDREDTHS, MAX_PARTS}
use Rattle.sacn_patch.specs.declared.limits.TheConstants.{MAX_CHANNELS}

-- ---- which channels a selection chooses

-- a part holds the channels from its first to its last
abbrev pub is_in : ℕ → Part → Bool
is_in channel part = nat_le part.first channel && nat_le channel part.last

abbrev pub is_adding : Option Part → Bool
is_adding None = false
is_adding (Some part) = part.is_added

-- a channel is chosen if the last part that holds it was added
abbrev pub is_chosen : List Part → ℕ → Bool
is_chosen parts channel = is_adding (find (is_in channel) (reverse parts))

-- the channels from this one on, up to the last
unfoldable pub channels_from : ℕ → List ℕ
channels_from first = range_with_len first (MAX_CHANNELS + 1 - first)

-- the chosen channels, each once, from the lowest to the highest
abbrev pub chosen : List Part → List ℕ
chosen parts = filter (is_chosen parts) (channels_from 1)

-- the commands of an order for the channels from `first` on: each chosen one, from the lowest to the highest, is set to the level
abbrev pub commands_from : List Part → ℕ → ℕ → List Command
commands_from parts level first = map (λ channel. SetLevel channel level) (filter (is_chosen parts) (channels_from first))

-- the commands of an order: each chosen channel, from the lowest to the highest, is set to the level
abbrev pub commands_of : List Part → ℕ → List Command
commands_of parts level = commands_from parts level 1

-- the first chosen channel that isn't below this one
abbrev pub next_chosen : List Part → ℕ → Option ℕ
next_chosen parts channel = find (is_chosen parts) (channels_from (max 1 channel))

-- these channels are the next one from `first` on, then the next one behind it, and so on, until there is none
abbrev pub AreInTurn : List Part → ℕ → List ℕ → Type 0
AreInTurn parts first [] = next_chosen parts first ≡ None
AreInTurn parts first (channel ∷ channels) = (next_chosen parts first ≡ Some channel) × AreInTurn parts (channel + 1) channels

-- every channel, as one part
abbrev pub every_channel : Part
every_channel = record { first = 1; last = MAX_CHANNELS; is_added = true }

-- ---- levels

-- the level of so many hundredths of a percent, rounded down
abbrev pub level_of : ℕ → ℕ
level_of hundredths = hundredths * FULL / FULL_HUNDREDTHS

-- one decimal is tenths, two are hundredths
abbrev pub decimals_in : List ℕ → Option ℕ
decimals_in ds =
    if length ds == 1 then option_map (λ tenths. tenths * 10) (number_in 9 ds)
    else if length ds == 2 then number_in 99 ds
    else None

-- percents and hundredths of one, 100 percents at most
abbrev pub percent_of : ℕ → ℕ → Option ℕ
percent_of percents hundredths = if nat_le (percents * 100 + hundredths) FULL_HUNDREDTHS then Some (percents * 100 + hundredths) else None

abbrev pub with_percents : Option ℕ → Option ℕ → Option ℕ
with_percents None hundredths = None
with_percents (Some percents) None = None
with_percents (Some percents) (Some hundredths) = percent_of percents hundredths

abbrev pub is_point : ℕ → Bool
is_point b = b == 46

-- a percent in hundredths: a number, or a number, a point and decimals
abbrev pub hundredths_in : List ℕ → Option ℕ
hundredths_in w =
    if nat_lt (position_or_len is_point w) (length w)
    then with_percents (number_in 100 (before_first is_point w)) (decimals_in (after_first is_point w))
    else with_percents (number_in 100 w) (Some 0)

abbrev pub or_no_level : Option ℕ → Result ℕ OrderFault
or_no_level None = Err Level
or_no_level (Some hundredths) = Ok (level_of hundredths)

abbrev pub level_said : List ℕ → Result ℕ OrderFault
level_said w = or_no_level (hundredths_in w)

-- `full`, or a percent, behind which a percent sign may stand
abbrev pub level_in : List (List ℕ) → Result ℕ OrderFault
level_in [] = Err Level
level_in (w ∷ []) = if bytes_eq w (codes "full") then Ok FULL else level_said w
level_in (w ∷ s ∷ []) = if bytes_eq s (codes "%") then level_said w else Err Level
level_in (w ∷ s ∷ t ∷ ws) = Err Level

-- ---- parts

abbrev pub or_no_channel : Option ℕ → Result ℕ OrderFault
or_no_channel None = Err Channel
or_no_channel (Some n) = if n == 0 then Err Channel else Ok n

-- digits are a channel from 1 to the last, however many they are; all else is a word where a number was expected
abbrev pub channel_in : List ℕ → Result ℕ OrderFault
channel_in w = if list_all is_ascii_digit w then or_no_channel (number_in MAX_CHANNELS w) else Err Word

-- nothing more stands in the part
abbrev pub ended : ℕ → List (List ℕ) → Result ℕ OrderFault
ended channel [] = Ok channel
ended channel (w ∷ ws) = Err Word

-- behind `thru` stands a channel that isn't below the first
abbrev pub span_to : ℕ → List (List ℕ) → Result ℕ OrderFault
span_to first [] = Err Word
span_to first (w ∷ ws) = channel_in w >>= λ channel. if nat_lt channel first then Err Backwards else ended channel ws

-- a part of one channel ends there, a span goes on by `thru`
abbrev pub last_in : ℕ → List (List ℕ) → Result ℕ OrderFault
last_in first [] = Ok first
last_in first (w ∷ ws) = if bytes_eq w (codes "thru") then span_to first ws else Err Word

-- a channel, or a span
abbrev pub part_in : Bool → List (List ℕ) → Result Part OrderFault
part_in is_added [] = Err Word
part_in is_added (w ∷ ws) = channel_in w >>= λ first. last_in first ws >>= λ last. Ok (record { first = first; last = last; is_added = is_added })

-- ---- selections

abbrev pub is_plus : List ℕ → Bool
is_plus w = bytes_eq w (codes "+")

abbrev pub is_joining : List ℕ → Bool
is_joining w = bytes_eq w (codes "+") || bytes_eq w (codes "-")

-- the pieces between the signs, each with whether a plus stands before it
abbrev pub Joined : Type 0
Joined = Bool × List (List ℕ)

abbrev pub joined_after : Bool → List (List ℕ) → List (List ℕ) → List Joined
joined_after is_added part [] = (is_added, part) ∷ []
joined_after is_added part (w ∷ ws) =
    if is_joining w then (is_added, part) ∷ joined_after (is_plus w) [] ws
    else joined_after is_added (part ++ w ∷ []) ws

-- each part in turn, or the first fault
abbrev pub parts_of : List Joined → Result (List Part) OrderFault
parts_of [] = Ok []
parts_of (j ∷ js) = part_in j.0 j.1 >>= λ part. parts_of js >>= λ parts. Ok (part ∷ parts)

-- there are so many at most
abbrev pub few : List Joined → List Part → Result (List Part) OrderFault
few js parts = if nat_lt MAX_PARTS (length js) then Err TooManyParts else Ok parts

-- parts that signs join; the first has none, and is added
abbrev pub parts_in : List (List ℕ) → Result (List Part) OrderFault
parts_in ws = parts_of (take MAX_PARTS (joined_after true [] ws)) >>= few (joined_after true [] ws)

-- a part more
abbrev pub one_more : List Part → Bool → List (List ℕ) → Result (List Part) OrderFault
one_more parts is_added ws = if nat_lt (length parts) MAX_PARTS then (part_in is_added ws >>= λ part. Ok (parts ++ part ∷ [])) else Err TooManyParts

abbrev pub all_in : List (List ℕ) → Result (List Part) OrderFault
all_in [] = Ok (every_channel ∷ [])
all_in (w ∷ ws) = Err Word

-- `all`, or parts
abbrev pub selection_in : List (List ℕ) → Result (List Part) OrderFault
selection_in [] = Err NoChannels
selection_in (w ∷ ws) = if bytes_eq w (codes "all") then all_in ws else parts_in (w ∷ ws)

-- ---- lines

abbrev pub is_at : List ℕ → Bool
is_at w = bytes_eq w (codes "at")

-- behind `at` stands a level
abbrev pub to_level : List (List ℕ) → Result ℕ OrderFault
to_level [] = Err Word
to_level (w ∷ ws) = level_in ws

abbrev pub levels_said : List (List ℕ) → List (List ℕ) → Result Order OrderFault
levels_said before behind = selection_in before >>= λ parts. to_level behind >>= λ level. Ok (Levels parts level)

-- a selection stands before the first `at`, and a level behind it
abbrev pub levels_in : List (List ℕ) → Result Order OrderFault
levels_in ws = levels_said (before_first is_at ws) (drop (position_or_len is_at ws) ws)

-- an order of one word
abbrev pub alone : ℕ → Order → List (List ℕ) → Result Order OrderFault
alone line order [] = Ok order
alone line order (w ∷ ws) = Err (Text (WordCount line))

abbrev pub as_order : Result Command TextFault → Result Order OrderFault
as_order (Ok command) = Ok (Plain command)
as_order (Err fault) = Err (Text fault)

-- what the console's own words say
abbrev pub plain : ℕ → List (List ℕ) → Result Order OrderFault
plain line ws = as_order (command_in line ws)

abbrev pub word_in : ℕ → List (List ℕ) → Result Order OrderFault
word_in line [] = plain line []
word_in line (w ∷ ws) =
    if bytes_eq w (codes "blackout") then alone line (Master 0) ws
    else if bytes_eq w (codes "restore") then alone line (Master FULL) ws
    else if bytes_eq w (codes "back") then alone line Back ws
    else if bytes_eq w (codes "cues") then alone line Cues ws
    else if bytes_eq w (codes "patch") then alone line Patch ws
    else plain line (w ∷ ws)

abbrev pub begins_so : List ℕ → Bool
begins_so w = is_ascii_digit (slice_index w 0) || is_sign (slice_index w 0)

-- a line speaks of channels if its first word is one of three, or begins with a digit or a sign
abbrev pub is_of_channels : List ℕ → Bool
is_of_channels w = bytes_eq w (codes "all") || bytes_eq w (codes "at") || bytes_eq w (codes "thru") || begins_so w

-- the order of a line's words
abbrev pub order_in : ℕ → List (List ℕ) → Result Order OrderFault
order_in line [] = word_in line []
order_in line (w ∷ ws) = if is_of_channels w then levels_in (pieces_of (w ∷ ws)) else word_in line (w ∷ ws)

-- A schedule: what happens, a line for each event (profile).
use Rattle.std.specs.Prelude.{◌≡◌, ℕ, List, [], ◌∷◌, ◌++◌, map, Option, None, Some, ok_or, Result, Ok, Err, codes, if◌then◌else◌, Vec}
use Rattle.std.specs.declared.alloc.Global.{Global}
use Rattle.std.specs.Str.{bytes_eq}
use Rattle.hex.specs.Hex.{decode_of}
use Rattle.hex.specs.declared.error.FromHexError.{FromHexError}
use Rattle.sacn_packets.specs.Results.{◌>>=◌}
use Rattle.sacn_files.specs.Words.{number_in}
use Rattle.sacn_files.specs.Lines.{Said, entries_in}
use Rattle.sacn_files.specs.declared.faults.TextFault.{TextFault}
use Rattle.sacn_files.specs.declared.faults.TextFault.TheVariants.{OutOfMemory, UnknownWord, WordCount, Number, Hex}
use Rattle.sacn_console.specs.Scripts.{command_in}
use Rattle.sacn_schedule.specs.declared.event.Event.{Event}
use Rattle.sacn_schedule.specs.Events.{Happening, Order, Poll, Deliver, Look, RestartConsole, RestartNode, Noise, happening}
use Rattle.sacn_schedule.specs.Reads.{GivesAs}

-- the greatest number of a field of 64 bits, and of one of eight
abbrev pub wide : ℕ
wide = 18446744073709551615

abbrev pub narrow : ℕ
narrow = 255

-- the number of a word, at most the limit
unfoldable pub number_of : ℕ → ℕ → List ℕ → Result ℕ TextFault
number_of line limit w = ok_or (number_in limit w) (Number line)

-- what one, two or three numbers make, each with its limit; they are read from left to right
abbrev pub one_in : ℕ → (ℕ → Happening) → ℕ → List (List ℕ) → Result Happening TextFault
one_in line make a (x ∷ []) = do
  x ← number_of line a x
  Ok (make x)
one_in line make a _ = Err (WordCount line)

abbrev pub two_in : ℕ → (ℕ → ℕ → Happening) → ℕ → ℕ → List (List ℕ) → Result Happening TextFault
two_in line make a b (x ∷ y ∷ []) = do
  x ← number_of line a x
  y ← number_of line b y
  Ok (make x y)
two_in line make a b _ = Err (WordCount line)

abbrev pub three_in : ℕ → (ℕ → ℕ → ℕ → Happening) → ℕ → ℕ → ℕ → List (List ℕ) → Result Happening TextFault
three_in line make a b c (x ∷ y ∷ z ∷ []) = do
  x ← number_of line a x
  y ← number_of line b y
  z ← number_of line c z
  Ok (make x y z)
three_in line make a b c _ = Err (WordCount line)

-- the lines whose words after the first are numbers
abbrev pub poll_in : ℕ → List (List ℕ) → Result Happening TextFault
poll_in line ws = two_in line Poll wide wide ws

abbrev pub deliver_in : ℕ → List (List ℕ) → Result Happening TextFault
deliver_in line ws = three_in line Deliver wide wide wide ws

abbrev pub look_in : ℕ → List (List ℕ) → Result Happening TextFault
look_in line ws = three_in line Look wide narrow wide ws

abbrev pub restart_console_in : ℕ → List (List ℕ) → Result Happening TextFault
restart_console_in line ws = two_in line RestartConsole wide narrow ws

abbrev pub restart_node_in : ℕ → List (List ℕ) → Result Happening TextFault
restart_node_in line ws = one_in line RestartNode wide ws

-- an order: its command is looked at before its numbers
abbrev pub order_in : ℕ → List (List ℕ) → Result Happening TextFault
order_in line (c ∷ m ∷ command) = do
  command ← command_in line command
  console ← number_of line wide c
  moment ← number_of line wide m
  Ok (Order console moment command)
order_in line _ = Err (WordCount line)

-- the octets of a word in hexadecimal digits of either case, of which - has none
abbrev pub some_octets : Result (List ℕ) FromHexError → Option (List ℕ)
some_octets (Ok octets) = Some octets
some_octets (Err fault) = None

abbrev pub octets_in : List ℕ → Option (List ℕ)
octets_in w = if bytes_eq w (codes "-") then Some [] else some_octets (decode_of w)

unfoldable pub octets_of : ℕ → List ℕ → Result (List ℕ) TextFault
octets_of line w = ok_or (octets_in w) (Hex line)

-- noise: its digits are looked at after its numbers
abbrev pub noise_in : ℕ → List (List ℕ) → Result Happening TextFault
noise_in line (n ∷ m ∷ h ∷ []) = do
  node ← number_of line wide n
  moment ← number_of line wide m
  octets ← octets_of line h
  Ok (Noise node moment octets)
noise_in line _ = Err (WordCount line)

-- the event of a line, from its first word and the others
abbrev pub rare_in : ℕ → List ℕ → List (List ℕ) → Result Happening TextFault
rare_in line w ws =
    if bytes_eq w (codes "restart-console") then restart_console_in line ws
    else if bytes_eq w (codes "restart-node") then restart_node_in line ws
    else if bytes_eq w (codes "noise") then noise_in line ws
    else Err (UnknownWord line)

abbrev pub event_in : ℕ → List (List ℕ) → Result Happening TextFault
event_in line [] = Err (UnknownWord line)
event_in line (w ∷ ws) =
    if bytes_eq w (codes "order") then order_in line ws
    else if bytes_eq w (codes "poll") then poll_in line ws
    else if bytes_eq w (codes "deliver") then deliver_in line ws
    else if bytes_eq w (codes "look") then look_in line ws
    else rare_in line w ws

-- a schedule's events, or the first faulty line's fault
abbrev pub schedule_in : List ℕ → Result (List Happening) TextFault
schedule_in text = entries_in event_in text

-- in terms of lines: what a line gives; these lines give these events, each its own
abbrev pub line_event : Said → Result Happening TextFault
line_event l = event_in l.0 l.1

abbrev pub AreGiven : List Said → List Happening → Type 0
AreGiven ls hs = map line_event ls ≡ map (λ h. Ok h) hs

-- the fault of the first faulty line: those before it give events, and those after it aren't looked at
pub record IsFirstFault (fault : TextFault) (ls : List Said) : Type 0 where
  pub good : List Said
  pub line : Said
  pub rest : List Said
  pub events : List Happening
  pub whole : ls ≡ good ++ line ∷ rest
  pub gives : AreGiven good events
  pub faulty : line_event line ≡ Err fault

-- a call gives this event or these events, or this fault, unless a request for memory was refused
abbrev pub GivesEvent : Result Event TextFault → Result Happening TextFault → Type 0
GivesEvent result wanted = GivesAs happening OutOfMemory result wanted

abbrev pub GivesEvents : Result (Vec Event Global) TextFault → Result (List Happening) TextFault → Type 0
GivesEvents result wanted = GivesAs (λ events. map happening events.items) OutOfMemory result wanted

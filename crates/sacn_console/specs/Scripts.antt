-- Scripts and the commands in them (profile).
use Rattle.std.specs.Prelude.{◌≡◌, ◌⊎◌, ℕ, List, [], ◌∷◌, Option, None, Some, Result, Ok, Err, codes, if◌then◌else◌, Vec}
use Rattle.std.specs.declared.alloc.Global.{Global}
use Rattle.std.specs.Str.{bytes_eq}
use Rattle.sacn_files.specs.Words.{number_in}
use Rattle.sacn_files.specs.Lines.{entries_in}
use Rattle.sacn_console.specs.declared.command.Command.{Command}
use Rattle.sacn_console.specs.declared.command.Command.TheVariants.{Go, GoTo, SetLevel, Master, EndUniverse, StartUniverse}
use Rattle.sacn_files.specs.declared.faults.TextFault.{TextFault}
use Rattle.sacn_files.specs.declared.faults.TextFault.TheVariants.{OutOfMemory, UnknownWord, WordCount, Number}

-- a number that has to be there
abbrev pub or_number : {X : Type 0} → ℕ → (ℕ → Result X TextFault) → Option ℕ → Result X TextFault
or_number line next None = Err (Number line)
or_number line next (Some n) = next n

-- the command with no numbers, one or two
abbrev pub none_in : ℕ → Command → List (List ℕ) → Result Command TextFault
none_in line command [] = Ok command
none_in line command (w ∷ ws) = Err (WordCount line)

abbrev pub one_in : ℕ → (ℕ → Command) → List (List ℕ) → Result Command TextFault
one_in line make (n ∷ []) = or_number line (λ x. Ok (make x)) (number_in 65535 n)
one_in line make _ = Err (WordCount line)

abbrev pub two_in : ℕ → (ℕ → ℕ → Command) → List (List ℕ) → Result Command TextFault
two_in line make (n ∷ m ∷ []) = or_number line (λ x. or_number line (λ y. Ok (make x y)) (number_in 65535 m)) (number_in 65535 n)
two_in line make _ = Err (WordCount line)

-- the command of some words
abbrev pub command_in : ℕ → List (List ℕ) → Result Command TextFault
command_in line [] = Err (WordCount line)
command_in line (w ∷ ws) =
    if bytes_eq w (codes "go") then none_in line Go ws
    else if bytes_eq w (codes "goto") then one_in line GoTo ws
    else if bytes_eq w (codes "set") then two_in line SetLevel ws
    else if bytes_eq w (codes "master") then one_in line Master ws
    else if bytes_eq w (codes "end") then one_in line EndUniverse ws
    else if bytes_eq w (codes "start") then one_in line StartUniverse ws
    else Err (UnknownWord line)

-- a moment and a command: the first word is looked at after the command
abbrev pub Order : Type 0
Order = ℕ × Command

abbrev pub with_moment : ℕ → Option ℕ → Result Command TextFault → Result Order TextFault
with_moment line moment (Err fault) = Err fault
with_moment line None (Ok command) = Err (Number line)
with_moment line (Some moment) (Ok command) = Ok (moment, command)

abbrev pub order_in : ℕ → List (List ℕ) → Result Order TextFault
order_in line [] = Err (WordCount line)
order_in line (w ∷ ws) = with_moment line (number_in 18446744073709551615 w) (command_in line ws)

-- a script's orders, or the first line's fault
abbrev pub script_in : List ℕ → Result (List Order) TextFault
script_in text = entries_in order_in text

-- a call gives these orders or this fault, unless a request for memory was refused
abbrev pub Orders : Result (Vec Order Global) TextFault → Result (List Order) TextFault → Type 0
Orders (Ok orders) wanted = wanted ≡ Ok orders.items
Orders (Err fault) wanted = (fault ≡ OutOfMemory) ⊎ (wanted ≡ Err fault)

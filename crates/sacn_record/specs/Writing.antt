-- Lists of numbers as octets, and writes that end early.
use Rattle.std.specs.Prelude.{◌≡◌, ℕ, Option, Some, Result, Ok, Err, List, [], ◌∷◌, ◌++◌}
use Rattle.std.specs.Io.KnownBytes.{Appends}
use Rattle.sacn_record.specs.Packets.{big16}
use Rattle.sacn_record.specs.Blocks.{little32}
use Rattle.sacn_record.specs.Recordings.{Taken, recording_of}

-- numbers of sixteen bits, each with the high octet first
abbrev pub shorts : List ℕ → List ℕ
shorts [] = []
shorts (n ∷ numbers) = big16 n ++ shorts numbers

-- numbers of thirty-two bits, each with the low octet first
abbrev pub words : List ℕ → List ℕ
words [] = []
words (n ∷ numbers) = little32 n ++ words numbers

-- known octets grow by the front of some, however long
abbrev pub AppendsFront : Option (List ℕ) → Option (List ℕ) → List ℕ → Type 0
AppendsFront old new octets = (front : List ℕ) × (left : List ℕ) × (octets ≡ front ++ left) × Appends old new front

-- what a writer tells after the write of a datagram: the recording with it as the last, or its front where the write failed
abbrev pub TellsOneMore : {E A : Type 0} → Result A E → Option (List ℕ) → List ℕ → List Taken → Type 0
TellsOneMore (Ok value) new program all = new ≡ Some (recording_of program all)
TellsOneMore (Err error) new program all = (front : List ℕ) × (left : List ℕ) × (recording_of program all ≡ front ++ left) × (new ≡ Some front)

-- a writer that told the recording of some tells that of these and of one more
abbrev pub Records : {E A : Type 0} → Result A E → Option (List ℕ) → Option (List ℕ) → Taken → Type 0
Records result old new taken =
    (program : List ℕ) (before : List Taken) → old ≡ Some (recording_of program before) → TellsOneMore result new program (before ++ taken ∷ [])

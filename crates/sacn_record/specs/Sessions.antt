-- What a recorder does with its files. Lists of rounds, of receives and of files have the latest first, those of deeds are in order.
use Rattle.std.specs.Prelude.{◌≡◌, ℕ, zero, suc, ◌<◌, ◌≤◌, ◌+◌, ◌-◌, ◌^◌, ◌⊎◌, ⊤, Bool, List, [], ◌∷◌, ◌++◌, length, min, nat_le, if◌then◌else◌, Option, None, Some}
use Rattle.std.specs.List.{flat_map}
use Rattle.sacn_edge.specs.Additions.{Extends}
use Rattle.sacn_record.specs.declared.plan.RecordPlan.{RecordPlan}
use Rattle.sacn_record.specs.declared.totals.Totals.{Totals}
use Rattle.sacn_record.specs.Recordings.{Taken, beginning, datagram_block}
use Rattle.sacn_record.specs.Hearing.{Catch, reading_by, asked_in, asked_by}

-- a file is begun, empty; octets are put to the end of the latest one
pub data Deed : Type 0 where
  Begun : Deed
  Put : List ℕ → Deed

-- what each file holds, where some were begun before
abbrev pub with_deed : List (List ℕ) → Deed → List (List ℕ)
with_deed files Begun = [] ∷ files
with_deed [] (Put octets) = []
with_deed (file ∷ older) (Put octets) = (file ++ octets) ∷ older

abbrev pub files_after : List (List ℕ) → List Deed → List (List ℕ)
files_after files [] = files
files_after files (deed ∷ deeds) = files_after (with_deed files deed) deeds

-- a file that is told grew by the first of some octets, however many
abbrev pub PutsFront : Option (List Deed) → Option (List Deed) → List ℕ → Type 0
PutsFront old None octets = ⊤
PutsFront old (Some told) octets = (front : List ℕ) × (left : List ℕ) × (octets ≡ front ++ left) × Extends old (Some told) (Put front ∷ [])

-- ---- the deeds of a recorder

-- a file that was begun at one reading takes no more at another
abbrev pub is_full : RecordPlan → ℕ → ℕ → Bool
is_full plan begun now = nat_le plan.longest (now - begun)

-- a file is begun as the recording of nothing
abbrev pub opening : RecordPlan → List Deed
opening plan = Begun ∷ Put (beginning plan.program.now) ∷ []

-- the blocks of the datagrams of a round, which ended at a reading, go to the latest file at once; where that one is full, to another
abbrev pub deeds_for : RecordPlan → ℕ → ℕ → List Taken → List Deed
deeds_for plan begun now [] = []
deeds_for plan begun now (t ∷ ts) =
    if is_full plan begun now then opening plan ++ Put (flat_map datagram_block (t ∷ ts)) ∷ [] else Put (flat_map datagram_block (t ∷ ts)) ∷ []

-- when the file was begun that is then the latest
abbrev pub begun_for : RecordPlan → ℕ → ℕ → List Taken → ℕ
begun_for plan begun now [] = begun
begun_for plan begun now (t ∷ ts) = if is_full plan begun now then now else begun

abbrev pub begun_by : RecordPlan → List (List Catch) → ℕ
begun_by plan [] = 0
begun_by plan (cs ∷ rounds) = begun_for plan (begun_by plan rounds) (reading_by (cs ∷ rounds)) (asked_in plan cs)

abbrev pub deeds_by : RecordPlan → List (List Catch) → List Deed
deeds_by plan [] = opening plan
deeds_by plan (cs ∷ rounds) = deeds_by plan rounds ++ deeds_for plan (begun_by plan rounds) (reading_by (cs ∷ rounds)) (asked_in plan cs)

-- how many octets were put
abbrev pub octets_in : List Deed → ℕ
octets_in [] = 0
octets_in (Begun ∷ deeds) = octets_in deeds
octets_in (Put octets ∷ deeds) = length octets + octets_in deeds

-- what sixty-four bits count of it
abbrev pub counted : ℕ → ℕ
counted n = min n (2 ^ 64 - 1)

-- a number that was counted on by so many
abbrev pub counted_on : ℕ → ℕ → ℕ
counted_on old zero = old
counted_on old (suc n) = counted (old + suc n)

-- what is told of it
abbrev pub totals_by : RecordPlan → List (List Catch) → Totals
totals_by plan rounds = record {
  datagrams = counted (length (asked_by plan rounds));
  octets = counted (octets_in (deeds_by plan rounds));
  millis = reading_by rounds;
}

-- ---- the files

-- when a file was begun, and the datagrams in it
pub record Tape : Type 0 where
  pub begun : ℕ
  pub all : List Taken

-- what a round brought goes into the latest file, or begins another where that is full
abbrev pub with_heard : RecordPlan → ℕ → List Taken → List Tape → List Tape
with_heard plan now [] tapes = tapes
with_heard plan now (t ∷ ts) [] = []
with_heard plan now (t ∷ ts) (tape ∷ older) =
    if is_full plan tape.begun now then record { begun = now; all = t ∷ ts } ∷ (tape ∷ older)
    else record { begun = tape.begun; all = tape.all ++ t ∷ ts } ∷ older

abbrev pub tapes_by : RecordPlan → List (List Catch) → List Tape
tapes_by plan [] = record { begun = 0; all = [] } ∷ []
tapes_by plan (cs ∷ rounds) = with_heard plan (reading_by (cs ∷ rounds)) (asked_in plan cs) (tapes_by plan rounds)

-- all datagrams of some files, in order
abbrev pub all_in : List Tape → List Taken
all_in [] = []
all_in (tape ∷ older) = all_in older ++ tape.all

-- ---- where it ends

-- each round ended before the moment
abbrev pub AreBefore : ℕ → List (List Catch) → Type 0
AreBefore until [] = ⊤
AreBefore until (cs ∷ rounds) = (reading_by (cs ∷ rounds) < until) × AreBefore until rounds

-- the last round is the first that ends at the moment or after it, or what it hears has ended; or there were as many rounds as 64 bits count
abbrev pub IsOver : ℕ → Type 0 → List (List Catch) → Type 0
IsOver until Ended [] = ⊥
IsOver until Ended (cs ∷ rounds) = AreBefore until rounds × ((until ≤ reading_by (cs ∷ rounds)) ⊎ (Ended ⊎ (length (cs ∷ rounds) ≡ 2 ^ 64 - 1)))

-- The files that the deeds of a recorder leave.
use Rattle.std.proofs.Common.{◌≡◌, ℕ, ◌-◌, ◌≤◌, Bool, true, false, List, [], ◌∷◌, ◌++◌, length, map, Option, Result, refl, sym, subst, ap, ◌∙◌, append_assoc, append-nil, arith, leb-true}
use Rattle.std.specs.Prelude.{⊤, nat_le, if◌then◌else◌}
use Rattle.std.specs.List.{flat_map}
use Rattle.std.proofs.lemmas.Grind.{flat_map-append}
use Rattle.sacn_capture.specs.Calls.{AreOf, Calls}
use Rattle.sacn_capture.specs.Recordings.{Shown, Told, recording}
use Rattle.sacn_record.specs.declared.plan.RecordPlan.{RecordPlan}
use Rattle.sacn_record.specs.Recordings.{Taken, beginning, datagram_block, recording_of}
use Rattle.sacn_record.specs.Hearing.{Catch, reading_by, asked_in, asked_by}
use Rattle.sacn_record.specs.Sessions.{Deed, Begun, Put, Tape, all_in, begun_by, begun_for, deeds_by, deeds_for, files_after, is_full, opening, tapes_by, with_deed, with_heard}
use Rattle.sacn_record.specs.Laws.{AllFit, AreApart, AreReadAs, CallsGiveWhatWasRecorded, IsReadAs}

-- what a tape holds as a file
abbrev pub file_of : RecordPlan → Tape → List ℕ
file_of plan tape = recording_of plan.program.now tape.all

pub files_append : (files : List (List ℕ)) (xs ys : List Deed) → files_after files (xs ++ ys) ≡ files_after (files_after files xs) ys
files_append files [] ys = refl
files_append files (x ∷ xs) ys = files_append (with_deed files x) xs ys

-- a recording with more datagrams
pub more_recorded : (program : List ℕ) (all ts : List Taken) → recording_of program all ++ flat_map datagram_block ts ≡ recording_of program (all ++ ts)
more_recorded program all ts =
    append_assoc (beginning program) (flat_map datagram_block all) (flat_map datagram_block ts) ∙ sym (ap (λ (xs : List ℕ). beginning program ++ xs) (flat_map-append datagram_block all ts))

-- when the latest of some files was begun
abbrev pub latest_begun : List Tape → ℕ
latest_begun [] = 0
latest_begun (tape ∷ older) = tape.begun

-- there is one
abbrev pub IsSomeTape : List Tape → Type 0
IsSomeTape [] = ⊥
IsSomeTape (tape ∷ older) = ⊤

module _ (plan : RecordPlan) (now : ℕ) where
  heard_files : (ts : List Taken) (tapes : List Tape) → IsSomeTape tapes
      → files_after (map (file_of plan) tapes) (deeds_for plan (latest_begun tapes) now ts) ≡ map (file_of plan) (with_heard plan now ts tapes)
  heard_files [] [] is = absurd is
  heard_files (t ∷ ts) [] is = absurd is
  heard_files [] (tape ∷ older) is = refl
  heard_files (t ∷ ts) (tape ∷ older) is = by (is_full plan tape.begun now)
    where
      by : (full : Bool)
          → files_after (map (file_of plan) (tape ∷ older)) (if full then opening plan ++ Put (flat_map datagram_block (t ∷ ts)) ∷ [] else Put (flat_map datagram_block (t ∷ ts)) ∷ [])
          ≡ map (file_of plan) (if full then record { begun = now; all = t ∷ ts } ∷ (tape ∷ older) else record { begun = tape.begun; all = tape.all ++ t ∷ ts } ∷ older)
      by true = refl
      by false = ap (λ (file : List ℕ). file ∷ map (file_of plan) older) (more_recorded plan.program.now tape.all (t ∷ ts))

  heard_some : (ts : List Taken) (tapes : List Tape) → IsSomeTape tapes → IsSomeTape (with_heard plan now ts tapes)
  heard_some [] [] is = absurd is
  heard_some (t ∷ ts) [] is = absurd is
  heard_some [] (tape ∷ older) is = tt
  heard_some (t ∷ ts) (tape ∷ older) is = by (is_full plan tape.begun now)
    where
      by : (full : Bool) → IsSomeTape (if full then record { begun = now; all = t ∷ ts } ∷ (tape ∷ older) else record { begun = tape.begun; all = tape.all ++ t ∷ ts } ∷ older)
      by true = tt
      by false = tt

  heard_begun : (ts : List Taken) (tapes : List Tape) → IsSomeTape tapes → begun_for plan (latest_begun tapes) now ts ≡ latest_begun (with_heard plan now ts tapes)
  heard_begun [] [] is = absurd is
  heard_begun (t ∷ ts) [] is = absurd is
  heard_begun [] (tape ∷ older) is = refl
  heard_begun (t ∷ ts) (tape ∷ older) is = by (is_full plan tape.begun now)
    where
      by : (full : Bool) → (if full then now else tape.begun) ≡ latest_begun (if full then record { begun = now; all = t ∷ ts } ∷ (tape ∷ older) else record { begun = tape.begun; all = tape.all ++ t ∷ ts } ∷ older)
      by true = refl
      by false = refl

  heard_all : (ts : List Taken) (tapes : List Tape) → IsSomeTape tapes → all_in (with_heard plan now ts tapes) ≡ all_in tapes ++ ts
  heard_all [] [] is = absurd is
  heard_all (t ∷ ts) [] is = absurd is
  heard_all [] (tape ∷ older) is = sym (append-nil (all_in older ++ tape.all))
  heard_all (t ∷ ts) (tape ∷ older) is = by (is_full plan tape.begun now)
    where
      by : (full : Bool) → all_in (if full then record { begun = now; all = t ∷ ts } ∷ (tape ∷ older) else record { begun = tape.begun; all = tape.all ++ t ∷ ts } ∷ older) ≡ (all_in older ++ tape.all) ++ t ∷ ts
      by true = refl
      by false = sym (append_assoc (all_in older) tape.all (t ∷ ts))

  heard_apart : (ts : List Taken) (tapes : List Tape) → AreApart plan tapes → AreApart plan (with_heard plan now ts tapes)
  heard_apart [] tapes apart = apart
  heard_apart (t ∷ ts) [] apart = tt
  heard_apart (t ∷ ts) (tape ∷ older) apart = by (is_full plan tape.begun now) refl
    where
      last : (older : List Tape) (all : List Taken) → AreApart plan (tape ∷ older) → AreApart plan (record { begun = tape.begun; all = all } ∷ older)
      last [] all before = tt
      last (o ∷ os) all before = before

      by : (full : Bool) → is_full plan tape.begun now ≡ full → AreApart plan (if full then record { begun = now; all = t ∷ ts } ∷ (tape ∷ older) else record { begun = tape.begun; all = tape.all ++ t ∷ ts } ∷ older)
      by true is = (leb-true plan.longest (now - tape.begun) is, apart)
      by false is = last older (tape.all ++ t ∷ ts) apart

module _ (plan : RecordPlan) where
  pub some_tape : (rounds : List (List Catch)) → IsSomeTape (tapes_by plan rounds)
  some_tape [] = tt
  some_tape (cs ∷ rounds) = heard_some plan (reading_by (cs ∷ rounds)) (asked_in plan cs) (tapes_by plan rounds) (some_tape rounds)

  pub begun_is : (rounds : List (List Catch)) → begun_by plan rounds ≡ latest_begun (tapes_by plan rounds)
  begun_is [] = refl
  begun_is (cs ∷ rounds) =
      let now = reading_by (cs ∷ rounds) in
      ap (λ (b : ℕ). begun_for plan b now (asked_in plan cs)) (begun_is rounds) ∙ heard_begun plan now (asked_in plan cs) (tapes_by plan rounds) (some_tape rounds)

  pub files_are : (rounds : List (List Catch)) → files_after [] (deeds_by plan rounds) ≡ map (file_of plan) (tapes_by plan rounds)
  files_are [] = ap (λ (file : List ℕ). file ∷ []) (sym (append-nil (beginning plan.program.now)))
  files_are (cs ∷ rounds) =
      let now = reading_by (cs ∷ rounds) in
      let ts = asked_in plan cs in
      files_append [] (deeds_by plan rounds) (deeds_for plan (begun_by plan rounds) now ts)
      ∙ ap (λ (files : List (List ℕ)). files_after files (deeds_for plan (begun_by plan rounds) now ts)) (files_are rounds)
      ∙ ap (λ (b : ℕ). files_after (map (file_of plan) (tapes_by plan rounds)) (deeds_for plan b now ts)) (begun_is rounds)
      ∙ heard_files plan now ts (tapes_by plan rounds) (some_tape rounds)

  pub kept_once : (rounds : List (List Catch)) → all_in (tapes_by plan rounds) ≡ asked_by plan rounds
  kept_once [] = refl
  kept_once (cs ∷ rounds) =
      heard_all plan (reading_by (cs ∷ rounds)) (asked_in plan cs) (tapes_by plan rounds) (some_tape rounds) ∙ ap (λ (xs : List Taken). xs ++ asked_in plan cs) (kept_once rounds)

  pub are_apart : (rounds : List (List Catch)) → AreApart plan (tapes_by plan rounds)
  are_apart [] = tt
  are_apart (cs ∷ rounds) = heard_apart plan (reading_by (cs ∷ rounds)) (asked_in plan cs) (tapes_by plan rounds) (are_apart rounds)

-- those in front of some that fit, and those behind
pub fit_front : (xs ys : List Taken) → AllFit (xs ++ ys) → AllFit xs
fit_front [] ys fit = tt
fit_front (x ∷ xs) ys fit = (fit.0, fit_front xs ys fit.1)

pub fit_rest : (xs ys : List Taken) → AllFit (xs ++ ys) → AllFit ys
fit_rest [] ys fit = fit
fit_rest (x ∷ xs) ys fit = fit_rest xs ys fit.1

pub fit_both : (xs ys : List Taken) → AllFit xs → AllFit ys → AllFit (xs ++ ys)
fit_both [] ys a b = b
fit_both (x ∷ xs) ys a b = (a.0, fit_both xs ys a.1 b)

pub tapes_read : CallsGiveWhatWasRecorded → (plan : RecordPlan) → length plan.program.now ≤ 64 → (tapes : List Tape) → AllFit (all_in tapes) → AreReadAs (map (file_of plan) tapes) tapes
tapes_read gives plan short [] fit = tt
tapes_read gives plan short (tape ∷ older) fit =
    (gives plan.program.now tape.all short (fit_rest (all_in older) tape.all fit), tapes_read gives plan short older (fit_front (all_in older) tape.all fit))

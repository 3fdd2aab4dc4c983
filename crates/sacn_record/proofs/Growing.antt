-- A recording that grows by one datagram.
use Rattle.std.proofs.Common.{◌≡◌, ℕ, List, [], ◌∷◌, ◌++◌, Option, None, Some, Result, Ok, Err, sym, subst, ap, ◌∙◌, append_assoc, append-nil}
use Rattle.std.specs.Prelude.{OnOk, OnErr}
use Rattle.std.specs.List.{flat_map}
use Rattle.std.specs.Io.KnownBytes.{Appends}
use Rattle.std.proofs.lemmas.Grind.{flat_map-append}
use Rattle.sacn_record.specs.Recordings.{Taken, beginning, datagram_block, recording_of}
use Rattle.sacn_record.specs.Writing.{AppendsFront, Records}

one_more : (program : List ℕ) (before : List Taken) (taken : Taken) → recording_of program before ++ datagram_block taken ≡ recording_of program (before ++ taken ∷ [])
one_more program before taken =
    let last : flat_map datagram_block (taken ∷ []) ≡ datagram_block taken = append-nil (datagram_block taken) in
    let both = flat_map-append datagram_block before (taken ∷ []) ∙ ap (λ (xs : List ℕ). flat_map datagram_block before ++ xs) last in
    append_assoc (beginning program) (flat_map datagram_block before) (datagram_block taken) ∙ sym (ap (λ (xs : List ℕ). beginning program ++ xs) both)

grown : (old more : List ℕ) (told : Option (List ℕ)) → Appends (Some old) told more → told ≡ Some (old ++ more)
grown old more None a = absurd a
grown old more (Some xs) a = ap Some a

records : {E A : Type 0} (result : Result A E) (old new : Option (List ℕ)) (taken : Taken) → OnOk result (Appends old new (datagram_block taken)) → OnErr result (AppendsFront old new (datagram_block taken))
    → Records result old new taken
records (Ok value) old new taken all front program before told =
    grown (recording_of program before) (datagram_block taken) new (subst (λ (o : Option (List ℕ)). Appends o new (datagram_block taken)) told all) ∙ ap Some (one_more program before taken)
records (Err error) old new taken all front program before told =
    let (put, left, split, appended) = front in
    let here = recording_of program before in
    let grew = grown here put new (subst (λ (o : Option (List ℕ)). Appends o new put) told appended) in
    (here ++ put, left, sym (one_more program before taken) ∙ ap (λ (xs : List ℕ). here ++ xs) split ∙ sym (append_assoc here put left), grew)

-- the same of octets that are the datagram's block
pub records_put : {E A : Type 0} (result : Result A E) (old new : Option (List ℕ)) (octets : List ℕ) (taken : Taken) → octets ≡ datagram_block taken → OnOk result (Appends old new octets)
    → OnErr result (AppendsFront old new octets) → Records result old new taken
records_put result old new octets taken is all front =
    records result old new taken (subst (λ (xs : List ℕ). OnOk result (Appends old new xs)) is all) (subst (λ (xs : List ℕ). OnErr result (AppendsFront old new xs)) is front)

-- a recording of nothing yet
pub begun : {E A : Type 0} (result : Result A E) (old new : Option (List ℕ)) (octets program : List ℕ) → octets ≡ beginning program → OnOk result (Appends old new octets) → old ≡ Some []
    → OnOk result (new ≡ Some (recording_of program []))
begun (Ok value) old new octets program is all told =
    grown [] octets new (subst (λ (o : Option (List ℕ)). Appends o new octets) told all) ∙ ap Some (is ∙ sym (append-nil (beginning program)))
begun (Err error) old new octets program is all told = tt

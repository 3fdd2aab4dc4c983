-- What is kept for each cue is what going to it gives.
use Rattle.std.proofs.Common.{◌≡◌, ℕ, ◌+◌, ◌-◌, ◌<◌, Bool, true, false, cond, ◌==◌, ◌&&◌, nat_le, nat_lt, T, List, [], ◌∷◌, length, get_or, replicate, Option, Some, None, if◌then◌else◌, inl, inr, refl, sym, ap, subst, ◌∙◌, arith}
use Rattle.std.specs.Bool.{⊤}
use Rattle.std.specs.Option.{option_map}
use Rattle.std.specs.Ordering.{nat_cmp, is_lt, eq_by_cmp}
use Rattle.std.specs.FinMap.{entries, get, get-entries, find, is_sorted, entries_sorted}
use Rattle.std.specs.FinMap.Entries.{below_all}
use Rattle.std.proofs.lemmas.Bool.{cases_eq}
use Rattle.std.proofs.lemmas.Bool.Decides.{nat_tests}
use Rattle.std.proofs.lemmas.List.{length-replicate, get_or-replicate}
use Rattle.sacn_patch.specs.declared.limits.TheConstants.{MAX_CHANNELS}
use Rattle.sacn_cues.specs.Cues.{KeptCue, Cues, or_else, level_upto, level_tracked, is_named}
use Rattle.sacn_cues.specs.Targets.{Targets, aimed, zeros_of}
use Rattle.sacn_cues.specs.Tracks.{Tracked, IsTrack, AreTracks, AreTargets, track_at, tracked}
use Rattle.sacn_cues.proofs.Aims.{aimed_upto, or_else_none, length-aimed_upto, at_aimed_upto, length-aimed_everywhere, at_aimed_everywhere}

-- one after another, each cue aimed over those before it
abbrev pub tracks_from : Targets → List (ℕ × KeptCue) → List Tracked
tracks_from targets [] = []
tracks_from targets (e ∷ es) = tracked e (aimed e.1.levels targets) ∷ tracks_from (aimed e.1.levels targets) es

-- ---- cues in order

abbrev Above : ℕ → List (ℕ × KeptCue) → Type 0
Above k [] = ⊤
Above k (e ∷ es) = (k < e.0) × Above k es

abbrev RisingByNumber : List (ℕ × KeptCue) → Type 0
RisingByNumber [] = ⊤
RisingByNumber (e ∷ es) = Above e.0 es × RisingByNumber es

first : (a b : Bool) → T (a && b) → T a
first true b p = tt
first false b p = p

second : (a b : Bool) → T (a && b) → T b
second true b p = p
second false b p = absurd p

less_is : (n k : ℕ) → is_lt (nat_cmp n k) ≡ nat_lt n k
less_is n k = grind (arith, nat_tests)

is_less : (n k : ℕ) → T (nat_lt n k) → n < k
is_less n k told = grind (arith, nat_tests, told)

above : (k : ℕ) (es : List (ℕ × KeptCue)) → T (below_all nat_cmp k es) → Above k es
above k [] told = tt
above k (e ∷ es) told = (is_less k e.0 (subst T (less_is k e.0) (first _ _ told)), above k es (second _ _ told))

rising : (es : List (ℕ × KeptCue)) → T (is_sorted nat_cmp es) → RisingByNumber es
rising [] told = tt
rising (e ∷ es) told = (above e.0 es (first _ _ told), rising es (second _ _ told))

further : (a b : ℕ) (es : List (ℕ × KeptCue)) → a < b → Above b es → Above a es
further a b [] lt far = tt
further a b (e ∷ es) lt far = let step : a < e.0 = omega (arith, lt, far.0) in (step, further a b es lt far.1)

past : (number k : ℕ) → number < k → nat_le k number ≡ false
past number k lt = grind (arith, nat_tests)

differs : (number k : ℕ) → number < k → eq_by_cmp nat_cmp number k ≡ false
differs number k lt = grind (arith, nat_tests)

-- cues above the number change no level
none_upto : (number : ℕ) (es : List (ℕ × KeptCue)) (targets : Targets) → Above number es → aimed_upto number es targets ≡ targets
none_upto number [] targets far = refl
none_upto number (e ∷ es) targets far = ap (λ b. aimed_upto number es (if b then aimed e.1.levels targets else targets)) (past number e.0 far.0) ∙ none_upto number es targets far.1

none_found : (number : ℕ) (es : List (ℕ × KeptCue)) → Above number es → find nat_cmp number es ≡ None
none_found number [] far = refl
none_found number (e ∷ es) far = ap (λ b. cond b (Some e.1) (find nat_cmp number es)) (differs number e.0 far.0) ∙ none_found number es far.1

-- ---- the track of a number

abbrev track_to : ℕ → List (ℕ × KeptCue) → Targets → KeptCue → Tracked
track_to number es targets cue = tracked (number, cue) (aimed_upto number es targets)

either : (b : Bool) (number : ℕ) (es : List (ℕ × KeptCue)) (more targets : Targets) → (b ≡ false → find nat_cmp number es ≡ None) → option_map (track_to number es more) (find nat_cmp number es) ≡ option_map (track_to number es (if b then more else targets)) (find nat_cmp number es)
either true number es more targets none = refl
either false number es more targets none = ap (option_map (track_to number es more)) (none refl) ∙ sym (ap (option_map (track_to number es targets)) (none refl))

lower : (number k : ℕ) → nat_le k number ≡ false → number < k
lower number k told = grind (arith, nat_tests)

here_eq : (number k : ℕ) → k ≡ number → eq_by_cmp nat_cmp number k ≡ true
here_eq number k is = grind (arith, nat_tests)

apart_eq : (number k : ℕ) → ¬ (k ≡ number) → eq_by_cmp nat_cmp number k ≡ false
apart_eq number k apart = grind (arith, nat_tests)

track_found : (number : ℕ) (targets : Targets) (es : List (ℕ × KeptCue)) → RisingByNumber es → track_at number (tracks_from targets es) ≡ option_map (track_to number es targets) (find nat_cmp number es)
track_found number targets [] order = refl
track_found number targets (e ∷ es) order =
    let more : Targets = aimed e.1.levels targets in
    elim (cases_eq e.0 number) [
      | inl here ↦
          let same : (e.0 == number) ≡ true = grind (arith, nat_tests) in
          let upto : nat_le e.0 number ≡ true = grind (arith, nat_tests) in
          let far : Above number es = subst (λ n. Above n es) here order.0 in
          ap (λ b. if b then Some (tracked e more) else track_at number (tracks_from more es)) same
          ∙ ap (λ n. Some (tracked (n, e.1) more)) here
          ∙ sym (ap (λ ts. Some (tracked (number, e.1) ts)) (none_upto number es more far))
          ∙ sym (ap (λ b. Some (tracked (number, e.1) (aimed_upto number es (if b then more else targets)))) upto)
          ∙ sym (ap (λ b. option_map (track_to number (e ∷ es) targets) (cond b (Some e.1) (find nat_cmp number es))) (here_eq number e.0 here))
      | inr apart ↦
          let differ : (e.0 == number) ≡ false = grind (arith, nat_tests) in
          ap (λ b. if b then Some (tracked e more) else track_at number (tracks_from more es)) differ
          ∙ track_found number more es order.1
          ∙ either (nat_le e.0 number) number es more targets (λ told. none_found number es (further number e.0 es (lower number e.0 told) order.0))
          ∙ sym (ap (λ b. option_map (track_to number (e ∷ es) targets) (cond b (Some e.1) (find nat_cmp number es))) (apart_eq number e.0 apart))
    ]

-- ---- what it gives

module _ (cues : Cues) (number : ℕ) where
  abbrev aims : Targets
  aims = aimed_upto number (entries cues) (zeros_of cues)

  wide : length (zeros_of cues) ≡ MAX_CHANNELS
  wide = length-aimed_everywhere (entries cues) (replicate MAX_CHANNELS None) ∙ length-replicate {A = Option ℕ} MAX_CHANNELS None

  aimed_at : (k channel : ℕ) → k < MAX_CHANNELS → k + 1 ≡ channel → get_or aims k None ≡ level_tracked number cues channel
  aimed_at k channel lt place =
      at_aimed_upto number (entries cues) (zeros_of cues) k (omega (arith, lt, wide))
      ∙ ap (or_else (level_upto number (entries cues) (k + 1)))
      (at_aimed_everywhere (entries cues) (replicate MAX_CHANNELS None) k (omega (arith, lt, length-replicate {A = Option ℕ} MAX_CHANNELS None))
      ∙ ap (or_else (if is_named (entries cues) (k + 1) then Some 0 else None)) (get_or-replicate MAX_CHANNELS k None None lt)
      ∙ or_else_none (if is_named (entries cues) (k + 1) then Some 0 else None))
      ∙ ap (λ c. level_tracked number cues c) place

  are_targets : AreTargets (level_tracked number cues) aims
  are_targets = (
    length-aimed_upto number (entries cues) (zeros_of cues) ∙ wide,
    λ channel inside.
        let least : 0 < channel = grind (arith, nat_tests, inside) in
        let lt : channel - 1 < MAX_CHANNELS = grind (arith, nat_tests, inside) in
        aimed_at (channel - 1) channel lt (omega (arith, least)),
  )

  fits : (o : Option KeptCue) → IsTrack cues number (option_map (track_to number (entries cues) (zeros_of cues)) o) o
  fits None = tt
  fits (Some cue) = (refl, refl, are_targets)

pub are_tracks : (cues : Cues) (tracks : List Tracked) → tracks ≡ tracks_from (zeros_of cues) (entries cues) → AreTracks cues tracks
are_tracks cues tracks is number =
    let found : track_at number tracks ≡ option_map (track_to number (entries cues) (zeros_of cues)) (get cues number) =
    ap (track_at number) is
    ∙ track_found number (zeros_of cues) (entries cues) (rising (entries cues) (entries_sorted cues))
    ∙ sym (ap (option_map (track_to number (entries cues) (zeros_of cues))) (get-entries cues number)) in
    subst (λ o. IsTrack cues number o (get cues number)) (sym found) (fits cues number (get cues number))

-- ---- what is found

pub fitting : (cues : Cues) (number : ℕ) (tracks : List Tracked) (o : Option Tracked) → AreTracks cues tracks → o ≡ track_at number tracks → IsTrack cues number o (get cues number)
fitting cues number tracks o are found = subst (λ (x : Option Tracked). IsTrack cues number x (get cues number)) (sym found) (are number)

none_kept : (cues : Cues) (number : ℕ) (o : Option KeptCue) → IsTrack cues number None o → o ≡ None
none_kept cues number None agree = refl
none_kept cues number (Some cue) agree = absurd agree

pub no_cue : (cues : Cues) (number : ℕ) (tracks : List Tracked) → AreTracks cues tracks → None ≡ track_at number tracks → get cues number ≡ None
no_cue cues number tracks are found = none_kept cues number (get cues number) (fitting cues number tracks None are found)

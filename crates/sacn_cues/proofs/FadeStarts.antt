-- Fades that are all_begun one after another.
use Rattle.std.proofs.Common.{◌≡◌, ℕ, zero, suc, ◌+◌, ◌-◌, ◌<◌, ◌≤◌, Bool, true, false, ◌==◌, List, [], ◌∷◌, length, set, get_or, replicate, Option, Some, None, if◌then◌else◌, refl, sym, ap, ◌∙◌, arith}
use Rattle.std.proofs.lemmas.Bool.Decides.{nat_tests}
use Rattle.sacn_cues.specs.Levels.{Ramp, Given, begun_if_given, given_to, all_begun, begun_to, set_to}
use Rattle.sacn_cues.specs.Channels.{is_channel}
use Rattle.sacn_cues.specs.Targets.{Targets}
use Rattle.sacn_cues.specs.Tracks.{AreTargets}

-- no target for the first so many channels
abbrev pub blanked : ℕ → Targets → Targets
blanked zero targets = targets
blanked (suc n) [] = []
blanked (suc n) (target ∷ targets) = None ∷ blanked n targets

module _ (up down now : ℕ) where
  -- a target that is taken away as its fade begins
  pub one_begun : (at : ℕ) (targets : Targets) (fades : List Ramp) (x : Ramp) → at < length fades → length targets ≡ length fades → x ≡ begun_if_given now (given_to up down (get_or targets at None)) (get_or fades at x) → begun_to up down now (set targets at None) (set fades at x) ≡ begun_to up down now targets fades
  one_begun at [] [] x lt same is = absurd (omega arith)
  one_begun at [] (fade ∷ fades) x lt same is = absurd (omega arith)
  one_begun at (target ∷ targets) [] x lt same is = absurd (omega arith)
  one_begun zero (target ∷ targets) (fade ∷ fades) x lt same is = ap (λ f. f ∷ begun_to up down now targets fades) is
  one_begun (suc at) (target ∷ targets) (fade ∷ fades) x lt same is = ap (λ fs. begun_if_given now (given_to up down target) fade ∷ fs) (one_begun at targets fades x (omega arith) (omega arith) is)

  -- where nothing is aimed, nothing begins
  pub none_aimed : (n : ℕ) (fades : List Ramp) → begun_to up down now (replicate n None) fades ≡ fades
  none_aimed n [] = refl
  none_aimed zero (fade ∷ fades) = refl
  none_aimed (suc n) (fade ∷ fades) = ap (λ fs. fade ∷ fs) (none_aimed n fades)

  -- targets that say what a command gives
  pub begun_as_given : (gives : ℕ → Option Given) (channel : ℕ) (targets : Targets) (fades : List Ramp) → length targets ≡ length fades → ((k : ℕ) → k < length targets → given_to up down (get_or targets k None) ≡ gives (channel + k)) → begun_to up down now targets fades ≡ all_begun gives now channel fades
  begun_as_given gives channel [] [] same is = refl
  begun_as_given gives channel [] (fade ∷ fades) same is = absurd (omega arith)
  begun_as_given gives channel (target ∷ targets) [] same is = refl
  begun_as_given gives channel (target ∷ targets) (fade ∷ fades) same is =
      let here : channel + 0 ≡ channel = omega arith in
      let first : given_to up down target ≡ gives channel = is 0 (omega arith) ∙ ap gives here in
      let rest : begun_to up down now targets fades ≡ all_begun gives now (suc channel) fades = begun_as_given gives (suc channel) targets fades (omega arith) (λ k lt. let e : channel + suc k ≡ suc channel + k = omega arith in is (suc k) (omega arith) ∙ ap gives e) in
      rw (first, rest) refl

  -- targets of channels that have these levels
  pub begun_by_targets : (level : ℕ → Option ℕ) (targets : Targets) (fades : List Ramp) → length targets ≡ length fades → AreTargets level targets → begun_to up down now targets fades ≡ all_begun (λ channel. given_to up down (level channel)) now 1 fades
  begun_by_targets level targets fades same are =
      begun_as_given (λ channel. given_to up down (level channel)) 1 targets fades same (λ k lt.
      let inside : is_channel (1 + k) ≡ true = grind (arith, nat_tests, lt, are.0) in
      let place : k ≡ 1 + k - 1 = omega arith in
      ap (given_to up down) (ap (λ j. get_or targets j None) place ∙ are.1 (1 + k) inside))

  -- the fade of one more channel, where those before it are begun
  pub one_given : (at : ℕ) (targets : Targets) (fades : List Ramp) (d : Ramp) → at < length fades → length targets ≡ length fades → begun_to up down now (blanked (suc at) targets) (set fades at (begun_if_given now (given_to up down (get_or targets at None)) (get_or fades at d))) ≡ begun_to up down now (blanked at targets) fades
  one_given at [] [] d lt same = absurd (omega arith)
  one_given at [] (fade ∷ fades) d lt same = absurd (omega arith)
  one_given at (target ∷ targets) [] d lt same = absurd (omega arith)
  one_given zero (target ∷ targets) (fade ∷ fades) d lt same = refl
  one_given (suc at) (target ∷ targets) (fade ∷ fades) d lt same = ap (λ fs. fade ∷ fs) (one_given at targets fades d (omega arith) (omega arith))

  pub one_more_given : (at : ℕ) (targets : Targets) (fades new : List Ramp) (d : Ramp) → at < length fades → length targets ≡ length fades → new ≡ set fades at (begun_if_given now (given_to up down (get_or targets at None)) (get_or fades at d)) → begun_to up down now (blanked (at + 1) targets) new ≡ begun_to up down now (blanked at targets) fades
  one_more_given at targets fades new d lt same is =
      let next : at + 1 ≡ suc at = omega arith in
      ap (λ n. begun_to up down now (blanked n targets) new) next
      ∙ ap (begun_to up down now (blanked (suc at) targets)) is
      ∙ one_given at targets fades d lt same

  -- where all are begun, nothing is left to begin
  pub all_given : (n : ℕ) (targets : Targets) (fades : List Ramp) → length fades ≤ n → length targets ≡ length fades → begun_to up down now (blanked n targets) fades ≡ fades
  all_given n targets [] all same = refl
  all_given zero targets (fade ∷ fades) all same = absurd (omega arith)
  all_given (suc n) [] (fade ∷ fades) all same = absurd (omega arith)
  all_given (suc n) (target ∷ targets) (fade ∷ fades) all same = ap (λ fs. fade ∷ fs) (all_given n targets fades (omega arith) (omega arith))

  -- what is begun of values that are these
  pub begun_there : (level : ℕ → Option ℕ) (up_lent down_lent : ℕ) (targets_lent targets : Targets) (fades_lent fades new : List Ramp) → new ≡ begun_to up_lent down_lent now targets_lent fades_lent → up_lent ≡ up → down_lent ≡ down → targets_lent ≡ targets → fades_lent ≡ fades → length targets ≡ length fades → AreTargets level targets → new ≡ all_begun (λ channel. given_to up down (level channel)) now 1 fades
  begun_there level up_lent down_lent targets_lent targets fades_lent fades new is u d t f same are = is ∙ (λ i. begun_to (u i) (d i) now (t i) (f i)) ∙ begun_by_targets level targets fades same are

differ : (a b : ℕ) → a < b → (a == b) ≡ false
differ a b lt = grind (arith, nat_tests)

differ_above : (a b : ℕ) → b < a → (a == b) ≡ false
differ_above a b lt = grind (arith, nat_tests)

equal : (a b : ℕ) → a ≡ b → (a == b) ≡ true
equal a b same = grind (arith, nat_tests)

abbrev given_if : ℕ → Bool → Option Given
given_if level b = if b then Some (record { level = level; up = 0; down = 0 }) else None

-- nothing is given to the channels after the one that is set
after_set : (channel level now from : ℕ) (fades : List Ramp) → channel < from → all_begun (set_to channel level) now from fades ≡ fades
after_set channel level now from [] lt = refl
after_set channel level now from (fade ∷ fades) lt =
    ap (λ b. begun_if_given now (given_if level b) fade ∷ all_begun (set_to channel level) now (suc from) fades) (differ channel from lt)
    ∙ ap (λ fs. fade ∷ fs) (after_set channel level now (suc from) fades (omega arith))

pub one_set : (channel level now from at : ℕ) (fades : List Ramp) (x : Ramp) → channel ≡ from + at → at < length fades → x ≡ begun_if_given now (Some (record { level = level; up = 0; down = 0 })) (get_or fades at x) → set fades at x ≡ all_begun (set_to channel level) now from fades
one_set channel level now from at [] x there lt is = absurd (omega arith)
one_set channel level now from zero (fade ∷ fades) x there lt is =
    ap (λ f. f ∷ fades) is
    ∙ sym (ap (λ b. begun_if_given now (given_if level b) fade ∷ all_begun (set_to channel level) now (suc from) fades) (equal channel from (omega arith))
    ∙ ap (λ fs. begun_if_given now (Some (record { level = level; up = 0; down = 0 })) fade ∷ fs) (after_set channel level now (suc from) fades (omega arith)))
one_set channel level now from (suc at) (fade ∷ fades) x there lt is =
    ap (λ fs. fade ∷ fs) (one_set channel level now (suc from) at fades x (omega arith) (omega arith) is)
    ∙ sym (ap (λ b. begun_if_given now (given_if level b) fade ∷ all_begun (set_to channel level) now (suc from) fades) (differ_above channel from (omega arith)))

-- where nothing is given, nothing changes
pub none_begun : (gives : ℕ → Option Given) (now from : ℕ) (fades : List Ramp) → ((channel : ℕ) → gives channel ≡ None) → all_begun gives now from fades ≡ fades
none_begun gives now from [] none = refl
none_begun gives now from (fade ∷ fades) none =
    ap (λ g. begun_if_given now g fade ∷ all_begun gives now (suc from) fades) (none from)
    ∙ ap (λ fs. fade ∷ fs) (none_begun gives now (suc from) fades none)

pub length-all_begun : (gives : ℕ → Option Given) (now from : ℕ) (fades : List Ramp) → length (all_begun gives now from fades) ≡ length fades
length-all_begun gives now from [] = refl
length-all_begun gives now from (fade ∷ fades) = ap suc (length-all_begun gives now (suc from) fades)

pub get_or-all_begun : (gives : ℕ → Option Given) (now from : ℕ) (fades : List Ramp) (i : ℕ) (d : Ramp) → i < length fades → get_or (all_begun gives now from fades) i d ≡ begun_if_given now (gives (from + i)) (get_or fades i d)
get_or-all_begun gives now from [] i d lt = absurd (omega arith)
get_or-all_begun gives now from (fade ∷ fades) zero d lt = let here : from + 0 ≡ from = omega arith in ap (λ k. begun_if_given now (gives k) fade) (sym here)
get_or-all_begun gives now from (fade ∷ fades) (suc i) d lt =
    let e : suc from + i ≡ from + suc i = omega arith in
    get_or-all_begun gives now (suc from) fades i d (omega arith) ∙ ap (λ k. begun_if_given now (gives k) (get_or fades i d)) e

pub length-begun_to : (up down now : ℕ) (targets : Targets) (fades : List Ramp) → length (begun_to up down now targets fades) ≡ length fades
length-begun_to up down now targets [] = refl
length-begun_to up down now [] (fade ∷ fades) = refl
length-begun_to up down now (target ∷ targets) (fade ∷ fades) = ap suc (length-begun_to up down now targets fades)

-- a channel to which a command gives nothing
pub as_before : (gives : ℕ → Option Given) (now first : ℕ) (fades : List Ramp) (i : ℕ) (blank : Ramp) → gives (first + i) ≡ None → get_or (all_begun gives now first fades) i blank ≡ get_or fades i blank
as_before gives now first [] i blank none = refl
as_before gives now first (fade ∷ fades) zero blank none = let here : first + 0 ≡ first = omega arith in ap (λ (o : Option Given). begun_if_given now o fade) (ap gives (sym here) ∙ none)
as_before gives now first (fade ∷ fades) (suc i) blank none = let e : suc first + i ≡ first + suc i = omega arith in as_before gives now (suc first) fades i blank (ap gives e ∙ none)

pub unset : (channel level now i : ℕ) (fades : List Ramp) (blank : Ramp) → (i + 1 ≡ channel → ⊥) → get_or (all_begun (set_to channel level) now 1 fades) i blank ≡ get_or fades i blank
unset channel level now i fades blank apart =
    let other : (channel == 1 + i) ≡ false = grind (arith, nat_tests, apart) in
    as_before (set_to channel level) now 1 fades i blank (ap (λ (b : Bool). if b then Some (record { level = level; up = 0; down = 0 }) else None) other)

-- A console as its life begins.
use Rattle.std.proofs.Common.{◌≡◌, ℕ, ◌+◌, ◌%◌, ◌<◌, ◌≤◌, List, [], ◌∷◌, ◌++◌, length, get_or, drop, map, suc, zero, add-one, append_assoc, append-nil, drop-cons, refl, arith, ap, sym, ◌∙◌, None, Some}
use Rattle.std.proofs.lemmas.List.{length-map}
use Rattle.std.specs.List.{AllByRecursion, AllPairs}
use Rattle.std.proofs.lemmas.List.Kept.{AllPairs-from_increasing}
use Rattle.sacn_packets.specs.Universe.{Rising}
use Rattle.sacn_console.specs.Core.{universes_of}
use Rattle.sacn_console.specs.Wakes.{Sound, Waking, awake}
use Rattle.sacn_console.specs.Shows.{ShowContent, ShowOk}
use Rattle.sacn_patch.specs.Patch.{Patched}
use Rattle.sacn_cues.specs.Playing.{Played, new_player}
use Rattle.sacn_console.specs.declared.sender.Sender.{Sender}
use Rattle.sacn_console.specs.Due.{life_of}
use Rattle.sacn_console.specs.Runs.{line_by, lights_by, core_by}
use Rattle.sacn_console.specs.declared.line.UniverseLine.{UniverseLine}
use Rattle.sacn_console.specs.declared.line.Begun.{Begun}
use Rattle.sacn_console.specs.declared.line.State.TheVariants.{Running}

more_told : {X : Type 0} (f : ℕ → X) (told more : List X) (us : List ℕ) (i d : ℕ) → i < length us → told ++ map f (drop i us) ≡ map f us → more ≡ told ++ f (get_or us i d) ∷ [] → more ++ map f (drop (i + 1) us) ≡ map f us
more_told f told more us i d lt all is =
    let all2 : told ++ f (get_or us i d) ∷ map f (drop (suc i) us) ≡ map f us = rw (drop-cons us i d lt) at all in
    rw (is, add-one) (append_assoc told (f (get_or us i d) ∷ []) (map f (drop (suc i) us)) ∙ all2)

none_left : (us : List ℕ) (i : ℕ) → length us ≤ i → drop i us ≡ []
none_left [] zero le = refl
none_left [] (suc i) le = refl
none_left (u ∷ us) zero le = absurd (omega arith)
none_left (u ∷ us) (suc i) le = none_left us i (omega arith)

all_told : {X : Type 0} (f : ℕ → X) (told : List X) (us : List ℕ) (i : ℕ) → length us ≤ i → told ++ map f (drop i us) ≡ map f us → told ≡ map f us
all_told f told us i le all = sym (append-nil told) ∙ (rw (none_left us i le) at all)

whole : (first : ℕ) → first < 256 → first ≡ (first + 0) % 256
whole first lt = omega arith

-- the line of a universe as a life begins
pub first_line : (first u : ℕ) → first < 256 → record { universe = u; state = Running None; sequence_number = first; last = None } ≡ line_by first [] u
first_line first u lt = ap (λ (n : ℕ). record { universe = u; state = Running None; sequence_number = n; last = None }) (whole first lt)

pub more_lines : (first : ℕ) (told more : List UniverseLine) (us : List ℕ) (i u : ℕ) → first < 256 → i < length us → u ≡ get_or us i u → told ++ map (line_by first []) (drop i us) ≡ map (line_by first []) us →
    more ≡ told ++ record { universe = u; state = Running None; sequence_number = first; last = None } ∷ [] → more ++ map (line_by first []) (drop (i + 1) us) ≡ map (line_by first []) us
more_lines first told more us i u small lt is all e =
    more_told (line_by first []) told more us i u lt all (e ∙ ap (λ (l : UniverseLine). told ++ l ∷ []) (first_line first u small ∙ ap (line_by first []) is))

pub lines_told : (first : ℕ) (told : List UniverseLine) (us : List ℕ) (i : ℕ) → length us ≤ i → told ++ map (line_by first []) (drop i us) ≡ map (line_by first []) us → told ≡ map (line_by first []) us
lines_told first told us i le all = all_told (line_by first []) told us i le all

pub more_wakes : (told more : List ℕ) (us : List ℕ) (i : ℕ) → i < length us → told ++ map awake (drop i us) ≡ map awake us → more ≡ told ++ 0 ∷ [] → more ++ map awake (drop (i + 1) us) ≡ map awake us
more_wakes told more us i lt all e = more_told awake told more us i 0 lt all e

-- ---- the core

universes_told : (first : ℕ) (us : List ℕ) → universes_of (map (line_by first []) us) ≡ us
universes_told first [] = refl
universes_told first (u ∷ us) = ap (λ (xs : List ℕ). u ∷ xs) (universes_told first us)

all_awake : (us : List ℕ) (j : ℕ) → ◌≡◌ {A = ℕ} (get_or {A = ℕ} (map awake us) j 0) 0
all_awake [] j = refl
all_awake (u ∷ us) zero = refl
all_awake (u ∷ us) (suc j) = all_awake us j

same_length : (first : ℕ) (us : List ℕ) → length (map awake us) ≡ length (map (line_by first []) us)
same_length first [] = refl
same_length first (u ∷ us) = ap suc (same_length first us)

no_cycle : (b : Begun) → None ≡ Some b → ⊥
no_cycle b e = cc

not_before : (s w : ℕ) → w ≡ 0 → s < w → ⊥
not_before s w e lt = absurd (omega (arith, e, lt))

below_all : (x : ℕ) (ys : List ℕ) → ((j : ℕ) → j < length ys → x < get_or ys j 0) → AllByRecursion (λ y. x < y) ys
below_all x [] h = tt
below_all x (y ∷ ys) h = (h 0 (omega arith), below_all x ys (λ j lt. h (suc j) (omega (arith, lt))))

-- lists that ascend rise
pub rises : (xs : List ℕ) → AllPairs (λ x y. x < y) xs → Rising xs
rises [] h = tt
rises (x ∷ xs) h = (below_all x xs (λ j lt. h 0 (suc j) 0 (omega arith) (omega (arith, lt))), rises xs (λ i j d lt within. h (suc i) (suc j) d (omega (arith, lt)) (omega (arith, within))))

pub begun_sound : (s : ShowContent) (first : ℕ) (sender : Sender) (lines : List UniverseLine) (wakes : Waking) (listed : List ℕ) (patch : Patched) (player : Played) → ShowOk s → sender ≡ (life_of s first).sender →
    lines ≡ map (line_by first []) s.universes → wakes ≡ record { each = map awake s.universes; least = 0; from = 0 } → listed ≡ [] → player ≡ new_player s.cues →
    Sound wakes (record { sender = sender; lines = lines; cycle = None; listed = listed; lights = record { patch = patch; player = player }; moment = 0 })
begun_sound s first sender lines wakes listed patch player ok se le we ne pe = record {
  core = record {
    rising = rw (le, universes_told first s.universes) (rises s.universes (AllPairs-from_increasing s.universes ok.ascending));
    universes = rw (le, universes_told first s.universes) ok.universes;
    few = rw le (rw length-map ok.few);
    listed = rw ne tt;
    priority = rw se ok.priority;
    clock = rw pe refl;
    later = λ b e. absurd (no_cycle b e);
  };
  wakes_ok = rw we (record {
    counted = rw le (same_length first s.universes);
    woken = λ j d lt. (
      λ r rle rlt. absurd (not_before r (get_or {A = ℕ} (map awake s.universes) j 0) (all_awake s.universes j) rlt),
      λ still rlt last. absurd (not_before 0 (get_or {A = ℕ} (map awake s.universes) j 0) (all_awake s.universes j) rlt),
    );
    quiet = λ j d before jlt. absurd (omega (arith, before));
  });
}

pub begun_core : (s : ShowContent) (first : ℕ) (sender : Sender) (lines : List UniverseLine) (listed : List ℕ) (patch : Patched) (player : Played) → sender ≡ (life_of s first).sender →
    lines ≡ map (line_by first []) s.universes → listed ≡ [] → patch ≡ s.patch → player ≡ new_player s.cues →
    record { sender = sender; lines = lines; cycle = None; listed = listed; lights = record { patch = patch; player = player }; moment = 0 } ≡ core_by (life_of s first) 0 []
unfolding core_by lights_by
begun_core s first sender lines listed patch player se le ne te pe = rw (se, le, ne, te, pe) refl

-- Fades that are over.
use Rattle.std.proofs.Common.{◌≡◌, ℕ, zero, suc, ◌+◌, ◌-◌, ◌<◌, ◌≤◌, max, min, Bool, true, false, ◌&&◌, nat_lt, nat_le, List, [], ◌∷◌, get_or, replicate, Option, Some, None, if◌then◌else◌, ◌==◌, refl, sym, ap, ◌∙◌, arith}
use Rattle.std.specs.List.{list_all}
use Rattle.std.proofs.lemmas.Bool.Decides.{nat_tests}
use Rattle.sacn_cues.specs.Levels.{Ramp, Given, faded, level_in, begun_if_given, all_begun, end_of, last_moment, is_over_by, still, StaysLit, given_to, set_to, IsOver, StaysAt}
use Rattle.sacn_cues.specs.Channels.{is_channel}

both_true : (a b : Bool) → (a && b) ≡ true → (a ≡ true) × (b ≡ true)
both_true true b e = (refl, e)
both_true false b e = absurd (cc)

and_true : (a b : Bool) → a ≡ true → b ≡ true → (a && b) ≡ true
and_true true b e f = f
and_true false b e f = absurd (cc)

later_end : (end rest new_rest : ℕ) → rest ≤ new_rest → nat_le end rest ≡ true → nat_le end new_rest ≡ true
later_end end rest new_rest le over = grind (arith, nat_tests)

picked : (b : Bool) (now up down rest : ℕ) → nat_le (end_of now up) rest ≡ true → nat_le (end_of now down) rest ≡ true → nat_le (end_of now (if b then up else down)) rest ≡ true
picked true now up down rest u d = u
picked false now up down rest u d = d

-- what a command gives is over by this moment
abbrev pub EndsBy : ℕ → ℕ → Given → Type 0
EndsBy now rest given = (nat_le (end_of now given.up) rest ≡ true) × (nat_le (end_of now given.down) rest ≡ true)

one_over : (now rest new_rest : ℕ) (o : Option Given) (fade : Ramp) → rest ≤ new_rest → ((given : Given) → o ≡ Some given → EndsBy now new_rest given) → is_over_by rest fade ≡ true → is_over_by new_rest (begun_if_given now o fade) ≡ true
one_over now rest new_rest None fade le ends over = later_end (end_of fade.moment fade.time) rest new_rest le over
one_over now rest new_rest (Some given) fade le ends over =
    let by = ends given refl in
    picked (nat_lt (level_in fade now) given.level) now given.up given.down new_rest by.0 by.1

pub all_over : (gives : ℕ → Option Given) (now rest new_rest : ℕ) → rest ≤ new_rest → ((channel : ℕ) (given : Given) → gives channel ≡ Some given → EndsBy now new_rest given) → (channel : ℕ) (fades : List Ramp) → list_all (is_over_by rest) fades ≡ true → list_all (is_over_by new_rest) (all_begun gives now channel fades) ≡ true
all_over gives now rest new_rest le ends channel [] over = refl
all_over gives now rest new_rest le ends channel (fade ∷ fades) over =
    let parts = both_true (is_over_by rest fade) (list_all (is_over_by rest) fades) over in
    and_true (is_over_by new_rest (begun_if_given now (gives channel) fade)) (list_all (is_over_by new_rest) (all_begun gives now (suc channel) fades))
    (one_over now rest new_rest (gives channel) fade le (ends channel) parts.0)
    (all_over gives now rest new_rest le ends (suc channel) fades parts.1)

first_ends : (last now up down rest : ℕ) → min (now + up) last ≤ max rest (min (now + max up down) last)
first_ends last now up down rest = omega arith

second_ends : (last now up down rest : ℕ) → min (now + down) last ≤ max rest (min (now + max up down) last)
second_ends last now up down rest = omega arith

by_test : (a b : ℕ) → a ≤ b → nat_le a b ≡ true
by_test a b le = grind (arith, nat_tests)

pub rises : (rest end : ℕ) → rest ≤ max rest end
rises rest end = omega arith

given_ends : (now up down rest : ℕ) (o : Option ℕ) (given : Given) → given_to up down o ≡ Some given → EndsBy now (max rest (end_of now (max up down))) given
given_ends now up down rest None given is = absurd (cc)
given_ends now up down rest (Some level) given is =
    let u : given.up ≡ up = cc in
    let d : given.down ≡ down = cc in (
      ap (λ (t : ℕ). nat_le (end_of now t) (max rest (end_of now (max up down)))) u ∙ by_test (end_of now up) (max rest (end_of now (max up down))) (first_ends last_moment now up down rest),
      ap (λ (t : ℕ). nat_le (end_of now t) (max rest (end_of now (max up down)))) d ∙ by_test (end_of now down) (max rest (end_of now (max up down))) (second_ends last_moment now up down rest),
    )

-- after a cue, every fade is over by the end of its longer time
pub cue_over : (levels : ℕ → Option ℕ) (up down now rest : ℕ) (fades : List Ramp) → list_all (is_over_by rest) fades ≡ true → list_all (is_over_by (max rest (end_of now (max up down)))) (all_begun (λ channel. given_to up down (levels channel)) now 1 fades) ≡ true
cue_over levels up down now rest fades over = all_over (λ channel. given_to up down (levels channel)) now rest (max rest (end_of now (max up down))) (rises rest (end_of now (max up down))) (λ channel given is. given_ends now up down rest (levels channel) given is) 1 fades over

at_once : (last now rest : ℕ) → min (now + 0) last ≤ max rest now
at_once last now rest = omega arith

set_ends : (now rest level : ℕ) (b : Bool) (given : Given) → (if b then Some (record { level = level; up = 0; down = 0 }) else None) ≡ Some given → EndsBy now (max rest now) given
set_ends now rest level false given is = absurd (cc)
set_ends now rest level true given is =
    let u : given.up ≡ 0 = cc in
    let d : given.down ≡ 0 = cc in (
      ap (λ (t : ℕ). nat_le (end_of now t) (max rest now)) u ∙ by_test (end_of now 0) (max rest now) (at_once last_moment now rest),
      ap (λ (t : ℕ). nat_le (end_of now t) (max rest now)) d ∙ by_test (end_of now 0) (max rest now) (at_once last_moment now rest),
    )

-- a channel that is set is over at once
pub set_over : (channel level now rest : ℕ) (fades : List Ramp) → list_all (is_over_by rest) fades ≡ true → list_all (is_over_by (max rest now)) (all_begun (set_to channel level) now 1 fades) ≡ true
set_over channel level now rest fades over = all_over (set_to channel level) now rest (max rest now) (rises rest now) (λ at given is. set_ends now rest level (channel == at) given is) 1 fades over

pub still_over : (n : ℕ) → list_all (is_over_by 0) (replicate n still) ≡ true
still_over zero = refl
still_over (suc n) = still_over n

-- ---- levels of fades that are over

over_level_by : (b c : Bool) (to x y : ℕ) → b ≡ true → (if b then to else (if c then x else y)) ≡ to
over_level_by true c to x y is = refl
over_level_by false c to x y is = absurd (cc)

over_level : (fade : Ramp) (now : ℕ) → fade.moment + fade.time ≤ now → level_in fade now ≡ fade.to
unfolding faded
over_level fade now over = over_level_by (nat_le fade.time (now - fade.moment)) (nat_lt fade.from fade.to) fade.to _ _ (by_test fade.time (now - fade.moment) (omega arith))

end_is_plain : (last end rest : ℕ) → nat_le (min end last) rest ≡ true → rest < last → end ≤ rest
end_is_plain last end rest over before = let le : min end last ≤ rest = grind (arith, nat_tests) in omega arith

stays_one : (fade : Ramp) (rest now later : ℕ) → is_over_by rest fade ≡ true → rest < last_moment → rest ≤ now → rest ≤ later → level_in fade later ≡ level_in fade now
stays_one fade rest now later over before le1 le2 =
    let end : fade.moment + fade.time ≤ rest = end_is_plain last_moment (fade.moment + fade.time) rest over before in
    over_level fade later (omega (arith, end, le2)) ∙ sym (over_level fade now (omega (arith, end, le1)))

over_at : (rest : ℕ) (fades : List Ramp) (i : ℕ) (d : Ramp) → list_all (is_over_by rest) fades ≡ true → is_over_by rest d ≡ true → is_over_by rest (get_or fades i d) ≡ true
over_at rest [] i d all over = over
over_at rest (fade ∷ fades) zero d all over = (both_true (is_over_by rest fade) (list_all (is_over_by rest) fades) all).0
over_at rest (fade ∷ fades) (suc i) d all over = over_at rest fades i d (both_true (is_over_by rest fade) (list_all (is_over_by rest) fades) all).1 over

stays_if : (b : Bool) (x y : ℕ) → x ≡ y → (if b then x else 0) ≡ (if b then y else 0)
stays_if b x y same = ap (λ (n : ℕ). if b then n else 0) same

still_one : (rest : ℕ) → is_over_by rest still ≡ true
still_one rest = by_test (end_of 0 0) rest (omega arith)

pub stays_lit : (rest : ℕ) (fades : List Ramp) → list_all (is_over_by rest) fades ≡ true → rest < last_moment → StaysLit rest fades
stays_lit rest fades all before channel now later le1 le2 =
    stays_if (is_channel channel) (level_in (get_or fades (channel - 1) still) later) (level_in (get_or fades (channel - 1) still) now)
    (stays_one (get_or fades (channel - 1) still) rest now later (over_at rest fades (channel - 1) still all (still_one rest)) before le1 le2)

-- ---- one fade that is over

over_in : (fade : Ramp) (now : ℕ) → fade.time ≤ now - fade.moment → level_in fade now ≡ fade.to
unfolding faded
over_in fade now over = over_level_by (nat_le fade.time (now - fade.moment)) (nat_lt fade.from fade.to) fade.to _ _ (by_test fade.time (now - fade.moment) over)

longer_still : (time now later moment : ℕ) → time ≤ now - moment → now ≤ later → time ≤ later - moment
longer_still time now later moment over le = omega (arith, over, le)

pub over_later : (fade : Ramp) (now : ℕ) → fade.time ≤ now - fade.moment → IsOver fade now
over_later fade now over later le = over_in fade later (longer_still fade.time now later fade.moment over le) ∙ sym (over_in fade now over)

stays_by : (b : Bool) (f : Ramp) (now later : ℕ) → (b ≡ true → level_in f later ≡ level_in f now) → (if b then level_in f later else 0) ≡ (if b then level_in f now else 0)
stays_by true f now later same = same refl
stays_by false f now later same = refl

-- a channel whose fade is over
pub channel_stays : (fades : List Ramp) (channel now : ℕ) (f : Ramp) → f ≡ get_or fades (channel - 1) still → IsOver f now → StaysAt fades channel now
channel_stays fades channel now f is over later le = stays_by (is_channel channel) (get_or fades (channel - 1) still) now later (λ inside. rw is at (over later le))

-- what isn't a channel
pub outside_stays : (fades : List Ramp) (channel now : ℕ) → is_channel channel ≡ false → StaysAt fades channel now
outside_stays fades channel now outside later le = stays_by (is_channel channel) (get_or fades (channel - 1) still) now later (λ inside. absurd (cc))

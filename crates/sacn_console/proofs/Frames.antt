-- Frames of a player at its own moment, at later ones, and after its commands.
use Rattle.std.proofs.Common.{◌≡◌, ℕ, ◌*◌, ◌/◌, ◌-◌, ◌≤◌, ◌&&◌, max, Bool, true, false, nat_eq, List, [], ◌∷◌, map, ◌+◌, Option, Some, None, arith, ap, refl, ◌∙◌}
use Rattle.std.specs.Cmp.Lexicographic.{pointwise}
use Rattle.std.specs.FinMap.{get}
use Rattle.std.specs.List.{range_with_len}
use Rattle.std.proofs.lemmas.List.FromFn.{fill_by_all, length-map-range_with_len, get_or-map-range_with_len}
use Rattle.sacn_patch.specs.declared.part.Part.{Part}
use Rattle.sacn_patch.specs.Parts.{part_of_level}
use Rattle.sacn_patch.specs.Patch.{Patched, universe_frame, slot_level, EachShown}
use Rattle.sacn_cues.specs.declared.limits.TheConstants.{FULL}
use Rattle.sacn_cues.specs.Levels.{all_begun}
use Rattle.sacn_cues.specs.Playing.{Played, moved, after, gives, master_by, current_by, rest_by, level_mastered, StaysAsItIs, LevelStays}
use Rattle.sacn_cues.specs.Playing as play
use Rattle.sacn_console.specs.Wakes.{FrameStays}
use Rattle.sacn_console.specs.Lines.{same, state_sent}
use Rattle.sacn_console.specs.declared.line.Run.{Run}
use Rattle.sacn_console.specs.declared.line.State.TheVariants.{Running}
use Rattle.sacn_console.specs.Lights.{Lights, lights_at, frame, frame_now}

abbrev pub with_moment : Played → ℕ → Played
with_moment p m = record { cues = p.cues; moment = m; master = p.master; current = p.current; rest = p.rest; fades = p.fades }

same_max : (m t : ℕ) → m ≡ t → max m t ≡ m
same_max m t e = omega (arith, e)

-- a player whose clock shows a moment is as it was after a reading at it
pub settled : (p : Played) (t : ℕ) → p.moment ≡ t → moved t p ≡ p
settled p t e = ap (with_moment p) (same_max p.moment t e)

max_later : (m t s : ℕ) → t ≤ s → max (max m t) s ≡ max m s
max_later m t s le = omega (arith, le)

pub later : (p : Played) (t s : ℕ) → t ≤ s → moved s (moved t p) ≡ moved s p
later p t s le = ap (with_moment p) (max_later p.moment t s le)

max_twice : (m t s : ℕ) → max (max m t) s ≡ max m (max t s)
max_twice m t s = omega arith

pub twice : (p : Played) (t s : ℕ) → moved s (moved t p) ≡ moved (max t s) p
twice p t s = ap (with_moment p) (max_twice p.moment t s)

max_again : (m t : ℕ) → max (max m t) t ≡ max m t
max_again m t = omega arith

abbrev pub step_player : ℕ → play.Command → Played → ℕ → Played
step_player t k p begun = record {
  cues = p.cues;
  moment = max (max p.moment t) t;
  master = master_by p.master k;
  current = current_by p.cues p.current k;
  rest = rest_by p.cues p.current p.rest begun k;
  fades = all_begun (gives p.cues p.current k) begun 1 p.fades;
}

-- a command at a moment, after or before a reading at it
pub after_moved : (t : ℕ) (k : play.Command) (p : Played) → after t k (moved t p) ≡ moved t (after t k p)
unfolding after
after_moved t k p = ap (step_player t k p) (max_again p.moment t)

-- ---- frames

pub now_is : (l : Lights) (u t : ℕ) → l.player.moment ≡ t → frame l u t ≡ frame_now l u
unfolding frame
now_is l u t e = ap (λ (p : Played). frame_now (record { patch = l.patch; player = p }) u) (settled l.player t e)

pub frame_later : (l : Lights) (u t s : ℕ) → t ≤ s → frame (lights_at t l) u s ≡ frame l u s
unfolding frame
frame_later l u t s le = ap (λ (p : Played). frame_now (record { patch = l.patch; player = p }) u) (later l.player t s le)

-- while no fade runs, the frame stays
pub frame_stays : (l : Lights) (u s : ℕ) → StaysAsItIs l.player → frame l u s ≡ frame_now l u
unfolding frame frame_now
frame_stays l u s still = ap (λ (f : ℕ → ℕ). universe_frame (λ c. f c * l.player.master / FULL) l.patch u) (λ i c. still s c i)

slot_by : (f g : ℕ → ℕ) (o : Option Part) → ((part : Part) → o ≡ Some part → f part.channel ≡ g part.channel) → slot_level f o ≡ slot_level g o
slot_by f g None same = refl
slot_by f g (Some part) same = ap (λ (n : ℕ). part_of_level n part) (same part refl)

-- levels that are the same for each channel of a universe give it the same frame
same_frame : (f g : ℕ → ℕ) (patch : Patched) (u : ℕ) → EachShown patch u (λ c. f c ≡ g c) → universe_frame f patch u ≡ universe_frame g patch u
unfolding universe_frame
same_frame f g patch u each =
    let at : ℕ → ℕ = λ i. slot_level f (get patch (u, i + 1)) in
    fill_by_all (λ i. slot_level g (get patch (u, i + 1))) (map at (range_with_len 0 512)) 512 0 (length-map-range_with_len at 0 512) (λ i lt.
    let here : 0 + i ≡ i = omega arith in
    get_or-map-range_with_len at 0 512 i i 0 lt here
    ∙ slot_by f g (get patch (u, i + 1)) (λ part is. each (i + 1) part (omega arith) (omega (arith, lt)) is))

-- while none of its channels fades, a universe's frame stays
pub frame_rests : (l : Lights) (u : ℕ) → EachShown l.patch u (LevelStays l.player) → FrameStays l u
unfolding frame frame_now
frame_rests l u each s = same_frame (level_mastered (moved s l.player)) (level_mastered l.player) l.patch u (λ slot part least most is. each slot part least most is s)

-- ---- frames that are the same

pub same_self : (f : List ℕ) → same f f ≡ true
unfolding same
same_self [] = refl
same_self (x ∷ xs) = grind (arith, same_self xs)

parts : (a b : Bool) → (a && b) ≡ true → (a ≡ true) × (b ≡ true)
parts true b e = (refl, e)
parts false b e = absurd (cc)

equal_numbers : (a b : ℕ) → nat_eq a b ≡ true → a ≡ b
equal_numbers a b e = grind arith

equal_lists : (a b : List ℕ) → pointwise nat_eq a b ≡ true → a ≡ b
equal_lists [] [] e = refl
equal_lists [] (y ∷ ys) e = absurd (cc)
equal_lists (x ∷ xs) [] e = absurd (cc)
equal_lists (x ∷ xs) (y ∷ ys) e =
    let p = parts (nat_eq x y) (pointwise nat_eq xs ys) e in
    rw (equal_numbers x y p.0, equal_lists xs ys p.1) refl

pub same_is : (a b : List ℕ) → same a b ≡ true → a ≡ b
unfolding same
same_is a b e = equal_lists a b e

-- a run after a packet with its frame
pub run_repeated : (f : List ℕ) (r : Run) (owed : ℕ) → same r.frame f ≡ true → owed ≡ r.owed - 1 → Running (Some (record { frame = r.frame; owed = owed })) ≡ state_sent f (Running (Some r))
unfolding state_sent
run_repeated f r owed e is = rw (is, same_is r.frame f e, same_self f) refl

-- The moments at which lights go out: no telling changes them, and each that comes is one less to come.
use Rattle.std.proofs.Common.{◌≡◌, ◌<◌, ◌≤◌, ◌+◌, ◌-◌, ◌^◌, ℕ, zero, suc, min, max, nat_lt, ltb, Bool, true, false, cond, is_some, List, [], ◌∷◌, ◌++◌, length, set, slice_get, Option, None, Some, refl, sym, ap, subst, ◌∙◌, arith, ltb-true}
use Rattle.std.proofs.lemmas.Bool.{ltb-false, lt-ltb, le-ltb}
use Rattle.sacn_sources.specs.declared.limits.TheConstants.{NETWORK_DATA_LOSS}
use Rattle.sacn_monitor.specs.declared.holding.Holding.{Holding}
use Rattle.sacn_monitor.specs.declared.holding.Holding.TheVariants.{Nothing, Ended, Levels}
use Rattle.sacn_monitor.specs.declared.stream.Stream.{Stream}
use Rattle.sacn_monitor.specs.Holdings.{lasts, light_end}
use Rattle.sacn_monitor.specs.Books.{Book, changed, next_light_end, silent_place, told_at, with_told}
use Rattle.sacn_monitor.proofs.LightEnds.{one_later, one_most}
use Rattle.sacn_network.specs.declared.ledger.Ledger.{Ledger}
use Rattle.sacn_network.specs.declared.ledger.TheConstants.{MOST_STEPS}
use Rattle.sacn_network.specs.Losses.{after_end, lost_place, next_end, silence_told, silenced}
use Rattle.sacn_network.specs.LightEnds.{after_ends, after_light, comes_by, ends_told, light_end_of, light_told}
use Rattle.sacn_network.specs.Telling.{Told}
use Rattle.sacn_network.proofs.Ticks.{end_keeps, light_keeps, came, silenced_grows}

-- it doesn't come
pub not_yet : (t x : ℕ) → comes_by t x ≡ false → min (t + 1) (2 ^ 64 - 1) ≤ x
not_yet t x is = ltb-false x (min (t + 1) (2 ^ 64 - 1)) is

pub comes_not : (t x : ℕ) → t < x → comes_by t x ≡ false
comes_not t x later = le-ltb x (min (t + 1) (2 ^ 64 - 1)) (omega (arith, later))

-- ---- what is on goes out later

levels_after : (t renewed : ℕ) → min (t + 1) (2 ^ 64 - 1) ≤ light_end t (Levels renewed 0)
levels_after t renewed =
    elim (nat_lt (t - renewed) NETWORK_DATA_LOSS) as (λ x. nat_lt (t - renewed) NETWORK_DATA_LOSS ≡ x → min (t + 1) (2 ^ 64 - 1) ≤ cond x (min (renewed + NETWORK_DATA_LOSS) (2 ^ 64 - 1)) (2 ^ 64 - 1)) [
      | true ↦ λ is. let young = ltb-true (t - renewed) NETWORK_DATA_LOSS is in omega (arith, young)
      | false ↦ λ is. omega arith
    ] refl

one_after : (t : ℕ) (h : Holding) → min (t + 1) (2 ^ 64 - 1) ≤ light_end t h
one_after t Nothing = omega arith
one_after t (Ended renewed) = omega arith
one_after t (Levels renewed priority) = levels_after t renewed

pub next_after : (t : ℕ) (ss : List Stream) → min (t + 1) (2 ^ 64 - 1) ≤ next_light_end t ss
next_after t [] = omega arith
next_after t (s ∷ ss) =
    let first = one_after t s.account.holding in
    let rest = next_after t ss in
    omega (arith, first, rest)

-- ---- a telling changes no light

abbrev light_in : ℕ → Option Stream → ℕ
light_in t None = 0
light_in t (Some s) = light_end t s.account.holding

set_lights : (t i : ℕ) (ss : List Stream) (s : Stream) → slice_get ss i ≡ Some s → next_light_end t (set ss i (with_told s)) ≡ next_light_end t ss
set_lights t i [] s there = refl
set_lights t zero (x ∷ ss) s there =
    let same : light_end t x.account.holding ≡ light_end t s.account.holding = ap (light_in t) there in
    omega (arith, same)
set_lights t (suc i) (x ∷ ss) s there = let rest = set_lights t i ss s there in omega (arith, rest)

changed_lights : (t i : ℕ) (ss : List Stream) (o : Option Stream) → slice_get ss i ≡ o → next_light_end t (changed with_told i ss o) ≡ next_light_end t ss
changed_lights t i ss None is = refl
changed_lights t i ss (Some s) is = set_lights t i ss s is

pub told_lights : (t : ℕ) (o : Option ℕ) (ss : List Stream) → next_light_end t (told_at o ss) ≡ next_light_end t ss
told_lights t None ss = refl
told_lights t (Some i) ss = changed_lights t i ss (slice_get ss i) refl

pub silenced_lights : (k u t : ℕ) (n : Ledger) → next_light_end t (silenced k u n).monitor.streams ≡ next_light_end t n.monitor.streams
unfolding silenced
silenced_lights zero u t n = refl
silenced_lights (suc k) u t n =
    let m : Ledger = after_end u n in
    let place : Option ℕ = silent_place (max n.monitor.moment (next_end u n)) n.monitor.streams in
    let one : next_light_end t m.monitor.streams ≡ next_light_end t n.monitor.streams = ap (λ (b : Book). next_light_end t b.streams) (end_keeps u n) ∙ told_lights t place n.monitor.streams in
    elim (is_some (lost_place u n)) as (λ more. next_light_end t (cond more (silenced k u m) m).monitor.streams ≡ next_light_end t n.monitor.streams) [
      | true ↦ silenced_lights k u t m ∙ one
      | false ↦ one
    ]

-- ---- between two moments no light goes out

levels_same : (a b renewed : ℕ) → a ≤ b → min (b + 1) (2 ^ 64 - 1) ≤ light_end a (Levels renewed 0) → light_end b (Levels renewed 0) ≡ light_end a (Levels renewed 0)
levels_same a b renewed by later =
    elim (nat_lt (b - renewed) NETWORK_DATA_LOSS) as (λ y. nat_lt (b - renewed) NETWORK_DATA_LOSS ≡ y → cond y (min (renewed + NETWORK_DATA_LOSS) (2 ^ 64 - 1)) (2 ^ 64 - 1) ≡ light_end a (Levels renewed 0)) [
      | true ↦ λ is.
          let young = ltb-true (b - renewed) NETWORK_DATA_LOSS is in
          sym (ap (λ (x : Bool). cond x (min (renewed + NETWORK_DATA_LOSS) (2 ^ 64 - 1)) (2 ^ 64 - 1)) (lt-ltb (a - renewed) NETWORK_DATA_LOSS (omega (arith, young, by))))
      | false ↦ λ is.
          let old = ltb-false (b - renewed) NETWORK_DATA_LOSS is in
          elim (nat_lt (a - renewed) NETWORK_DATA_LOSS) as (λ x. min (b + 1) (2 ^ 64 - 1) ≤ cond x (min (renewed + NETWORK_DATA_LOSS) (2 ^ 64 - 1)) (2 ^ 64 - 1) → 2 ^ 64 - 1 ≡ cond x (min (renewed + NETWORK_DATA_LOSS) (2 ^ 64 - 1)) (2 ^ 64 - 1)) [
            | true ↦ λ after. omega (arith, after, old)
            | false ↦ λ after. refl
          ] later
    ] refl

pub one_same : (a b : ℕ) (h : Holding) → a ≤ b → min (b + 1) (2 ^ 64 - 1) ≤ light_end a h → light_end b h ≡ light_end a h
one_same a b Nothing by later = refl
one_same a b (Ended renewed) by later = refl
one_same a b (Levels renewed priority) by later = levels_same a b renewed by later

pub next_same : (a b : ℕ) (ss : List Stream) → a ≤ b → min (b + 1) (2 ^ 64 - 1) ≤ next_light_end a ss → next_light_end b ss ≡ next_light_end a ss
next_same a b [] by later = refl
next_same a b (s ∷ ss) by later =
    let first = one_same a b s.account.holding by (omega (arith, later)) in
    let rest = next_same a b ss by (omega (arith, later)) in
    omega (arith, first, rest)

-- ---- each that comes is one less to come

abbrev coming : ℕ → ℕ
coming x = cond (nat_lt x (2 ^ 64 - 1)) 1 0

abbrev pub lit : ℕ → List Stream → ℕ
lit t [] = 0
lit t (s ∷ ss) = coming (light_end t s.account.holding) + lit t ss

coming_most : (x : ℕ) → coming x ≤ 1
coming_most x =
    elim (nat_lt x (2 ^ 64 - 1)) as (λ b. cond b 1 0 ≤ 1) [
      | true ↦ omega arith
      | false ↦ omega arith
    ]

pub lit_most : (t : ℕ) (ss : List Stream) → lit t ss ≤ length ss
lit_most t [] = omega arith
lit_most t (s ∷ ss) = let first = coming_most (light_end t s.account.holding) in let rest = lit_most t ss in omega (arith, first, rest)

coming_later : (x y : ℕ) → x ≤ y → coming y ≤ coming x
coming_later x y by =
    elim (nat_lt y (2 ^ 64 - 1)) as (λ b. nat_lt y (2 ^ 64 - 1) ≡ b → cond b 1 0 ≤ coming x) [
      | true ↦ λ is. let low = ltb-true y (2 ^ 64 - 1) is in let same = ap (λ (b : Bool). let n : ℕ = cond b 1 0 in n) (lt-ltb x (2 ^ 64 - 1) (omega (arith, low, by))) in omega (arith, same)
      | false ↦ λ is. omega arith
    ] refl

lit_later : (a b : ℕ) (ss : List Stream) → a ≤ b → lit b ss ≤ lit a ss
lit_later a b [] by = omega arith
lit_later a b (s ∷ ss) by =
    let first = coming_later (light_end a s.account.holding) (light_end b s.account.holding) (one_later a b s.account.holding by) in
    let rest = lit_later a b ss by in
    omega (arith, first, rest)

-- a light that goes out by b is out at b
levels_out : (a b renewed : ℕ) → light_end a (Levels renewed 0) ≤ b → light_end a (Levels renewed 0) < 2 ^ 64 - 1 → light_end b (Levels renewed 0) ≡ 2 ^ 64 - 1
levels_out a b renewed =
    elim (nat_lt (a - renewed) NETWORK_DATA_LOSS) as (λ x. cond x (min (renewed + NETWORK_DATA_LOSS) (2 ^ 64 - 1)) (2 ^ 64 - 1) ≤ b → cond x (min (renewed + NETWORK_DATA_LOSS) (2 ^ 64 - 1)) (2 ^ 64 - 1) < 2 ^ 64 - 1 → light_end b (Levels renewed 0) ≡ 2 ^ 64 - 1) [
      | true ↦ λ by low. ap (λ (x : Bool). cond x (min (renewed + NETWORK_DATA_LOSS) (2 ^ 64 - 1)) (2 ^ 64 - 1)) (le-ltb (b - renewed) NETWORK_DATA_LOSS (omega (arith, by, low)))
      | false ↦ λ by low. absurd (omega (arith, low))
    ]

one_out : (a b : ℕ) (h : Holding) → light_end a h ≤ b → light_end a h < 2 ^ 64 - 1 → light_end b h ≡ 2 ^ 64 - 1
one_out a b Nothing by low = refl
one_out a b (Ended renewed) by low = refl
one_out a b (Levels renewed priority) by low = levels_out a b renewed by low

coming_one : (x : ℕ) → x < 2 ^ 64 - 1 → coming x ≡ 1
coming_one x low = ap (λ (b : Bool). let n : ℕ = cond b 1 0 in n) (lt-ltb x (2 ^ 64 - 1) low)

coming_none : (x : ℕ) → x ≡ 2 ^ 64 - 1 → coming x ≡ 0
coming_none x is = ap (λ (b : Bool). let n : ℕ = cond b 1 0 in n) (le-ltb x (2 ^ 64 - 1) (omega (arith, is)))

pub less_lit : (a b : ℕ) (ss : List Stream) → a ≤ b → next_light_end a ss ≤ b → next_light_end a ss < 2 ^ 64 - 1 → lit b ss + 1 ≤ lit a ss
less_lit a b [] by out low = absurd (omega (arith, low))
less_lit a b (s ∷ ss) by out low =
    let x : ℕ = light_end a s.account.holding in
    let y : ℕ = light_end b s.account.holding in
    elim (ltb (next_light_end a ss) x) as (λ c. ltb (next_light_end a ss) x ≡ c → lit b (s ∷ ss) + 1 ≤ lit a (s ∷ ss)) [
      | true ↦ λ is.
          let rest_first : next_light_end a ss < x = ltb-true (next_light_end a ss) x is in
          let rest = less_lit a b ss by (omega (arith, out, rest_first)) (omega (arith, low, rest_first)) in
          let first = coming_later x y (one_later a b s.account.holding by) in
          omega (arith, rest, first)
      | false ↦ λ is.
          let own_first : x ≤ next_light_end a ss = ltb-false (next_light_end a ss) x is in
          let came_on : coming x ≡ 1 = coming_one x (omega (arith, low, own_first)) in
          let went : coming y ≡ 0 = coming_none y (one_out a b s.account.holding (omega (arith, out, own_first)) (omega (arith, low, own_first))) in
          let rest = lit_later a b ss by in
          omega (arith, came_on, went, rest)
    ] refl

set_lit : (t i : ℕ) (ss : List Stream) (s : Stream) → slice_get ss i ≡ Some s → lit t (set ss i (with_told s)) ≡ lit t ss
set_lit t i [] s there = refl
set_lit t zero (x ∷ ss) s there =
    let same : coming (light_end t x.account.holding) ≡ coming (light_end t s.account.holding) = ap coming (ap (light_in t) there) in
    omega (arith, same)
set_lit t (suc i) (x ∷ ss) s there = let rest = set_lit t i ss s there in omega (arith, rest)

changed_lit : (t i : ℕ) (ss : List Stream) (o : Option Stream) → slice_get ss i ≡ o → lit t (changed with_told i ss o) ≡ lit t ss
changed_lit t i ss None is = refl
changed_lit t i ss (Some s) is = set_lit t i ss s is

told_lit : (t : ℕ) (o : Option ℕ) (ss : List Stream) → lit t (told_at o ss) ≡ lit t ss
told_lit t None ss = refl
told_lit t (Some i) ss = changed_lit t i ss (slice_get ss i) refl

pub silenced_lit : (k u t : ℕ) (n : Ledger) → lit t (silenced k u n).monitor.streams ≡ lit t n.monitor.streams
unfolding silenced
silenced_lit zero u t n = refl
silenced_lit (suc k) u t n =
    let m : Ledger = after_end u n in
    let place : Option ℕ = silent_place (max n.monitor.moment (next_end u n)) n.monitor.streams in
    let one : lit t m.monitor.streams ≡ lit t n.monitor.streams = ap (λ (b : Book). lit t b.streams) (end_keeps u n) ∙ told_lit t place n.monitor.streams in
    elim (is_some (lost_place u n)) as (λ more. lit t (cond more (silenced k u m) m).monitor.streams ≡ lit t n.monitor.streams) [
      | true ↦ silenced_lit k u t m ∙ one
      | false ↦ one
    ]

-- ---- one such moment, or none

pub ends_quiet : (k t : ℕ) (n : Ledger) → comes_by t (light_end_of n.monitor) ≡ false → after_ends k t n ≡ silenced MOST_STEPS t n
unfolding after_ends
ends_quiet zero t n is = refl
ends_quiet (suc k) t n is = ap (λ (b : Bool). cond b (after_ends k t (after_light (light_end_of n.monitor) n)) (silenced MOST_STEPS t n)) is

pub told_quiet : (k t : ℕ) (n : Ledger) → comes_by t (light_end_of n.monitor) ≡ false → ends_told k t n ≡ silence_told MOST_STEPS t n
unfolding ends_told
told_quiet zero t n is = refl
told_quiet (suc k) t n is =
    ap (λ (b : Bool). cond b (light_told (light_end_of n.monitor) n ++ ends_told k t (after_light (light_end_of n.monitor) n)) (silence_told MOST_STEPS t n)) is

pub ends_one : (k t : ℕ) (n : Ledger) → comes_by t (light_end_of n.monitor) ≡ true → after_ends (suc k) t n ≡ after_ends k t (after_light (light_end_of n.monitor) n)
unfolding after_ends
ends_one k t n is = ap (λ (b : Bool). cond b (after_ends k t (after_light (light_end_of n.monitor) n)) (silenced MOST_STEPS t n)) is

pub told_one_light : (k t : ℕ) (n : Ledger) → comes_by t (light_end_of n.monitor) ≡ true → ends_told (suc k) t n ≡ light_told (light_end_of n.monitor) n ++ ends_told k t (after_light (light_end_of n.monitor) n)
unfolding ends_told
told_one_light k t n is =
    ap (λ (b : Bool). cond b (light_told (light_end_of n.monitor) n ++ ends_told k t (after_light (light_end_of n.monitor) n)) (silence_told MOST_STEPS t n)) is

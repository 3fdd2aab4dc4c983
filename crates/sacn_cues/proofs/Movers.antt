-- The list of channels that still move, as a reckoning writes it.
use Rattle.std.proofs.Common.{◌≡◌, ℕ, ◌+◌, ◌-◌, ◌*◌, ◌/◌, ◌<◌, ◌≤◌, List, length, set, get_or, sym, ap, ◌∙◌, arith, inl, inr}
use Rattle.std.proofs.lemmas.Bool.{cases_eq}
use Rattle.std.proofs.lemmas.List.{get_or-set_same, get_or-set_other}
use Rattle.sacn_patch.specs.declared.limits.TheConstants.{MAX_CHANNELS}
use Rattle.sacn_cues.specs.declared.limits.TheConstants.{FULL}
use Rattle.sacn_cues.specs.Levels.{Ramp, level_in, IsOver}
use Rattle.sacn_cues.specs.LevelOctets.{HasLevel, IsPut, AreChannels, IsAbsent, IsKept}
use Rattle.sacn_cues.proofs.Octets.{other_put, own_put, put_filled}

-- a channel is written behind the first so many, and counted or not
module _ (list after : List ℕ) (kept n at : ℕ) (room : kept < length list) (written : after ≡ set list kept at) (least : kept ≤ n) (most : n ≤ kept + 1) where
  other_place : (k : ℕ) → (k ≡ kept → ⊥) → get_or after k 0 ≡ get_or list k 0
  other_place k apart = ap (λ (xs : List ℕ). get_or xs k 0) written ∙ get_or-set_other list kept k at 0 apart

  own_place : get_or after kept 0 ≡ at
  own_place = ap (λ (xs : List ℕ). get_or xs kept 0) written ∙ get_or-set_same list kept at 0 room

  pub more_channels : at < MAX_CHANNELS → AreChannels list 0 kept → AreChannels after 0 n
  more_channels inside are k from to = elim (cases_eq k kept) [
    | inl e ↦ rw (e, own_place) inside
    | inr apart ↦ rw (other_place k apart) (are k from (omega (arith, most, to, apart)))
  ]

  absent_before : (i : ℕ) → IsAbsent after 0 n i → IsAbsent list 0 kept i
  absent_before i none k from to same = none k from (omega (arith, least, to)) (other_place k (λ e. omega (arith, to, e)) ∙ same)

  -- and the octets of its level are put in their places
  module _ (octets new : List ℕ) (level : ℕ) (wide : 2 * at + 3 < length octets) (is : IsPut octets at level new) where
    own : (i x : ℕ) → i ≡ at → x ≡ level → HasLevel new i x
    own i x same level_is = rw (same, level_is) (own_put octets new at level wide is)

    pub one_filled : (i x : ℕ) → (i ≡ at → x ≡ level) → ((i ≡ at → ⊥) → HasLevel octets i x) → HasLevel new i x
    one_filled = put_filled octets new at level wide is

    settled_own : (i x : ℕ) → i ≡ at → (n ≡ kept → x ≡ level) → IsAbsent after 0 n i → HasLevel new i x
    settled_own i x same its none = elim (cases_eq n kept) [
      | inl over ↦ own i x same (its over)
      | inr runs ↦ absurd (none kept (omega arith) (omega (arith, least, runs)) (own_place ∙ sym same))
    ]

    -- a channel that isn't counted has settled, as those that weren't listed had
    pub one_settled : (i x : ℕ) → (i ≡ at → n ≡ kept → x ≡ level) → ((i ≡ at → ⊥) → IsAbsent list 0 kept i → HasLevel octets i x) → IsAbsent after 0 n i → HasLevel new i x
    one_settled i x its has none = elim (cases_eq i at) [
      | inl same ↦ settled_own i x same (its same) none
      | inr apart ↦ other_put octets new at level wide is i x apart (has apart (absent_before i none))
    ]

-- the channel stood at a place no nearer, so that what is behind that place is as it was
module _ (list after : List ℕ) (kept place count at : ℕ) (few : kept ≤ place) (lt : place < count) (here : get_or list place 0 ≡ at) (written : after ≡ set list kept at) where
  behind : (k : ℕ) → place + 1 ≤ k → get_or after k 0 ≡ get_or list k 0
  behind k le = ap (λ (xs : List ℕ). get_or xs k 0) written ∙ get_or-set_other list kept k at 0 (λ e. omega (arith, le, few, e))

  pub channels_behind : AreChannels list place count → AreChannels after (place + 1) count
  channels_behind are k from to = rw (behind k from) (are k (omega (arith, from)) to)

  pub absent_behind : (i : ℕ) → (i ≡ at → ⊥) → IsAbsent after (place + 1) count i → IsAbsent list place count i
  absent_behind i apart none k from to same = elim (cases_eq k place) [
    | inl e ↦ apart (sym same ∙ ap (λ (n : ℕ). get_or list n 0) e ∙ here)
    | inr other ↦ let le : place + 1 ≤ k = omega (arith, from, other) in none k le to (behind k le ∙ same)
  ]

-- the level of a channel, now and, where its fade is over, later
module _ (fades : List Ramp) (now master i at : ℕ) (blank : Ramp) (same : i ≡ at) where
  pub level_there : level_in (get_or fades i blank) now * master / FULL ≡ level_in (get_or fades at blank) now * master / FULL
  level_there = ap (λ (k : ℕ). level_in (get_or fades k blank) now * master / FULL) same

  pub level_then : (later : ℕ) → now ≤ later → IsOver (get_or fades at blank) now → level_in (get_or fades i blank) later * master / FULL ≡ level_in (get_or fades at blank) now * master / FULL
  level_then later le over = ap (λ (k : ℕ). level_in (get_or fades k blank) later * master / FULL) same ∙ ap (λ (n : ℕ). n * master / FULL) (over later le)

-- one channel is listed more, whose fade alone may be another now
pub one_more_kept : (octets list after : List ℕ) (n at : ℕ) (fades new : List Ramp) (master moment now : ℕ) → 1 ≤ n → n ≤ length list → length list ≡ MAX_CHANNELS → at < MAX_CHANNELS → after ≡ set list (n - 1) at → moment ≤ now → ((i : ℕ) (blank : Ramp) → (i ≡ at → ⊥) → get_or new i blank ≡ get_or fades i blank) → IsKept octets list (n - 1) fades master moment → IsKept octets after n new master now
one_more_kept octets list after n at fades new master moment now some few long inside written le others kept =
    let room : n - 1 < length list = omega (arith, some, few) in
    let least : n - 1 ≤ n = omega arith in
    let most : n ≤ n - 1 + 1 = omega arith in (
      omega (arith, few, long),
      more_channels list after (n - 1) n at room written least most inside kept.1,
      λ i within none later blank from.
          let apart : i ≡ at → ⊥ = λ same. none (n - 1) (omega arith) (omega (arith, some)) (own_place list after (n - 1) n at room written least most ∙ sym same) in
          rw (others i blank apart) (kept.2 i within (absent_before list after (n - 1) n at room written least most i none) later blank (omega (arith, le, from))),
    )

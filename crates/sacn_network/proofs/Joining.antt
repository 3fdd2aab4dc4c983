-- Ticks join: what is told up to a moment, and then up to a later one, is what is told up to the later one at once.
use Rattle.std.proofs.Common.{◌≡◌, ◌<◌, ◌≤◌, ◌+◌, ◌-◌, ◌^◌, ◌∷◌, ℕ, zero, suc, min, max, ltb, Bool, true, false, cond, is_some, List, [], ◌++◌, length, Option, None, Some, refl, sym, ap, ◌∙◌, append_assoc, arith, ltb-true}
use Rattle.std.proofs.lemmas.Bool.{ltb-false, lt-ltb}
use Rattle.sacn_monitor.specs.declared.limits.TheConstants.{MAX_STREAMS}
use Rattle.sacn_monitor.specs.declared.stream.Stream.{Stream}
use Rattle.sacn_monitor.specs.Holdings.{light_end}
use Rattle.sacn_monitor.specs.Books.{Book, next_light_end, next_loss, silent_place, told_at}
use Rattle.sacn_network.specs.declared.ledger.Ledger.{Ledger}
use Rattle.sacn_network.specs.declared.ledger.TheConstants.{MOST_STEPS}
use Rattle.sacn_network.specs.Losses.{after_end, after_loss, at_end, end_told, loss_told, lost_place, next_end, silence_told, silenced}
use Rattle.sacn_network.specs.declared.light_ends.TheConstants.{MOST_LIGHTS}
use Rattle.sacn_network.specs.Contests.{contest_in, with_contest_in}
use Rattle.sacn_network.specs.LightEnds.{after_ends, after_light, after_outs, comes_by, ends_told, light_end_of, light_told, out_universe, outs_told}
use Rattle.sacn_network.specs.Networks.{JoinsLater, tick_told, ticked}
use Rattle.sacn_network.specs.Telling.{Told}
use Rattle.sacn_network.proofs.Lights.{ends_one, ends_quiet, less_lit, lit, lit_most, next_after, next_same, not_yet, one_same, silenced_lights, silenced_lit, told_one_light, told_quiet}
use Rattle.sacn_network.proofs.Ticks.{came, end_keeps, light_keeps, silenced_grows, ticked_by}
use Rattle.sacn_network.proofs.Tracking.{light_is_silent}
use Rattle.sacn_network.proofs.Waking.{none_lost, one_step_ledger, one_step_told}
use Rattle.sacn_network.proofs.Whole.{told_less, untold, untold_most}

-- ---- one step

more_ledger : (steps t : ℕ) (n : Ledger) (i : ℕ) → lost_place t n ≡ Some i → silenced (suc steps) t n ≡ silenced steps t (after_end t n)
unfolding silenced
more_ledger steps t n i is = ap (λ (o : Option ℕ). cond (is_some o) (silenced steps t (after_end t n)) (after_end t n)) is

more_told : (steps t : ℕ) (n : Ledger) (i : ℕ) → lost_place t n ≡ Some i → silence_told (suc steps) t n ≡ end_told t n ++ silence_told steps t (after_end t n)
unfolding silence_told
more_told steps t n i is = ap (λ (o : Option ℕ). end_told t n ++ cond (is_some o) (silence_told steps t (after_end t n)) []) is

-- a loss that is told is one less to tell
less_untold : (t : ℕ) (n : Ledger) (i : ℕ) → lost_place t n ≡ Some i → untold (after_end t n).monitor.streams + 1 ≡ untold n.monitor.streams
unfolding lost_place
less_untold t n i is =
    let ss : List Stream = n.monitor.streams in
    let streams : (after_end t n).monitor.streams ≡ told_at (Some i) ss = ap (λ (b : Book). b.streams) (end_keeps t n) ∙ ap (λ (o : Option ℕ). told_at o ss) is in
    let less : untold (told_at (Some i) ss) + 1 ≡ untold ss = told_less (max n.monitor.moment (next_end t n)) ss i is in
    omega (arith, less, ap untold streams)

-- more steps than there are losses do no more
enough : (t k j : ℕ) (n : Ledger) → untold n.monitor.streams < k → untold n.monitor.streams < j → (silenced k t n ≡ silenced j t n) × (silence_told k t n ≡ silence_told j t n)
enough t zero j n few more = absurd (omega (arith, few))
enough t (suc k) zero n few more = absurd (omega (arith, more))
enough t (suc k) (suc j) n few more =
    elim (lost_place t n) as (λ o. lost_place t n ≡ o → (silenced (suc k) t n ≡ silenced (suc j) t n) × (silence_told (suc k) t n ≡ silence_told (suc j) t n)) [
      | None ↦ λ is. (one_step_ledger k t n is ∙ sym (one_step_ledger j t n is), one_step_told k t n is ∙ sym (one_step_told j t n is))
      | Some i ↦ λ is.
          let less = less_untold t n i is in
          let rest = enough t k j (after_end t n) (omega (arith, few, less)) (omega (arith, more, less)) in (
            more_ledger k t n i is ∙ rest.0 ∙ sym (more_ledger j t n i is),
            more_told k t n i is ∙ ap (λ (os : List Told). end_told t n ++ os) rest.1 ∙ sym (more_told j t n i is),
          )
    ] refl

-- ---- a clock that waits for what comes next changes nothing

abbrev waited : ℕ → Ledger → Ledger
waited e n = record n { monitor = record n.monitor { moment = max n.monitor.moment e } }

-- the ledger with the clock at x, and what is lost then told
abbrev told_then : ℕ → Ledger → Ledger
told_then x n = record n { monitor = record n.monitor { streams = told_at (silent_place x n.monitor.streams) n.monitor.streams; moment = x } }

waits_at : (e t : ℕ) (n : Ledger) → e ≤ next_end t n → max (max n.monitor.moment e) (next_end t n) ≡ max n.monitor.moment (next_end t n)
waits_at e t n by = omega (arith, by)

waits_ledger : (k e t : ℕ) (n : Ledger) → e ≤ next_end t n → silenced (suc k) t (waited e n) ≡ silenced (suc k) t n
unfolding silenced after_end lost_place
waits_ledger k e t n by =
    ap (λ (x : ℕ). let m : Ledger = after_loss (silent_place x n.monitor.streams) (told_then x n) in cond (is_some (silent_place x n.monitor.streams)) (silenced k t m) m) (waits_at e t n by)

waits_told : (k e t : ℕ) (n : Ledger) → e ≤ next_end t n → silence_told (suc k) t (waited e n) ≡ silence_told (suc k) t n
unfolding silence_told end_told after_end lost_place
waits_told k e t n by =
    ap (λ (x : ℕ). loss_told (silent_place x n.monitor.streams) (told_then x n)
    ++ cond (is_some (silent_place x n.monitor.streams)) (silence_told k t (after_loss (silent_place x n.monitor.streams) (told_then x n))) []) (waits_at e t n by)

-- ---- up to a moment, and then up to a later one

module _ (u t : ℕ) (by : u ≤ t) where
  none_is : (n : Ledger) → lost_place u n ≡ None → at_end u n ≡ waited (next_end u n) n
  unfolding lost_place
  none_is n is = ap (λ (o : Option ℕ). let m : Ledger = record n { monitor = record n.monitor { streams = told_at o n.monitor.streams; moment = max n.monitor.moment (next_end u n) } } in m) is

  missed : (o : Option ℕ) (i : ℕ) → o ≡ None → o ≡ Some i → ⊥
  missed o i none some = let bad : ⊥ = cc in bad

  -- a loss by the earlier moment comes at the same moment for both
  same_end : (n : Ledger) (i : ℕ) → n.monitor.moment ≤ u → lost_place u n ≡ Some i → next_end u n ≡ next_end t n
  same_end n i later is =
      elim (ltb u (next_loss n.monitor.streams)) as (λ b. ltb u (next_loss n.monitor.streams) ≡ b → next_end u n ≡ next_end t n) [
        | true ↦ λ early. let before = ltb-true u (next_loss n.monitor.streams) early in absurd (missed (lost_place u n) i (none_lost u n (omega (arith, before, later))) is)
        | false ↦ λ late. let past = ltb-false u (next_loss n.monitor.streams) late in omega (arith, past, by)
      ] refl

  same_place : (n : Ledger) → next_end u n ≡ next_end t n → lost_place u n ≡ lost_place t n
  unfolding lost_place
  same_place n same = ap (λ (e : ℕ). silent_place (max n.monitor.moment e) n.monitor.streams) same

  same_after : (n : Ledger) → next_end u n ≡ next_end t n → after_end u n ≡ after_end t n
  unfolding after_end lost_place
  same_after n same = ap (λ (e : ℕ). after_loss (silent_place (max n.monitor.moment e) n.monitor.streams) (told_then (max n.monitor.moment e) n)) same

  same_told : (n : Ledger) → next_end u n ≡ next_end t n → end_told u n ≡ end_told t n
  unfolding end_told lost_place
  same_told n same = ap (λ (e : ℕ). loss_told (silent_place (max n.monitor.moment e) n.monitor.streams) (told_then (max n.monitor.moment e) n)) same

  end_moment : (n : Ledger) → n.monitor.moment ≤ u → (after_end u n).monitor.moment ≤ u
  end_moment n later = let is = ap (λ (b : Book). b.moment) (end_keeps u n) in omega (arith, is, later)

  joined : (k j : ℕ) (n : Ledger) → n.monitor.moment ≤ u → untold n.monitor.streams < k → untold n.monitor.streams < j
      → (silenced j t (silenced k u n) ≡ silenced j t n) × (silence_told k u n ++ silence_told j t (silenced k u n) ≡ silence_told j t n)
  joined zero j n later few more = absurd (omega (arith, few))
  joined (suc k) zero n later few more = absurd (omega (arith, more))
  joined (suc k) (suc j) n later few more =
      elim (lost_place u n) as (λ o. lost_place u n ≡ o → (silenced (suc j) t (silenced (suc k) u n) ≡ silenced (suc j) t n)
      × (silence_told (suc k) u n ++ silence_told (suc j) t (silenced (suc k) u n) ≡ silence_told (suc j) t n)) [
        | None ↦ λ is.
            let stays : silenced (suc k) u n ≡ waited (next_end u n) n = one_step_ledger k u n is ∙ none_is n is in
            let low : next_end u n ≤ next_end t n = omega (arith, by) in (
              ap (silenced (suc j) t) stays ∙ waits_ledger j (next_end u n) t n low,
              ap (λ (os : List Told). os ++ silence_told (suc j) t (silenced (suc k) u n)) (one_step_told k u n is) ∙ ap (silence_told (suc j) t) stays ∙ waits_told j (next_end u n) t n low,
            )
        | Some i ↦ λ is.
            let m : Ledger = after_end u n in
            let same : next_end u n ≡ next_end t n = same_end n i later is in
            let place : lost_place t n ≡ Some i = sym (same_place n same) ∙ is in
            let less : untold m.monitor.streams + 1 ≡ untold n.monitor.streams = less_untold u n i is in
            let rest = joined k (suc j) m (end_moment n later) (omega (arith, few, less)) (omega (arith, more, less)) in
            let steps = enough t (suc j) j m (omega (arith, more, less)) (omega (arith, more, less)) in
            let first : silenced (suc k) u n ≡ silenced k u m = more_ledger k u n i is in (
              ap (silenced (suc j) t) first ∙ rest.0 ∙ steps.0 ∙ ap (silenced j t) (same_after n same) ∙ sym (more_ledger j t n i place),
              ap (λ (l : Ledger). silence_told (suc k) u n ++ silence_told (suc j) t l) first
                  ∙ ap (λ (os : List Told). os ++ silence_told (suc j) t (silenced k u m)) (more_told k u n i is)
                  ∙ append_assoc (end_told u n) (silence_told k u m) (silence_told (suc j) t (silenced k u m))
                  ∙ ap (λ (os : List Told). end_told u n ++ os) (rest.1 ∙ steps.1 ∙ ap (silence_told j t) (same_after n same))
                  ∙ ap (λ (os : List Told). os ++ silence_told j t (after_end t n)) (same_told n same)
                  ∙ sym (more_told j t n i place),
            )
      ] refl

-- ---- silence alone

silence_low : (k u : ℕ) (n : Ledger) → n.monitor.moment ≤ u → (silenced k u n).monitor.moment ≤ u
unfolding silenced
silence_low zero u n later = later
silence_low (suc k) u n later =
    let m : Ledger = after_end u n in
    let low : m.monitor.moment ≤ u = let is = ap (λ (b : Book). b.moment) (end_keeps u n) in omega (arith, is, later) in
    elim (is_some (lost_place u n)) as (λ more. (cond more (silenced k u m) m).monitor.moment ≤ u) [
      | true ↦ silence_low k u m low
      | false ↦ low
    ]

silences_join : (u t : ℕ) → u ≤ t → (n : Ledger) → n.monitor.moment ≤ u → length n.monitor.streams ≤ MAX_STREAMS
    → (silenced MOST_STEPS t (silenced MOST_STEPS u n) ≡ silenced MOST_STEPS t n) × (silence_told MOST_STEPS u n ++ silence_told MOST_STEPS t (silenced MOST_STEPS u n) ≡ silence_told MOST_STEPS t n)
silences_join u t by n later room =
    let most = untold_most n.monitor.streams in
    let few : untold n.monitor.streams < MOST_STEPS = omega (arith, most, room) in
    joined u t by MOST_STEPS MOST_STEPS n later few few

-- ---- lights

abbrev pub lit_in : Ledger → ℕ
lit_in n = lit n.monitor.moment n.monitor.streams

-- a light that went out is one less to go out
pub less_to_go : (t : ℕ) (n : Ledger) → length n.monitor.streams ≤ MAX_STREAMS → comes_by t (light_end_of n.monitor) ≡ true → lit_in (after_light (light_end_of n.monitor) n) + 1 ≤ lit_in n
less_to_go t n room is =
    let at : ℕ = light_end_of n.monitor in
    let m : Ledger = after_light at n in
    let early = came t at is in
    let after = next_after n.monitor.moment n.monitor.streams in
    let less : lit at n.monitor.streams + 1 ≤ lit_in n = less_lit n.monitor.moment at n.monitor.streams (omega (arith, after, early.1)) (omega arith) early.1 in
    let moment = (light_is_silent t n is room).moment in
    let streams : lit at m.monitor.streams ≡ lit at n.monitor.streams = ap (λ (b : Book). lit at b.streams) (light_keeps at n) ∙ silenced_lit MOST_STEPS at at n in
    omega (arith, less, streams, ap (λ (x : ℕ). lit x m.monitor.streams) moment)

-- more steps than there are lights do no more
enough_ends : (t k j : ℕ) (n : Ledger) → length n.monitor.streams ≤ MAX_STREAMS → lit_in n ≤ k → lit_in n ≤ j → (after_ends k t n ≡ after_ends j t n) × (ends_told k t n ≡ ends_told j t n)
enough_ends t zero zero n room few more = (refl, refl)
enough_ends t zero (suc j) n room few more =
    elim (comes_by t (light_end_of n.monitor)) as (λ b. comes_by t (light_end_of n.monitor) ≡ b → (after_ends zero t n ≡ after_ends (suc j) t n) × (ends_told zero t n ≡ ends_told (suc j) t n)) [
      | true ↦ λ is. let less = less_to_go t n room is in absurd (omega (arith, less, few))
      | false ↦ λ is. (ends_quiet zero t n is ∙ sym (ends_quiet (suc j) t n is), told_quiet zero t n is ∙ sym (told_quiet (suc j) t n is))
    ] refl
enough_ends t (suc k) zero n room few more =
    elim (comes_by t (light_end_of n.monitor)) as (λ b. comes_by t (light_end_of n.monitor) ≡ b → (after_ends (suc k) t n ≡ after_ends zero t n) × (ends_told (suc k) t n ≡ ends_told zero t n)) [
      | true ↦ λ is. let less = less_to_go t n room is in absurd (omega (arith, less, more))
      | false ↦ λ is. (ends_quiet (suc k) t n is ∙ sym (ends_quiet zero t n is), told_quiet (suc k) t n is ∙ sym (told_quiet zero t n is))
    ] refl
enough_ends t (suc k) (suc j) n room few more =
    let at : ℕ = light_end_of n.monitor in
    let m : Ledger = after_light at n in
    elim (comes_by t at) as (λ b. comes_by t at ≡ b → (after_ends (suc k) t n ≡ after_ends (suc j) t n) × (ends_told (suc k) t n ≡ ends_told (suc j) t n)) [
      | true ↦ λ is.
          let less = less_to_go t n room is in
          let rest = enough_ends t k j m (light_is_silent t n is room).most (omega (arith, few, less)) (omega (arith, more, less)) in (
            ends_one k t n is ∙ rest.0 ∙ sym (ends_one j t n is),
            told_one_light k t n is ∙ ap (λ (os : List Told). light_told at n ++ os) rest.1 ∙ sym (told_one_light j t n is),
          )
      | false ↦ λ is. (ends_quiet (suc k) t n is ∙ sym (ends_quiet (suc j) t n is), told_quiet (suc k) t n is ∙ sym (told_quiet (suc j) t n is))
    ] refl

-- the same lights are out since either of two moments between which none went out
module _ (a b : ℕ) (by : a ≤ b) where
  same_universe : (t : ℕ) (s : Stream) → min (b + 1) (2 ^ 64 - 1) ≤ light_end a s.account.holding → out_universe b t (Some s) ≡ out_universe a t (Some s)
  same_universe t s later = ap (λ (x : ℕ). cond (comes_by t x) (Some s.universe) None) (one_same a b s.account.holding by later)

  same_outs : (ss : List Stream) (n : Ledger) → min (b + 1) (2 ^ 64 - 1) ≤ next_light_end a ss → (after_outs b ss n ≡ after_outs a ss n) × (outs_told b ss n ≡ outs_told a ss n)
  unfolding after_outs outs_told
  same_outs [] n later = (refl, refl)
  same_outs (s ∷ ss) n later =
      let same = same_universe n.monitor.moment s (omega (arith, later)) in
      let rest = same_outs ss (with_contest_in (out_universe a n.monitor.moment (Some s)) n) (omega (arith, later)) in (
        ap (λ (o : Option ℕ). after_outs b ss (with_contest_in o n)) same ∙ rest.0,
        ap (λ (o : Option ℕ). contest_in o n ++ outs_told b ss (with_contest_in o n)) same ∙ ap (λ (os : List Told). contest_in (out_universe a n.monitor.moment (Some s)) n ++ os) rest.1,
      )

-- a clock that waits for the next light changes nothing
module _ (u t : ℕ) (by : u ≤ t) (n : Ledger) (later : n.monitor.moment ≤ u) (room : length n.monitor.streams ≤ MAX_STREAMS) (none : comes_by u (light_end_of n.monitor) ≡ false) where
  abbrev waiting : Ledger
  waiting = silenced MOST_STEPS u n

  same_light : light_end_of waiting.monitor ≡ light_end_of n.monitor
  same_light =
      let grows = silenced_grows MOST_STEPS u n in
      let low = silence_low MOST_STEPS u n later in
      let past = not_yet u (light_end_of n.monitor) none in
      silenced_lights MOST_STEPS u waiting.monitor.moment n ∙ next_same n.monitor.moment waiting.monitor.moment n.monitor.streams grows (omega (arith, low, past))

  waits_light : (at : ℕ) → u ≤ at → at ≡ light_end_of n.monitor → (after_light at waiting ≡ after_light at n) × (silence_told MOST_STEPS u n ++ light_told at waiting ≡ light_told at n)
  unfolding after_light light_told
  waits_light at on is =
      let m : Ledger = silenced MOST_STEPS at n in
      let join = silences_join u at on n later room in
      let grows = silenced_grows MOST_STEPS u n in
      let low = silence_low MOST_STEPS u n later in
      let past = not_yet u (light_end_of n.monitor) none in
      let lights = silenced_lights MOST_STEPS at n.monitor.moment n in
      let outs = same_outs n.monitor.moment waiting.monitor.moment grows m.monitor.streams m (omega (arith, low, past, lights)) in (
        ap (λ (l : Ledger). after_outs waiting.monitor.moment l.monitor.streams l) join.0 ∙ outs.0,
        sym (append_assoc (silence_told MOST_STEPS u n) (silence_told MOST_STEPS at waiting) (outs_told waiting.monitor.moment (silenced MOST_STEPS at waiting).monitor.streams (silenced MOST_STEPS at waiting)))
            ∙ ap (λ (os : List Told). os ++ outs_told waiting.monitor.moment (silenced MOST_STEPS at waiting).monitor.streams (silenced MOST_STEPS at waiting)) join.1
            ∙ ap (λ (l : Ledger). silence_told MOST_STEPS at n ++ outs_told waiting.monitor.moment l.monitor.streams l) join.0
            ∙ ap (λ (os : List Told). silence_told MOST_STEPS at n ++ os) outs.1,
      )

  waits_ends : (j : ℕ) → lit_in n ≤ j → (after_ends j t waiting ≡ after_ends j t n) × (silence_told MOST_STEPS u n ++ ends_told j t waiting ≡ ends_told j t n)
  waits_ends zero few =
      elim (comes_by t (light_end_of n.monitor)) as (λ b. comes_by t (light_end_of n.monitor) ≡ b → (after_ends zero t waiting ≡ after_ends zero t n) × (silence_told MOST_STEPS u n ++ ends_told zero t waiting ≡ ends_told zero t n)) [
        | true ↦ λ is. let less = less_to_go t n room is in absurd (omega (arith, less, few))
        | false ↦ λ is. quiet_wait zero is
      ] refl
    where
      quiet_wait : (j : ℕ) → comes_by t (light_end_of n.monitor) ≡ false → (after_ends j t waiting ≡ after_ends j t n) × (silence_told MOST_STEPS u n ++ ends_told j t waiting ≡ ends_told j t n)
      quiet_wait j is =
          let still : comes_by t (light_end_of waiting.monitor) ≡ false = ap (comes_by t) same_light ∙ is in
          let join = silences_join u t by n later room in (
            ends_quiet j t waiting still ∙ join.0 ∙ sym (ends_quiet j t n is),
            ap (λ (os : List Told). silence_told MOST_STEPS u n ++ os) (told_quiet j t waiting still) ∙ join.1 ∙ sym (told_quiet j t n is),
          )
  waits_ends (suc j) few =
      elim (comes_by t (light_end_of n.monitor)) as (λ b. comes_by t (light_end_of n.monitor) ≡ b → (after_ends (suc j) t waiting ≡ after_ends (suc j) t n) × (silence_told MOST_STEPS u n ++ ends_told (suc j) t waiting ≡ ends_told (suc j) t n)) [
        | true ↦ λ is.
            let at : ℕ = light_end_of n.monitor in
            let comes : comes_by t (light_end_of waiting.monitor) ≡ true = ap (comes_by t) same_light ∙ is in
            let past = not_yet u at none in
            let early = came t at is in
            let light = waits_light at (omega (arith, past, early.1)) refl in (
              ends_one j t waiting comes ∙ ap (λ (x : ℕ). after_ends j t (after_light x waiting)) same_light ∙ ap (after_ends j t) light.0 ∙ sym (ends_one j t n is),
              ap (λ (os : List Told). silence_told MOST_STEPS u n ++ os) (told_one_light j t waiting comes ∙ ap (λ (x : ℕ). light_told x waiting ++ ends_told j t (after_light x waiting)) same_light)
                  ∙ sym (append_assoc (silence_told MOST_STEPS u n) (light_told at waiting) (ends_told j t (after_light at waiting)))
                  ∙ ap (λ (os : List Told). os ++ ends_told j t (after_light at waiting)) light.1
                  ∙ ap (λ (l : Ledger). light_told at n ++ ends_told j t l) light.0
                  ∙ sym (told_one_light j t n is),
            )
        | false ↦ λ is.
            let still : comes_by t (light_end_of waiting.monitor) ≡ false = ap (comes_by t) same_light ∙ is in
            let join = silences_join u t by n later room in (
              ends_quiet (suc j) t waiting still ∙ join.0 ∙ sym (ends_quiet (suc j) t n is),
              ap (λ (os : List Told). silence_told MOST_STEPS u n ++ os) (told_quiet (suc j) t waiting still) ∙ join.1 ∙ sym (told_quiet (suc j) t n is),
            )
      ] refl

-- up to u, and then up to t
module _ (u t : ℕ) (by : u ≤ t) where
  abbrev Joined : ℕ → ℕ → Ledger → Type 0
  Joined k j n = (after_ends j t (after_ends k u n) ≡ after_ends j t n) × (ends_told k u n ++ ends_told j t (after_ends k u n) ≡ ends_told j t n)

  rests : (k j : ℕ) (n : Ledger) → n.monitor.moment ≤ u → length n.monitor.streams ≤ MAX_STREAMS → lit_in n ≤ j → comes_by u (light_end_of n.monitor) ≡ false → Joined k j n
  rests k j n later room more is =
      let wait = waits_ends u t by n later room is j more in
      let stays = ends_quiet k u n is in (
        ap (after_ends j t) stays ∙ wait.0,
        ap (λ (l : Ledger). ends_told k u n ++ ends_told j t l) stays ∙ ap (λ (os : List Told). os ++ ends_told j t (silenced MOST_STEPS u n)) (told_quiet k u n is) ∙ wait.1,
      )

  joined_ends : (k j : ℕ) (n : Ledger) → n.monitor.moment ≤ u → length n.monitor.streams ≤ MAX_STREAMS → lit_in n ≤ k → lit_in n ≤ j → Joined k j n
  joined_ends zero j n later room few more =
      elim (comes_by u (light_end_of n.monitor)) as (λ b. comes_by u (light_end_of n.monitor) ≡ b → Joined zero j n) [
        | true ↦ λ is. let less = less_to_go u n room is in absurd (omega (arith, less, few))
        | false ↦ λ is. rests zero j n later room more is
      ] refl
  joined_ends (suc k) zero n later room few more =
      elim (comes_by u (light_end_of n.monitor)) as (λ b. comes_by u (light_end_of n.monitor) ≡ b → Joined (suc k) zero n) [
        | true ↦ λ is. let less = less_to_go u n room is in absurd (omega (arith, less, more))
        | false ↦ λ is. rests (suc k) zero n later room more is
      ] refl
  joined_ends (suc k) (suc j) n later room few more =
      elim (comes_by u (light_end_of n.monitor)) as (λ b. comes_by u (light_end_of n.monitor) ≡ b → Joined (suc k) (suc j) n) [
        | true ↦ λ is.
            let at : ℕ = light_end_of n.monitor in
            let m : Ledger = after_light at n in
            let early = came u at is in
            let comes : comes_by t at ≡ true = lt-ltb at (min (t + 1) (2 ^ 64 - 1)) (omega (arith, early.0, early.1, by)) in
            let less = less_to_go u n room is in
            let silent = light_is_silent u n is room in
            let moment = silent.moment in
            let rest = joined_ends k (suc j) m (omega (arith, moment, early.0)) silent.most (omega (arith, few, less)) (omega (arith, more, less)) in
            let steps = enough_ends t (suc j) j m silent.most (omega (arith, more, less)) (omega (arith, more, less)) in
            let first : after_ends (suc k) u n ≡ after_ends k u m = ends_one k u n is in (
              ap (after_ends (suc j) t) first ∙ rest.0 ∙ steps.0 ∙ sym (ends_one j t n comes),
              ap (λ (l : Ledger). ends_told (suc k) u n ++ ends_told (suc j) t l) first
                  ∙ ap (λ (os : List Told). os ++ ends_told (suc j) t (after_ends k u m)) (told_one_light k u n is)
                  ∙ append_assoc (light_told at n) (ends_told k u m) (ends_told (suc j) t (after_ends k u m))
                  ∙ ap (λ (os : List Told). light_told at n ++ os) (rest.1 ∙ steps.1)
                  ∙ sym (told_one_light j t n comes),
            )
        | false ↦ λ is. rests (suc k) (suc j) n later room more is
      ] refl

-- ---- ticks of a network

between : (now : ℕ) (n : Ledger) → (n.monitor.moment ≤ (ticked now n).monitor.moment) × ((ticked now n).monitor.moment ≤ max n.monitor.moment now)
between now n =
    ticked_by (λ b. (n.monitor.moment ≤ b.moment) × (b.moment ≤ max n.monitor.moment now)) now (λ m b le kept. (omega (arith, kept.0), omega (arith, kept.1, le))) n (omega arith, omega arith)

pub joins : (now : ℕ) (n : Ledger) → length n.monitor.streams ≤ MAX_STREAMS → JoinsLater now n (ticked now n)
joins now n room later by =
    let most = lit_most n.monitor.moment n.monitor.streams in
    let few : lit_in n ≤ MOST_LIGHTS = omega (arith, most, room) in
    let both = joined_ends (max n.monitor.moment now) (max n.monitor.moment later) (omega (arith, by)) MOST_LIGHTS MOST_LIGHTS n (omega arith) room few few in
    let moments = between now n in
    let at : max (ticked now n).monitor.moment later ≡ max n.monitor.moment later = omega (arith, moments.0, moments.1, by) in (
      ap (λ (x : ℕ). after_ends MOST_LIGHTS x (ticked now n)) at ∙ both.0,
      ap (λ (x : ℕ). tick_told now n ++ ends_told MOST_LIGHTS x (ticked now n)) at ∙ both.1,
    )

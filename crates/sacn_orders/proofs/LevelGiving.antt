-- The commands of an order that are still to be given.
use Rattle.std.proofs.Common.{◌≡◌, ◌∙◌, ap, refl, sym, ℕ, zero, suc, ◌+◌, ◌-◌, ◌<◌, ◌≤◌, max, Bool, true, false, cond, List, [], ◌∷◌, filter, find, map, None, Some, arith}
use Rattle.std.specs.List.{range_with_len}
use Rattle.sacn_console.specs.declared.command.Command.TheVariants.{SetLevel}
use Rattle.sacn_orders.specs.declared.part.Part.{Part}
use Rattle.sacn_patch.specs.declared.limits.TheConstants.{MAX_CHANNELS}
use Rattle.sacn_orders.specs.Orders.{channels_from, commands_from, is_chosen, next_chosen}

module _ (p : ℕ → Bool) where
  -- where none is found none is kept
  kept_none : (k n : ℕ) → find p (range_with_len n k) ≡ None → filter p (range_with_len n k) ≡ []
  kept_none zero n none = refl
  kept_none (suc k) n none = by_first (p n) (kept_none k (n + 1)) none where
    by_first : (b : Bool) → (find p (range_with_len (n + 1) k) ≡ None → filter p (range_with_len (n + 1) k) ≡ [])
        → cond b (Some n) (find p (range_with_len (n + 1) k)) ≡ None → cond b (n ∷ filter p (range_with_len (n + 1) k)) (filter p (range_with_len (n + 1) k)) ≡ []
    by_first true behind found = cc
    by_first false behind found = behind found

  -- the first that is found is the first that is kept, and those behind it are kept behind it
  kept_some : (k n c : ℕ) → n + k ≡ MAX_CHANNELS + 1 → find p (range_with_len n k) ≡ Some c
      → (n ≤ c) × (c < MAX_CHANNELS + 1) × (filter p (range_with_len n k) ≡ c ∷ filter p (channels_from (c + 1)))
  unfolding channels_from
  kept_some zero n c e some = cc
  kept_some (suc k) n c e some = by_first (p n) (kept_some k (n + 1) c (omega (arith, e))) some where
    here : n ≡ c → n ∷ filter p (range_with_len (n + 1) k) ≡ c ∷ filter p (channels_from (c + 1))
    here same =
        let left : k ≡ MAX_CHANNELS + 1 - (n + 1) = omega (arith, e) in
        ap (λ m. n ∷ filter p (range_with_len (n + 1) m)) left ∙ ap (λ m. m ∷ filter p (range_with_len (m + 1) (MAX_CHANNELS + 1 - (m + 1)))) same

    by_first : (b : Bool) → (find p (range_with_len (n + 1) k) ≡ Some c → (n + 1 ≤ c) × (c < MAX_CHANNELS + 1) × (filter p (range_with_len (n + 1) k) ≡ c ∷ filter p (channels_from (c + 1))))
        → cond b (Some n) (find p (range_with_len (n + 1) k)) ≡ Some c
        → (n ≤ c) × (c < MAX_CHANNELS + 1) × (cond b (n ∷ filter p (range_with_len (n + 1) k)) (filter p (range_with_len (n + 1) k)) ≡ c ∷ filter p (channels_from (c + 1)))
    by_first true behind found =
        let same : n ≡ c = cc in
        (omega (arith, same), omega (arith, e, same), here same)
    by_first false behind found =
        let later = behind found in
        (omega (arith, later.0), later.1, later.2)

pub next_in_range : (parts : List Part) (n c : ℕ) → 1 ≤ n → n ≤ MAX_CHANNELS + 1 → next_chosen parts n ≡ Some c
    → (n ≤ c) × (c < MAX_CHANNELS + 1) × (filter (is_chosen parts) (channels_from n) ≡ c ∷ filter (is_chosen parts) (channels_from (c + 1)))
unfolding channels_from
next_in_range parts n c le most found =
    let same : max 1 n ≡ n = omega (arith, le) in
    let there : find (is_chosen parts) (range_with_len n (MAX_CHANNELS + 1 - n)) ≡ Some c =
    ap (λ k. find (is_chosen parts) (range_with_len k (MAX_CHANNELS + 1 - k))) (sym same) ∙ found in
    kept_some (is_chosen parts) (MAX_CHANNELS + 1 - n) n c (omega (arith, most)) there

pub next_is_none : (parts : List Part) (n : ℕ) → 1 ≤ n → next_chosen parts n ≡ None → filter (is_chosen parts) (channels_from n) ≡ []
unfolding channels_from
next_is_none parts n le none =
    let same : max 1 n ≡ n = omega (arith, le) in
    kept_none (is_chosen parts) (MAX_CHANNELS + 1 - n) n (ap (λ k. find (is_chosen parts) (range_with_len k (MAX_CHANNELS + 1 - k))) (sym same) ∙ none)

pub given_some : (parts : List Part) (level n c next : ℕ) → 1 ≤ n → n ≤ MAX_CHANNELS + 1 → next_chosen parts n ≡ Some c → next ≡ c + 1
    → commands_from parts level n ≡ SetLevel c level ∷ commands_from parts level next
given_some parts level n c next le most found is =
    ap (λ cs. map (λ channel. SetLevel channel level) cs) (next_in_range parts n c le most found).2
    ∙ ap (λ k. SetLevel c level ∷ commands_from parts level k) (sym is)

pub given_none : (parts : List Part) (level n : ℕ) → 1 ≤ n → next_chosen parts n ≡ None → commands_from parts level n ≡ []
given_none parts level n le none = ap (λ cs. map (λ channel. SetLevel channel level) cs) (next_is_none parts n le none)

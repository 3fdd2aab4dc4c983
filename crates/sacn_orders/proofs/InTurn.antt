-- The chosen channels, one after another.
use Rattle.std.proofs.Common.{◌≡◌, ◌∙◌, ap, refl, sym, ℕ, zero, suc, ◌+◌, ◌-◌, ◌<◌, ◌≤◌, max, Bool, true, false, cond, List, [], ◌∷◌, filter, find, map, None, Some, arith}
use Rattle.std.specs.List.{range_with_len}
use Rattle.sacn_console.specs.declared.command.Command.TheVariants.{SetLevel}
use Rattle.sacn_orders.specs.declared.part.Part.{Part}
use Rattle.sacn_patch.specs.declared.limits.TheConstants.{MAX_CHANNELS}
use Rattle.sacn_orders.specs.Orders.{AreInTurn, channels_from, chosen, commands_of, is_chosen, next_chosen}

pub channels_more : (n : ℕ) → n < MAX_CHANNELS + 1 → channels_from n ≡ n ∷ channels_from (n + 1)
unfolding channels_from
channels_more n lt =
    let left : MAX_CHANNELS + 1 - n ≡ suc (MAX_CHANNELS + 1 - (n + 1)) = omega arith in
    ap (λ k. range_with_len n k) left

pub channels_none : (n : ℕ) → MAX_CHANNELS + 1 ≤ n → channels_from n ≡ []
unfolding channels_from
channels_none n le =
    let left : MAX_CHANNELS + 1 - n ≡ 0 = omega arith in
    ap (λ k. range_with_len n k) left

pub next_here : (parts : List Part) (n : ℕ) → n < MAX_CHANNELS + 1 → is_chosen parts n ≡ true → find (is_chosen parts) (channels_from n) ≡ Some n
next_here parts n lt h = ap (λ ns. find (is_chosen parts) ns) (channels_more n lt) ∙ ap (λ b. cond b (Some n) (find (is_chosen parts) (channels_from (n + 1)))) h

pub next_later : (parts : List Part) (n : ℕ) → n < MAX_CHANNELS + 1 → is_chosen parts n ≡ false → find (is_chosen parts) (channels_from n) ≡ find (is_chosen parts) (channels_from (n + 1))
next_later parts n lt h = ap (λ ns. find (is_chosen parts) ns) (channels_more n lt) ∙ ap (λ b. cond b (Some n) (find (is_chosen parts) (channels_from (n + 1)))) h

pub next_none : (parts : List Part) (n : ℕ) → MAX_CHANNELS + 1 ≤ n → find (is_chosen parts) (channels_from n) ≡ None
next_none parts n le = ap (λ ns. find (is_chosen parts) ns) (channels_none n le)

from_one : (n : ℕ) → 1 ≤ n → max 1 n ≡ n
from_one n le = omega arith

next_from_one : (parts : List Part) (n : ℕ) → 1 ≤ n → next_chosen parts n ≡ find (is_chosen parts) (channels_from n)
next_from_one parts n le = ap (λ k. find (is_chosen parts) (channels_from k)) (from_one n le)

-- where two calls give the same, so do those behind
same_start : (parts : List Part) (a b : ℕ) (channels : List ℕ) → next_chosen parts a ≡ next_chosen parts b → AreInTurn parts b channels → AreInTurn parts a channels
same_start parts a b [] same turns = same ∙ turns
same_start parts a b (channel ∷ channels) same turns = (same ∙ turns.0, turns.1)

-- a channel that is chosen comes first, another one doesn't count
with_test : (parts : List Part) (n : ℕ) (later : List ℕ) (b : Bool) → 1 ≤ n → n < MAX_CHANNELS + 1 → is_chosen parts n ≡ b → AreInTurn parts (n + 1) later → AreInTurn parts n (cond b (n ∷ later) later)
with_test parts n later true le lt h turns = (next_from_one parts n le ∙ next_here parts n lt h, turns)
with_test parts n later false le lt h turns =
    let below : 1 ≤ n + 1 = omega arith in
    same_start parts n (n + 1) later (next_from_one parts n le ∙ next_later parts n lt h ∙ sym (next_from_one parts (n + 1) below)) turns

turns_from : (parts : List Part) (k n : ℕ) → 1 ≤ n → n + k ≡ MAX_CHANNELS + 1 → AreInTurn parts n (filter (is_chosen parts) (range_with_len n k))
turns_from parts zero n le e = next_from_one parts n le ∙ next_none parts n (omega arith)
turns_from parts (suc k) n le e =
    with_test parts n (filter (is_chosen parts) (range_with_len (n + 1) k)) (is_chosen parts n) le (omega arith) refl (turns_from parts k (n + 1) (omega arith) (omega arith))

pub in_turn : (parts : List Part) → AreInTurn parts 1 (chosen parts)
unfolding channels_from
in_turn parts = turns_from parts MAX_CHANNELS 1 (omega arith) (omega arith)

-- there is one such list
only_turn : (parts : List Part) (n : ℕ) (xs ys : List ℕ) → AreInTurn parts n xs → AreInTurn parts n ys → xs ≡ ys
only_turn parts n [] [] p q = refl
only_turn parts n [] (y ∷ ys) p q = let never = sym p ∙ q.0 in cc
only_turn parts n (x ∷ xs) [] p q = let never = sym q ∙ p.0 in cc
only_turn parts n (x ∷ xs) (y ∷ ys) p q =
    let both : Some x ≡ Some y = sym p.0 ∙ q.0 in
    let same : x ≡ y = cc in
    let later = only_turn parts (x + 1) xs ys p.1 (rw same q.1) in
    cc

pub turn_is_chosen : (parts : List Part) (channels : List ℕ) → AreInTurn parts 1 channels → channels ≡ chosen parts
turn_is_chosen parts channels turns = only_turn parts 1 channels (chosen parts) turns (in_turn parts)

pub turn_is_commands : (parts : List Part) (level : ℕ) (channels : List ℕ) → AreInTurn parts 1 channels → map (λ channel. SetLevel channel level) channels ≡ commands_of parts level
turn_is_commands parts level channels turns = ap (λ cs. map (λ channel. SetLevel channel level) cs) (turn_is_chosen parts channels turns)

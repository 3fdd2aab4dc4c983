-- What is written of the slots of a line, and what is left of them.
use Rattle.std.proofs.Common.{◌≡◌, ℕ, ◌+◌, ◌-◌, ◌<◌, ◌≤◌, Bool, true, false, nat_eq, nat_le, if◌then◌else◌, List, [], ◌∷◌, ◌++◌, length, drop, get_or, codes, sym, ap, ◌∙◌, arith, append_assoc, length-append, drop-cons, add-one}
use Rattle.sacn_gateway.specs.declared.slot_lines.LitSlot.{LitSlot}
use Rattle.sacn_gateway.specs.SlotLines.{kept_for, lit_from, slot_word, slots_within}

le_true : (a b : ℕ) → a ≤ b → nat_le a b ≡ true
le_true a b h = grind arith

le_false : (a b : ℕ) → b < a → nat_le a b ≡ false
le_false a b h = grind arith

minus_twice : (p a b : ℕ) → p - (a + b) ≡ (p - a) - b
minus_twice p a b = omega arith

here_first : (frame : List ℕ) (i d : ℕ) → i < length frame → drop i frame ≡ get_or frame i d ∷ drop (i + 1) frame
here_first frame i d lt = drop-cons frame i d lt ∙ ap (λ (n : ℕ). get_or frame i d ∷ drop n frame) (sym (add-one i))

-- the lit slots from one on are these, where its level is 0 or not
abbrev from_where : Bool → ℕ → ℕ → List ℕ → List LitSlot
from_where b i level ls = if b then lit_from (i + 1) ls else record { slot = i; level = level } ∷ lit_from (i + 1) ls

is_dark : (level : ℕ) → level ≡ 0 → nat_eq level 0 ≡ true
is_dark level h = grind arith

is_lit : (level : ℕ) → 0 < level → nat_eq level 0 ≡ false
is_lit level h = grind arith

-- a slot that is dark is passed over
pub dark_slot : (frame : List ℕ) (i d : ℕ) → i < length frame → get_or frame i d ≡ 0 → lit_from i (drop i frame) ≡ lit_from (i + 1) (drop (i + 1) frame)
dark_slot frame i d lt dark =
    ap (lit_from i) (here_first frame i d lt) ∙ ap (λ (b : Bool). from_where b i (get_or frame i d) (drop (i + 1) frame)) (is_dark (get_or frame i d) dark)

-- one that is lit is the first of those that are left
pub lit_slot : (frame : List ℕ) (i d : ℕ) → i < length frame → 0 < get_or frame i d
    → lit_from i (drop i frame) ≡ record { slot = i; level = get_or frame i d } ∷ lit_from (i + 1) (drop (i + 1) frame)
lit_slot frame i d lt lit =
    ap (lit_from i) (here_first frame i d lt) ∙ ap (λ (b : Bool). from_where b i (get_or frame i d) (drop (i + 1) frame)) (is_lit (get_or frame i d) lit)

abbrev first_where : Bool → List ℕ → ℕ → LitSlot → List LitSlot → List ℕ
first_where b line room s ss = line ++ (if b then slot_word s ++ slots_within (room - length (slot_word s)) ss else codes " ..")

added : (line : List ℕ) (places : ℕ) (s : LitSlot) (ss : List LitSlot) → length (slot_word s) + kept_for ss ≤ places - length line
    → (line ++ slot_word s) ++ slots_within (places - length (line ++ slot_word s)) ss ≡ line ++ slots_within (places - length line) (s ∷ ss)
added line places s ss fits =
    append_assoc line (slot_word s) (slots_within (places - length (line ++ slot_word s)) ss)
    ∙ ap (λ (n : ℕ). line ++ (slot_word s ++ slots_within n ss)) (ap (λ (n : ℕ). places - n) (length-append line (slot_word s)) ∙ minus_twice places (length line) (length (slot_word s)))
    ∙ sym (ap (λ (b : Bool). first_where b line (places - length line) s ss) (le_true _ _ fits))

marked : (line : List ℕ) (places : ℕ) (s : LitSlot) (ss : List LitSlot) → places - length line < length (slot_word s) + kept_for ss
    → line ++ codes " .." ≡ line ++ slots_within (places - length line) (s ∷ ss)
marked line places s ss over = sym (ap (λ (b : Bool). first_where b line (places - length line) s ss) (le_false _ _ over))

-- a slot that finds room is written
pub slot_added : (line whole word now : List ℕ) (places kept : ℕ) (s : LitSlot) (lit ss : List LitSlot) → lit ≡ s ∷ ss → word ≡ slot_word s → kept ≡ kept_for ss
    → (length line + length word) + kept ≤ places → now ≡ line ++ word → line ++ slots_within (places - length line) lit ≡ whole
    → (now ++ slots_within (places - length now) ss ≡ whole) × (length now + kept_for ss ≤ places)
slot_added line whole word now places kept s lit ss first is behind fits wrote left =
    let long : length word ≡ length (slot_word s) = ap length is in
    let text : now ≡ line ++ slot_word s = wrote ∙ ap (λ (w : List ℕ). line ++ w) is in
    let room : length (slot_word s) + kept_for ss ≤ places - length line = omega (arith, fits, long, behind) in
    let size : length now ≡ length line + length word = ap length wrote ∙ length-append line word in (
      ap (λ (t : List ℕ). t ++ slots_within (places - length t) ss) text
          ∙ added line places s ss room
          ∙ sym (ap (λ (l : List LitSlot). line ++ slots_within (places - length line) l) first)
          ∙ left,
      omega (arith, fits, size, behind),
    )

-- one that finds none leaves the mark
pub mark_added : (line whole word now : List ℕ) (places kept : ℕ) (s : LitSlot) (lit ss : List LitSlot) → lit ≡ s ∷ ss → word ≡ slot_word s → kept ≡ kept_for ss
    → places < (length line + length word) + kept → length line ≤ places → now ≡ line ++ codes " .." → line ++ slots_within (places - length line) lit ≡ whole → now ≡ whole
mark_added line whole word now places kept s lit ss first is behind over within wrote left =
    let long : length word ≡ length (slot_word s) = ap length is in
    let room : places - length line < length (slot_word s) + kept_for ss = omega (arith, over, long, behind, within) in
    wrote ∙ marked line places s ss room ∙ sym (ap (λ (l : List LitSlot). line ++ slots_within (places - length line) l) first) ∙ left

pub kept_low : (lit : List LitSlot) → kept_for lit ≤ 3
kept_low [] = omega arith
kept_low (s ∷ ss) = omega arith

-- what holds before a slot is looked at: what is written, and then what finds room of the slots that are left, is all; there is room for the mark;
-- and so many are left
abbrev pub Left : List ℕ → ℕ → List ℕ → ℕ → List ℕ → ℕ → Type 0
Left whole places frame i line left =
    (line ++ slots_within (places - length line) (lit_from i (drop i frame)) ≡ whole)
    × (length line + kept_for (lit_from i (drop i frame)) ≤ places)
    × (left ≡ length (lit_from i (drop i frame)))

-- it goes on over a slot that is lit
pub lit_kept : (frame : List ℕ) (i : ℕ) (line whole word now : List ℕ) (places kept left less : ℕ) → i < length frame → 0 < get_or frame i 0
    → word ≡ slot_word (record { slot = i; level = get_or frame i 0 }) → less ≡ left - 1
    → ((ss : List LitSlot) → length ss ≡ less → kept ≡ kept_for ss) → (length line + length word) + kept ≤ places → now ≡ line ++ word
    → Left whole places frame i line left → Left whole places frame (i + 1) now less
lit_kept frame i line whole word now places kept left less lt lit is minus behind fits wrote before =
    let ss = lit_from (i + 1) (drop (i + 1) frame) in
    let first = lit_slot frame i 0 lt lit in
    let many : left ≡ length ss + 1 = before.2 ∙ ap length first ∙ sym (add-one (length ss)) in
    let fewer : less ≡ length ss = omega (arith, minus, many) in
    let wrote_on = slot_added line whole word now places kept _ _ ss first is (behind ss (sym fewer)) fits wrote before.0 in (
      wrote_on.0,
      wrote_on.1,
      fewer,
    )

-- and over one that is dark
pub dark_kept : (frame : List ℕ) (i : ℕ) (line whole now : List ℕ) (places left rest : ℕ) → i < length frame → get_or frame i 0 ≡ 0
    → now ≡ line → rest ≡ left → Left whole places frame i line left → Left whole places frame (i + 1) now rest
dark_kept frame i line whole now places left rest lt dark wrote less before =
    let same = dark_slot frame i 0 lt dark in (
      ap (λ (t : List ℕ). t ++ slots_within (places - length t) (lit_from (i + 1) (drop (i + 1) frame))) wrote
          ∙ ap (λ (l : List LitSlot). line ++ slots_within (places - length line) l) (sym same)
          ∙ before.0,
      omega (arith, before.1, ap kept_for same, ap length wrote),
      less ∙ before.2 ∙ ap length same,
    )

-- What ranges put into a frame.
use Rattle.std.proofs.Common.{◌≡◌, ◌⊎◌, ℕ, zero, suc, ◌+◌, ◌-◌, ◌<◌, ◌≤◌, ◌==◌, nat_le, nat_lt, ◌&&◌, Bool, true, false, cond, List, [], ◌∷◌, ◌++◌, length, take, drop, find, get_or, Some, refl, sym, ap, ◌∙◌, arith, inl, inr}
use Rattle.std.proofs.lemmas.Bool.{cases_Bool}
use Rattle.std.proofs.lemmas.Bool.Decides.{nat_tests}
use Rattle.std.proofs.lemmas.List.{get_or-append_right, get_or_append_left, get_or-take, get_or-drop, length-take-le}
use Rattle.std.proofs.lemmas.List.FromFn.{fill_by_all}
use Rattle.sacn_node.specs.declared.setup.SlotRange.{SlotRange}
use Rattle.sacn_node.specs.Ports.{covers, level_in, level_by, octet_at, port_frame}

tests_le : (a b : ℕ) → nat_le a b ≡ true → a ≤ b
tests_le a b is = grind (arith, nat_tests)

tests_lt : (a b : ℕ) → nat_lt a b ≡ true → a < b
tests_lt a b is = grind (arith, nat_tests)

both : (a b : Bool) → (a && b) ≡ true → (a ≡ true) × (b ≡ true)
both true b e = (refl, e)
both false b e = cc

pub covered : (i : ℕ) (r : SlotRange) → covers i r ≡ true → (r.port_slot ≤ i) × (i < r.port_slot + r.count)
covered i r is =
    let parts = both (nat_le r.port_slot i) (nat_lt i (r.port_slot + r.count)) is in
    (tests_le r.port_slot i parts.0, tests_lt i (r.port_slot + r.count) parts.1)

neither : (p i q : ℕ) → (nat_le p i && nat_lt i q) ≡ false → (i < p) ⊎ (q ≤ i)
neither p i q is = elim (cases_Bool (nat_le p i)) [
  | inl le ↦ elim (cases_Bool (nat_lt i q)) [
    | inl lt ↦ absurd (cc)
    | inr not_lt ↦ inr (grind (arith, nat_tests))
  ]
  | inr not_le ↦ inl (grind (arith, nat_tests))
]

pub uncovered : (i : ℕ) (r : SlotRange) → covers i r ≡ false → (i < r.port_slot) ⊎ (r.port_slot + r.count ≤ i)
uncovered i r is = neither r.port_slot i (r.port_slot + r.count) is

pub level_in_is : (slots : ℕ → List ℕ) (i : ℕ) (r : SlotRange) → level_in slots i r ≡ get_or (slots r.universe) (r.slot - 1 + (i - r.port_slot)) 0
unfolding level_in
level_in_is slots i r = refl

-- in a frame of which a part was written, the part's octets
pub part_there : (old part post slots : List ℕ) (to from n i : ℕ) → to ≤ length old → to ≤ i → i < to + n → length part ≡ n → part ≡ take n (drop from slots) → get_or (take to old ++ (part ++ post)) i 0 ≡ get_or slots (from + (i - to)) 0
part_there old part post slots to from n i within le lt long is =
    get_or-append_right (take to old) (part ++ post) to i 0 (length-take-le to old within) le
    ∙ get_or_append_left part post 0 (i - to) (omega arith)
    ∙ ap (λ p. get_or p (i - to) 0) is
    ∙ get_or-take n (drop from slots) (i - to) 0 (omega arith)
    ∙ get_or-drop from slots (i - to) 0

true_false : true ≡ false → ⊥
true_false e = cc

above_zero : (k : ℕ) → 1 ≤ k → (k == 0) ≡ false
above_zero k le = grind (arith, nat_tests)

module _ (slots : ℕ → List ℕ) (k : ℕ) (r : SlotRange) (rs : List SlotRange) where
  abbrev start_or : Bool → ℕ → ℕ
  start_or b level = cond b 0 level

  abbrev level_of : Bool → ℕ
  level_of b = level_by slots k (cond b (Some r) (find (covers k) rs))

  -- a range before others puts its levels over theirs
  pub octet_more : (old new : ℕ) → 1 ≤ r.port_slot → (covers k r ≡ true → new ≡ level_in slots k r) → (covers k r ≡ false → new ≡ old) → old ≡ octet_at slots rs k → new ≡ octet_at slots (r ∷ rs) k
  octet_more old new pos inside outside is = elim (cases_Bool (covers k r)) [
    | inl has ↦
        let zero_not : (k == 0) ≡ false = above_zero k (omega (arith, (covered k r has).0)) in
        inside has ∙ sym (ap (λ b. start_or b (level_of (covers k r))) zero_not ∙ ap level_of has)
    | inr not ↦ outside not ∙ is ∙ sym (ap (λ b. start_or (k == 0) (level_of b)) not)
  ]

pub frame_is : (slots : ℕ → List ℕ) (rs : List SlotRange) (frame : List ℕ) → length frame ≡ 513 → ((k : ℕ) → k < 513 → get_or frame k 0 ≡ octet_at slots rs k) → frame ≡ port_frame slots rs
unfolding port_frame
frame_is slots rs frame long each = fill_by_all (octet_at slots rs) frame 513 0 long each

-- one range on all slots of the port
covers_all : (k : ℕ) → 1 ≤ k → k < 513 → (nat_le 1 k && nat_lt k 513) ≡ true
covers_all k least most = grind (arith, nat_tests)

pub whole_is : (slots : ℕ → List ℕ) (r : SlotRange) (old new : List ℕ) → r.port_slot ≡ 1 → r.count ≡ 512 → get_or old 0 0 ≡ 0 → ((i : ℕ) → covers i r ≡ true → get_or new i 0 ≡ level_in slots i r) → ((i : ℕ) → covers i r ≡ false → get_or new i 0 ≡ get_or old i 0) → length new ≡ 513 → new ≡ port_frame slots (r ∷ [])
whole_is slots r old new first count start inside outside long = frame_is slots (r ∷ []) new long each
  where
    all : (k : ℕ) → 1 ≤ k → k < 513 → covers k r ≡ true
    all k least most = ap (λ p. nat_le p k && nat_lt k (p + r.count)) first ∙ ap (λ n. nat_le 1 k && nat_lt k (1 + n)) count ∙ covers_all k least most

    none : (b : Bool) → cond {A = ℕ} b 0 0 ≡ 0
    none true = refl
    none false = refl

    empty : (k : ℕ) → octet_at slots [] k ≡ 0
    empty k = none (k == 0)

    kept : (k : ℕ) → k < 513 → covers k r ≡ false → get_or new k 0 ≡ octet_at slots [] k
    kept zero lt not = outside 0 not ∙ start ∙ sym (empty 0)
    kept (suc k) lt not = absurd (true_false (sym (all (suc k) (omega arith) lt) ∙ not))

    each : (k : ℕ) → k < 513 → get_or new k 0 ≡ octet_at slots (r ∷ []) k
    each k lt = octet_more slots k r [] (octet_at slots [] k) (get_or new k 0) (omega (arith, first)) (inside k) (kept k lt) refl

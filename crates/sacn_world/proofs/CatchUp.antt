-- Twenty-one places in a row cannot all be late.
use Rattle.std.proofs.Common.{◌≡◌, ℕ, ◌+◌, ◌-◌, ◌%◌, ◌<◌, ◌≤◌, Bool, true, false, not, List, length, Option, Some, None, refl, sym, ap, subst, ◌∙◌, inl, inr, ◌⊎◌, arith}
use Rattle.std.specs.Prelude.{nat_lt, ◌&&◌, if◌then◌else◌}
use Rattle.std.proofs.lemmas.Bool.{cases_lt}
use Rattle.std.proofs.lemmas.Bool.Decides.{nat_tests}
use Rattle.sacn_sources.specs.declared.limits.TheConstants.{MAX_SOURCES}
use Rattle.sacn_world.proofs.Numbers.{ahead, late_is, rank_later}
use Rattle.std.proofs.lemmas.Bool.{eqb-true}
use Rattle.std.proofs.lemmas.Option.{same_Some}
use Rattle.sacn_world.proofs.Maps.{hold_of-put}
use Rattle.sacn_world.specs.Streams.{Sent, at, life_at, rank, number_at, is_live, follows, Ordered, late}
use Rattle.sacn_world.specs.Holdings.{Hold, hold_of, put, answer_unknown, answer_known, answer_by, answer, holding_after, after_delivery}
use Rattle.sacn_sources.specs.declared.answer.Taken.{Taken}
use Rattle.sacn_world.specs.CatchUp.{comes_next, count_by_answer, count_after, Streak, CountOk}

-- the discarded residues are 0 and 237 to 255: twenty in a row
late_ahead : (a b : ℕ) → late a b ≡ true → (ahead a b ≡ 0) ⊎ (236 < ahead a b)
late_ahead a b e = let l = late_is a b in grind (arith, nat_tests, l, e)

number_less : (st : List Sent) (p : ℕ) → number_at st p < 256
unfolding number_at
number_less st p = omega arith

pub not_all_late : (a m : ℕ) → a < 256 → ((j : ℕ) → j < 21 → late a ((m + j) % 256) ≡ true) → ⊥
not_all_late a m small all =
    let z = late_ahead a ((m + 0) % 256) (all 0 (omega arith)) in
    let o = late_ahead a ((m + 1) % 256) (all 1 (omega arith)) in
    elim z [
      | inl none ↦ omega (arith, none, o)
      | inr far ↦
          let d = ahead a ((m + 0) % 256) in
          let l = late_ahead a ((m + (257 - d)) % 256) (all (257 - d) (omega arith)) in
          omega (arith, far, l)
    ]

-- ---- a count goes on

follows_next : (st : List Sent) (p q : ℕ) → p + 1 ≡ q → life_at st p ≡ life_at st q → follows st p q ≡ true
unfolding follows
follows_next st p q e same' =
    let d : (q - p) % 256 ≡ 1 = omega arith in
    grind (arith, nat_tests, d, e, same')

still_first : (st : List Sent) (s : List ℕ) (q : ℕ) (hs : List Hold) → q < length st → ((h : Hold) → hold_of s hs ≡ Some h → (h.place ≡ q) ⊎ ((j : ℕ) → j < 1 → late (number_at st h.place) (number_at st (q - j)) ≡ true)) → Streak st s 1 q hs
still_first st s q hs within behind = record {
  within = within;
  reach = omega arith;
  alike = λ j lt. let e : q - j ≡ q = omega arith in ap (life_at st) e;
  behind = behind;
}

still_more : (st : List Sent) (s : List ℕ) (c p q : ℕ) (old hs : List Hold) → Streak st s c p old → p + 1 ≡ q → life_at st p ≡ life_at st q → q < length st → ((h : Hold) → hold_of s hs ≡ Some h → (h.place ≡ q) ⊎ ((j : ℕ) → j < c + 1 → late (number_at st h.place) (number_at st (q - j)) ≡ true)) → Streak st s (c + 1) q hs
still_more st s c p q old hs k e same' within behind = record {
  within = within;
  reach = omega (arith, k.reach);
  alike = λ j lt. elim (cases_lt 0 j) [
    | inl up ↦
        let back : q - j ≡ p - (j - 1) = omega arith in
        ap (life_at st) back ∙ k.alike (j - 1) (omega arith) ∙ same'
    | inr none ↦ let back : q - j ≡ q = omega arith in ap (life_at st) back
  ];
  behind = behind;
}

and_both : (a b : Bool) → (a && b) ≡ true → (a ≡ true) × (b ≡ true)
and_both true b e = (refl, e)
and_both false b e = cc

module _ (st : List Sent) (s : List ℕ) (c q : ℕ) (within : q < length st) where
  -- the packet is shown, whatever came before it
  go_on_shown : (last : Option ℕ) (old hs : List Hold) → CountOk st s last c old → ((h : Hold) → hold_of s hs ≡ Some h → h.place ≡ q) → (b : Bool) → comes_next st last q ≡ b → CountOk st s (Some q) (if b then c + 1 else 1) hs
  go_on_shown last old hs before shown false e = inr (q, refl, still_first st s q hs within (λ h f. inl (shown h f)))
  go_on_shown None old hs before shown true e = cc
  go_on_shown (Some p) old hs (inl none) shown true e =
      let one : c + 1 ≡ 1 = omega (arith, none) in
      subst (λ n. CountOk st s (Some q) n hs) (sym one) (inr (q, refl, still_first st s q hs within (λ h f. inl (shown h f))))
  go_on_shown (Some p) old hs (inr k) shown true e =
      let both = and_both _ _ e in
      let is : p ≡ k.0 = same_Some p k.0 k.1 in
      let pq = eqb-true _ _ both.0 in
      let ll = eqb-true _ _ both.1 in
      inr (q, refl, still_more st s c p q old hs (subst (λ z. Streak st s c z old) (sym is) k.2) pq ll within (λ h f. inl (shown h f)))

  -- the packet was late after the place that is held, and nothing changed
  go_on_late : (last : Option ℕ) (hs : List Hold) (h : Hold) → CountOk st s last c hs → hold_of s hs ≡ Some h → follows st h.place q ≡ false → late (number_at st h.place) (number_at st q) ≡ true → (b : Bool) → comes_next st last q ≡ b → CountOk st s (Some q) (if b then c + 1 else 1) hs
  go_on_late last hs h before is not_ late_ false e =
      inr (
        q,
        refl,
        still_first st s q hs within (λ g f. inr (λ j lt.
            let gh : g ≡ h = same_Some g h (sym f ∙ is) in
            let back : q - j ≡ q = omega arith in
            ap (λ (x : Hold). late (number_at st x.place) (number_at st (q - j))) gh ∙ ap (λ n. late (number_at st h.place) (number_at st n)) back ∙ late_)),
      )
  go_on_late None hs h before is not_ late_ true e = cc
  go_on_late (Some p) hs h (inl none) is not_ late_ true e =
      let one : c + 1 ≡ 1 = omega (arith, none) in
      subst (λ n. CountOk st s (Some q) n hs) (sym one) (inr (
        q,
        refl,
        still_first st s q hs within (λ g f. inr (λ j lt.
            let gh : g ≡ h = same_Some g h (sym f ∙ is) in
            let back : q - j ≡ q = omega arith in
            ap (λ (x : Hold). late (number_at st x.place) (number_at st (q - j))) gh ∙ ap (λ n. late (number_at st h.place) (number_at st n)) back ∙ late_)),
      ))
  go_on_late (Some p) hs h (inr k) is not_ late_ true e =
      let both = and_both _ _ e in
      let pk : p ≡ k.0 = same_Some p k.0 k.1 in
      let pq = eqb-true _ _ both.0 in
      let ll = eqb-true _ _ both.1 in
      let old : Streak st s c p hs = subst (λ z. Streak st s c z hs) (sym pk) k.2 in
      inr (
        q,
        refl,
        still_more st s c p q hs hs old pq ll within (λ g f.
            let gh : g ≡ h = same_Some g h (sym f ∙ is) in
            elim (old.behind h is) [
              | inl at_p ↦
                  let y = follows_next st h.place q (omega (arith, at_p, pq)) (ap (life_at st) at_p ∙ ll) in
                  absurd (cc)
              | inr all ↦ inr (λ j lt.
                  ap (λ (x : Hold). late (number_at st x.place) (number_at st (q - j))) gh ∙ elim (cases_lt 0 j) [
                    | inl up ↦
                        let back : q - j ≡ p - (j - 1) = omega arith in
                        ap (λ n. late (number_at st h.place) (number_at st n)) back ∙ all (j - 1) (omega arith)
                    | inr none ↦
                        let back : q - j ≡ q = omega arith in
                        ap (λ n. late (number_at st h.place) (number_at st n)) back ∙ late_
                  ])
            ]),
      )

not_flip : (x f : Bool) → not x ≡ f → f ≡ false → x ≡ true
not_flip true f e g = refl
not_flip false f e g = cc

-- one delivery of the stream
module _ (st : List Sent) (s : List ℕ) (c q t : ℕ) (last : Option ℕ) (hs : List Hold) (within : q < length st) (before : CountOk st s last c hs) where
  new : Hold
  new = record { source = s; place = q; moment = t }

  put_shown : (h : Hold) → hold_of s (put new hs) ≡ Some h → h.place ≡ q
  unfolding new
  put_shown h e = sym (ap (λ (x : Hold). x.place) (same_Some _ _ (sym (hold_of-put new hs) ∙ e)))

  unknown_count : (live room : Bool) → CountOk st s (Some q) (count_by_answer live (comes_next st last q) (answer_unknown live room) c) (holding_after (answer_unknown live room) new hs)
  unknown_count false room = inl refl
  unknown_count true true = go_on_shown st s c q within last hs (put new hs) before put_shown (comes_next st last q) refl
  unknown_count true false = inl refl

  known_count : (h : Hold) → hold_of s hs ≡ Some h → not (late (number_at st h.place) (number_at st q)) ≡ follows st h.place q → (live f : Bool) → follows st h.place q ≡ f → CountOk st s (Some q) (count_by_answer live (comes_next st last q) (answer_known live f) c) (holding_after (answer_known live f) new hs)
  known_count h e rule false f g = inl refl
  known_count h e rule true true g = go_on_shown st s c q within last hs (put new hs) before put_shown (comes_next st last q) refl
  known_count h e rule true false g = go_on_late st s c q within last hs h before e g (not_flip _ _ rule g) (comes_next st last q) refl

  by_hold : (room : Bool) (o : Option Hold) → hold_of s hs ≡ o → ((h : Hold) → o ≡ Some h → not (late (number_at st h.place) (number_at st q)) ≡ follows st h.place q) → CountOk st s (Some q) (count_after st last q (answer_by st q room o) c) (holding_after (answer_by st q room o) new hs)
  by_hold room None e rule = unknown_count _ room
  by_hold room (Some h) e rule = known_count h e (rule h refl) _ _ refl

  pub delivered_count : ((h : Hold) → hold_of s hs ≡ Some h → not (late (number_at st h.place) (number_at st q)) ≡ follows st h.place q) → CountOk st s (Some q) (count_after st last q (answer st s q hs) c) (after_delivery st s q t hs)
  unfolding new
  delivered_count rule = by_hold _ (hold_of s hs) refl rule

  -- ---- and at twenty-one the packet is shown
  unknown_shows : (live room : Bool) → 1 ≤ count_by_answer live (comes_next st last q) (answer_unknown live room) c → hold_of s (holding_after (answer_unknown live room) new hs) ≡ Some new
  unfolding new
  unknown_shows false room h = absurd (omega arith)
  unknown_shows true true h = hold_of-put new hs
  unknown_shows true false h = absurd (omega arith)

  known_shows : (h : Hold) → hold_of s hs ≡ Some h → (live f : Bool) → 1 ≤ count_by_answer live (comes_next st last q) (answer_known live f) c → (g : Hold) × (hold_of s (holding_after (answer_known live f) new hs) ≡ Some g)
  unfolding new
  known_shows h e false f k = absurd (omega arith)
  known_shows h e true true k = (new, hold_of-put new hs)
  known_shows h e true false k = (h, e)

  some_held : (room : Bool) (o : Option Hold) → hold_of s hs ≡ o → 1 ≤ count_after st last q (answer_by st q room o) c → (g : Hold) × (hold_of s (holding_after (answer_by st q room o) new hs) ≡ Some g)
  some_held room None e k = (new, unknown_shows _ room k)
  some_held room (Some h) e k = known_shows h e _ _ k

-- a count that is not 0 is of a live packet
counted_live : (live next : Bool) (a : Taken) (c : ℕ) → 1 ≤ count_by_answer live next a c → live ≡ true
counted_live true next a c h = refl
counted_live false next a c h = absurd (omega arith)

number_on : (st : List Sent) (b j : ℕ) → Ordered st → b + j < length st → life_at st b ≡ life_at st (b + j) → number_at st (b + j) ≡ ((at st b).first + rank st b + j) % 256
unfolding number_at
number_on st b j ord lt same' =
    let f = ord.begin b (b + j) (omega arith) lt same' in
    let r = rank_later st b (b + j) ord (omega arith) lt same' in
    let e : (at st (b + j)).first + rank st (b + j) ≡ (at st b).first + rank st b + j = omega (arith, f, r) in
    ap (λ n. n % 256) e

-- twenty-one places of one life: all late is impossible
never_all : (st : List Sent) (s : List ℕ) (c q : ℕ) (hs : List Hold) (p : ℕ) → Ordered st → Streak st s c q hs → 21 ≤ c → ((j : ℕ) → j < c → late (number_at st p) (number_at st (q - j)) ≡ true) → ⊥
never_all st s c q hs p ord k big all =
    let b = q - 20 in
    let lo : b + 20 ≡ q = omega (arith, k.reach) in
    let lb : life_at st b ≡ life_at st q = k.alike 20 (omega arith) in
    let m = (at st b).first + rank st b in
    let one : (j : ℕ) → j < 21 → late (number_at st p) ((m + j) % 256) ≡ true = λ j lt.
    let back : q - (20 - j) ≡ b + j = omega arith in
    let lj : life_at st b ≡ life_at st (b + j) = lb ∙ sym (k.alike (20 - j) (omega arith)) ∙ ap (life_at st) back in
    let is : number_at st (b + j) ≡ (m + j) % 256 = number_on st b j ord (omega (arith, k.within)) lj in
    ap (late (number_at st p)) (sym is) ∙ ap (λ n. late (number_at st p) (number_at st n)) (sym back) ∙ all (20 - j) (omega arith) in
    not_all_late (number_at st p) m (number_less st p) one

pub catches_up : (st : List Sent) (s : List ℕ) (c q t : ℕ) (last : Option ℕ) (hs : List Hold) → Ordered st → q < length st → CountOk st s last c hs → ((h : Hold) → hold_of s hs ≡ Some h → not (late (number_at st h.place) (number_at st q)) ≡ follows st h.place q) → 21 ≤ count_after st last q (answer st s q hs) c → (g : Hold) × (hold_of s (after_delivery st s q t hs) ≡ Some g) × (g.place ≡ q) × ((is_live (at st q)) ≡ true)
unfolding new
catches_up st s c q t last hs ord within before rule big =
    let one : 1 ≤ count_after st last q (answer st s q hs) c = omega (arith, big) in
    let got = some_held st s c q t last hs within before (nat_lt (length hs) MAX_SOURCES) (hold_of s hs) refl one in
    let lv = counted_live (is_live (at st q)) (comes_next st last q) (answer st s q hs) c (omega (arith, big)) in
    elim (delivered_count st s c q t last hs within before rule) [
      | inl none ↦ absurd (omega (arith, none, big))
      | inr k ↦
          let is : q ≡ k.0 = same_Some q k.0 k.1 in
          elim (k.2.behind got.0 got.1) [
            | inl here ↦ (got.0, got.1, here ∙ sym is, lv)
            | inr all ↦ absurd (never_all st s _ k.0 _ got.0.place ord k.2 big all)
          ]
    ]

-- ---- what else happens to the table leaves the count
pub count_kept : (st : List Sent) (s : List ℕ) (last : Option ℕ) (c : ℕ) (hs gs : List Hold) → ((h : Hold) → hold_of s gs ≡ Some h → hold_of s hs ≡ Some h) → CountOk st s last c hs → CountOk st s last c gs
count_kept st s last c hs gs same' (inl none) = inl none
count_kept st s last c hs gs same' (inr k) = inr (k.0, k.1, record { within = k.2.within; reach = k.2.reach; alike = k.2.alike; behind = λ h e. k.2.behind h (same' h e) })

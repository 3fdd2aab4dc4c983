-- Who leads a universe, and how many do, in one look at the streams.
use Rattle.std.proofs.Common.{◌≡◌, ℕ, ◌+◌, ◌≤◌, max, nat_lt, Bool, true, false, cond, ◌&&◌, ◌==◌, List, [], ◌∷◌, refl, sym, ap, subst, ◌∙◌, arith, zero-add}
use Rattle.std.proofs.lemmas.Bool.Decides.{nat_tests}
use Rattle.std.proofs.lemmas.List.Sums.{sum_by-cons}
use Rattle.std.specs.List.{filter, fold, count_by}
use Rattle.sacn_monitor.specs.declared.stream.Stream.{Stream}
use Rattle.sacn_monitor.specs.Rivals.{lights, priority_at, top_priority, rivals}

-- the greatest priority with one more that lights, and how many are at it
abbrev pub top_with : ℕ → ℕ → ℕ
top_with top priority = cond (nat_lt top priority) priority top

abbrev pub count_with : ℕ → ℕ → ℕ → ℕ
count_with top count priority = cond (nat_lt top priority) 1 (cond (priority == top) (count + 1) count)

-- how many lead at last, where so many lead by now
abbrev pub leading : ℕ → ℕ → ℕ → ℕ → List Stream → ℕ
leading universe t top count [] = count
leading universe t top count (s ∷ ss) = cond (lights universe t s) (leading universe t (top_with top (priority_at t s)) (count_with top count (priority_at t s)) ss) (leading universe t top count ss)

module _ (universe t : ℕ) where
  abbrev top_from : ℕ → List Stream → ℕ
  top_from top ss = fold (λ top s. max top (priority_at t s)) top (filter (lights universe t) ss)

  abbrev leads : ℕ → Stream → Bool
  leads top s = lights universe t s && (priority_at t s == top)

  most : (top priority : ℕ) → max top priority ≡ top_with top priority
  most top priority = grind (arith, nat_tests)

  -- the top of a stream and those behind it
  top_by : (lit : Bool) (top : ℕ) (s : Stream) (ss : List Stream) → fold (λ top s. max top (priority_at t s)) top (cond lit (s ∷ filter (lights universe t) ss) (filter (lights universe t) ss)) ≡ cond lit (top_from (top_with top (priority_at t s)) ss) (top_from top ss)
  top_by true top s ss = ap (λ (n : ℕ). top_from n ss) (most top (priority_at t s))
  top_by false top s ss = refl

  grows_by : (lit : Bool) (top priority other here : ℕ) → top_with top priority ≤ other → top ≤ here → top ≤ cond lit other here
  grows_by true top priority other here e f = grind (arith, nat_tests)
  grows_by false top priority other here e f = f

  grows : (top : ℕ) (ss : List Stream) → top ≤ top_from top ss
  grows top [] = omega arith
  grows top (s ∷ ss) =
      rw (top_by (lights universe t s) top s ss) (grows_by (lights universe t s) top (priority_at t s) (top_from (top_with top (priority_at t s)) ss) (top_from top ss) (grows (top_with top (priority_at t s)) ss) (grows top ss))

  -- one step, in numbers alone
  one_more : (top count priority last : ℕ) → top_with top priority ≤ last → cond (top_with top priority == last) (count_with top count priority) 0 ≡ cond (top == last) count 0 + cond (priority == last) 1 0
  one_more top count priority last e = grind (arith, nat_tests)

  abbrev Counts : ℕ → ℕ → List Stream → Type 0
  Counts top count ss = leading universe t top count ss ≡ cond (top == top_from top ss) count 0 + count_by (leads (top_from top ss)) ss

  counts_by : (lit : Bool) (top count : ℕ) (s : Stream) (ss : List Stream) → lights universe t s ≡ lit → Counts (top_with top (priority_at t s)) (count_with top count (priority_at t s)) ss → Counts top count ss → Counts top count (s ∷ ss)
  counts_by true top count s ss e more same =
      let priority : ℕ = priority_at t s in
      let last : ℕ = top_from (top_with top priority) ss in
      let here : top_from top (s ∷ ss) ≡ last = top_by (lights universe t s) top s ss ∙ ap (λ (b : Bool). cond b last (top_from top ss)) e in
      let counted : count_by (leads last) (s ∷ ss) ≡ cond (priority == last) 1 0 + count_by (leads last) ss = sum_by-cons (λ (x : Stream). cond (leads last x) 1 0) s ss ∙ ap (λ (b : Bool). cond (b && (priority == last)) 1 0 + count_by (leads last) ss) e in
      let begun : leading universe t top count (s ∷ ss) ≡ leading universe t (top_with top priority) (count_with top count priority) ss = ap (λ (b : Bool). cond b (leading universe t (top_with top priority) (count_with top count priority) ss) (leading universe t top count ss)) e in
      let step : leading universe t top count (s ∷ ss) ≡ cond (top == last) count 0 + count_by (leads last) (s ∷ ss) = omega (arith, begun, more, one_more top count priority last (grows (top_with top priority) ss), counted) in
      subst (λ (n : ℕ). leading universe t top count (s ∷ ss) ≡ cond (top == n) count 0 + count_by (leads n) (s ∷ ss)) (sym here) step
  counts_by false top count s ss e more same =
      let priority : ℕ = priority_at t s in
      let last : ℕ = top_from top ss in
      let here : top_from top (s ∷ ss) ≡ last = top_by (lights universe t s) top s ss ∙ ap (λ (b : Bool). cond b (top_from (top_with top priority) ss) last) e in
      let counted : count_by (leads last) (s ∷ ss) ≡ 0 + count_by (leads last) ss = sum_by-cons (λ (x : Stream). cond (leads last x) 1 0) s ss ∙ ap (λ (b : Bool). cond (b && (priority == last)) 1 0 + count_by (leads last) ss) e in
      let begun : leading universe t top count (s ∷ ss) ≡ leading universe t top count ss = ap (λ (b : Bool). cond b (leading universe t (top_with top priority) (count_with top count priority) ss) (leading universe t top count ss)) e in
      let step : leading universe t top count (s ∷ ss) ≡ cond (top == last) count 0 + count_by (leads last) (s ∷ ss) = omega (arith, begun, same, counted) in
      subst (λ (n : ℕ). leading universe t top count (s ∷ ss) ≡ cond (top == n) count 0 + count_by (leads n) (s ∷ ss)) (sym here) step

  pub counts : (top count : ℕ) (ss : List Stream) → Counts top count ss
  counts top count [] = grind (arith, nat_tests)
  counts top count (s ∷ ss) = counts_by (lights universe t s) top count s ss refl (counts (top_with top (priority_at t s)) (count_with top count (priority_at t s)) ss) (counts top count ss)

either : (b : Bool) (n : ℕ) → cond b n n ≡ n
either true n = refl
either false n = refl

pub all_counted : (universe t : ℕ) (ss : List Stream) → leading universe t 0 0 ss ≡ rivals universe t ss
all_counted universe t ss = counts universe t 0 0 ss ∙ ap (λ (n : ℕ). n + rivals universe t ss) (either (0 == top_priority universe t ss) 0) ∙ zero-add (rivals universe t ss)

-- Datagrams have places, and sending keeps streams in order.
use Rattle.std.proofs.Common.{◌≡◌, ℕ, zero, suc, ◌+◌, ◌<◌, ◌≤◌, Bool, true, false, cond, List, [], ◌∷◌, ◌++◌, length, get_or, take, Some, refl, sym, ap, subst, ◌∙◌, inl, inr, ◌⊎◌, arith, length-append}
use Rattle.std.specs.Prelude.{filter, count_by, slice_get}
use Rattle.std.proofs.lemmas.List.{get_or_push, append-nil, take-append-le, take_at}
use Rattle.std.proofs.lemmas.List.Sums.{sum_by-cons}
use Rattle.std.proofs.lemmas.Option.{same_Some, slice_get_within}
use Rattle.std.proofs.lemmas.Bool.{cases_lt, and_parts}
use Rattle.sacn_world.proofs.Sources.{same_source}
use Rattle.sacn_world.proofs.Growth.{stream_push, at_stays, at_kept}
use Rattle.sacn_world.specs.Streams.{Sent, nothing, at, life_at, is_of, stream_of, Ordered, place_of}

pub count_here : {X : Type 0} (p : X → Bool) (x : X) (xs : List X) (b : Bool) → p x ≡ b → count_by p (x ∷ xs) ≡ cond b 1 0 + count_by p xs
count_here p x xs b e = sum_by-cons (λ y. cond (p y) 1 0) x xs ∙ ap (λ c. cond c 1 0 + count_by p xs) e

-- the k-th element, if it passes, stands among those that pass as far on as there are passing ones before it
module _ {X : Type 0} (p : X → Bool) where
  pub ranked : (xs : List X) (k : ℕ) (x d : X) → slice_get xs k ≡ Some x → p x ≡ true → (count_by p (take k xs) < length (filter p xs)) × (get_or (filter p xs) (count_by p (take k xs)) d ≡ x)
  ranked [] k x d e pass = absurd (cc)
  ranked (y ∷ ys) zero x d e pass =
      let is : y ≡ x = same_Some y x e in
      let yes' : p y ≡ true = ap p is ∙ pass in
      subst (λ b. (0 < length (cond b (y ∷ filter p ys) (filter p ys))) × (get_or (cond b (y ∷ filter p ys) (filter p ys)) 0 d ≡ x)) (sym yes') (omega arith, is)
  ranked (y ∷ ys) (suc k) x d e pass =
      let r = ranked ys k x d e pass in
      elim (p y) as (λ b. p y ≡ b → (count_by p (y ∷ take k ys) < length (cond b (y ∷ filter p ys) (filter p ys))) × (get_or (cond b (y ∷ filter p ys) (filter p ys)) (count_by p (y ∷ take k ys)) d ≡ x)) [
        | true ↦ λ f.
            let c : count_by p (y ∷ take k ys) ≡ suc (count_by p (take k ys)) = count_here p y (take k ys) true f ∙ omega arith in
            rw c (omega (arith, r.0), r.1)
        | false ↦ λ f.
            let c : count_by p (y ∷ take k ys) ≡ count_by p (take k ys) = count_here p y (take k ys) false f ∙ omega arith in
            rw c r
      ] refl

-- a datagram of a stream has a place in it
pub place_within : (s : List ℕ) (u : ℕ) (sent : List Sent) (k : ℕ) (x : Sent) → slice_get sent k ≡ Some x → is_of s u x ≡ true → place_of s u k sent < length (stream_of s u sent)
unfolding stream_of place_of
place_within s u sent k x e of = (ranked (is_of s u) sent k x nothing e of).0

pub place_is : (s : List ℕ) (u : ℕ) (sent : List Sent) (k : ℕ) (x : Sent) → slice_get sent k ≡ Some x → is_of s u x ≡ true → at (stream_of s u sent) (place_of s u k sent) ≡ x
unfolding stream_of place_of
place_is s u sent k x e of = (ranked (is_of s u) sent k x nothing e of).1

-- a place stays as more is sent
pub place_stays : (s : List ℕ) (u : ℕ) (sent : List Sent) (y : Sent) (k : ℕ) (x : Sent) → slice_get sent k ≡ Some x → place_of s u k (sent ++ y ∷ []) ≡ place_of s u k sent
unfolding place_of
place_stays s u sent y k x e =
    let lt = slice_get_within sent k x e in
    ap (count_by (is_of s u)) (take-append-le k sent (y ∷ []) (omega (arith, lt)))

-- the place of the packet that is sent next
pub next_place : (s : List ℕ) (u : ℕ) (sent : List Sent) (y : Sent) → place_of s u (length sent) (sent ++ y ∷ []) ≡ count_by (is_of s u) sent
unfolding place_of
next_place s u sent y = ap (count_by (is_of s u)) (take_at sent (y ∷ []) (length sent) refl)

-- ---- a stream with a packet more

ordered_push : (st : List Sent) (x : Sent) → Ordered st → ((p : ℕ) → p < length st → life_at st p ≤ x.life) → ((p : ℕ) → p < length st → life_at st p ≡ x.life → (at st p).first ≡ x.first) → Ordered (st ++ x ∷ [])
ordered_push st x ord latest begun =
    let len : length (st ++ x ∷ []) ≡ length st + 1 = omega (arith, length-append st (x ∷ [])) in
    let last : (j : ℕ) → length st ≡ j → at (st ++ x ∷ []) j ≡ x = λ j e. get_or_push st x nothing j e in
    record {
      ascend = λ i j le lt.
          elim (cases_lt j (length st)) [
            | inl jn ↦
                let ei = ap (λ (y : Sent). y.life) (at_stays st (x ∷ []) i (omega arith)) in
                let ej = ap (λ (y : Sent). y.life) (at_stays st (x ∷ []) j jn) in
                let o = ord.ascend i j le jn in
                omega (arith, ei, ej, o)
            | inr jo ↦ elim (cases_lt i (length st)) [
              | inl ik ↦
                  let ei = ap (λ (y : Sent). y.life) (at_stays st (x ∷ []) i ik) in
                  let ej = ap (λ (y : Sent). y.life) (last j (omega arith)) in
                  let o = latest i ik in
                  omega (arith, ei, ej, o)
              | inr io ↦ let e : i ≡ j = omega arith in subst (λ k. life_at (st ++ x ∷ []) i ≤ life_at (st ++ x ∷ []) k) e (omega arith)
            ]
          ];
      begin = λ i j le lt e.
          elim (cases_lt j (length st)) [
            | inl jn ↦
                let ei = at_stays st (x ∷ []) i (omega arith) in
                let ej = at_stays st (x ∷ []) j jn in
                let e' : life_at st i ≡ life_at st j = sym (ap (λ (y : Sent). y.life) ei) ∙ e ∙ ap (λ (y : Sent). y.life) ej in
                ap (λ (y : Sent). y.first) ei ∙ ord.begin i j le jn e' ∙ sym (ap (λ (y : Sent). y.first) ej)
            | inr jo ↦ elim (cases_lt i (length st)) [
              | inl ik ↦
                  let ei = at_stays st (x ∷ []) i ik in
                  let ej = last j (omega arith) in
                  let e' : life_at st i ≡ x.life = sym (ap (λ (y : Sent). y.life) ei) ∙ e ∙ ap (λ (y : Sent). y.life) ej in
                  ap (λ (y : Sent). y.first) ei ∙ begun i ik e' ∙ sym (ap (λ (y : Sent). y.first) ej)
              | inr io ↦ let same' : i ≡ j = omega arith in ap (λ k. (at (st ++ x ∷ []) k).first) same'
            ]
          ];
    }

-- what was sent before in a stream is of no later life, and of this life it has the same first number
abbrev pub Latest : List Sent → List ℕ → ℕ → Type 0
Latest sent s life = (u p : ℕ) → p < length (stream_of s u sent) → life_at (stream_of s u sent) p ≤ life

abbrev pub Begun : List Sent → List ℕ → ℕ → ℕ → Type 0
Begun sent s life first = (u p : ℕ) → p < length (stream_of s u sent) → life_at (stream_of s u sent) p ≡ life → (at (stream_of s u sent) p).first ≡ first

pub streams_push : (sent : List Sent) (x : Sent) → Latest sent x.source x.life → Begun sent x.source x.life x.first → ((s : List ℕ) (v : ℕ) → Ordered (stream_of s v sent)) → (s : List ℕ) (v : ℕ) → Ordered (stream_of s v (sent ++ x ∷ []))
streams_push sent x latest begun ord s v =
    subst Ordered (sym (stream_push s v sent x))
    (elim (is_of s v x) as (λ b. is_of s v x ≡ b → Ordered (stream_of s v sent ++ cond b (x ∷ []) [])) [
      | true ↦ λ e.
          let es = same_source s x.source (and_parts _ _ e).0 in
          let f : (y : List ℕ) → y ≡ x.source → Ordered (stream_of y v sent) → Ordered (stream_of y v sent ++ x ∷ []) =
          λ y ey o. subst (λ z. Ordered (stream_of z v sent) → Ordered (stream_of z v sent ++ x ∷ [])) (sym ey) (λ o'. ordered_push (stream_of x.source v sent) x o' (latest v) (begun v)) o in
          f s es (ord s v)
      | false ↦ λ e. subst Ordered (sym (append-nil (stream_of s v sent))) (ord s v)
    ] refl)

-- a place of the longer stream is an old one, or that of the new packet
lives_cases : (sent : List Sent) (x : Sent) (r : List ℕ) (v q : ℕ) → q < length (stream_of r v (sent ++ x ∷ [])) → (q < length (stream_of r v sent)) ⊎ ((at (stream_of r v (sent ++ x ∷ [])) q ≡ x) × (r ≡ x.source))
lives_cases sent x r v q lt =
    let st = stream_of r v sent in
    let push = stream_push r v sent x in
    let lt' : q < length (st ++ cond (is_of r v x) (x ∷ []) []) = subst (λ ys. q < length ys) push lt in
    elim (cases_lt q (length st)) [
      | inl old ↦ inl old
      | inr new ↦
          elim (is_of r v x) as (λ b. is_of r v x ≡ b → q < length (st ++ cond b (x ∷ []) []) → (q < length st) ⊎ ((at (stream_of r v (sent ++ x ∷ [])) q ≡ x) × (r ≡ x.source))) [
            | true ↦ λ e h.
                let at_end : length st ≡ q = omega (arith, length-append st (x ∷ []), h, new) in
                inr (ap (λ ys. at ys q) (push ∙ ap (λ b. st ++ cond b (x ∷ []) []) e) ∙ get_or_push st x nothing q at_end, same_source r x.source (and_parts _ _ e).0)
            | false ↦ λ e h. inl (subst (λ ys. q < length ys) (append-nil st) h)
          ] refl lt'
    ]

-- a console's own stream, or another's
pub latest_push : (sent : List Sent) (x : Sent) (r : List ℕ) (life : ℕ) → (r ≡ x.source → x.life ≡ life) → Latest sent r life → Latest (sent ++ x ∷ []) r life
latest_push sent x r life one latest v q lt = elim (lives_cases sent x r v q lt) [
  | inl old ↦
      let e = ap (λ (y : Sent). y.life) (at_kept sent x r v q old) in
      let o = latest v q old in
      omega (arith, e, o)
  | inr new ↦
      let e = ap (λ (y : Sent). y.life) new.0 in
      let f = one new.1 in
      omega (arith, e, f)
]

pub begun_push : (sent : List Sent) (x : Sent) (r : List ℕ) (life first : ℕ) → (r ≡ x.source → x.first ≡ first) → Begun sent r life first → Begun (sent ++ x ∷ []) r life first
begun_push sent x r life first one begun v q lt e = elim (lives_cases sent x r v q lt) [
  | inl old ↦
      let k = at_kept sent x r v q old in
      ap (λ (y : Sent). y.first) k ∙ begun v q old (sym (ap (λ (y : Sent). y.life) k) ∙ e)
  | inr new ↦ ap (λ (y : Sent). y.first) new.0 ∙ one new.1
]

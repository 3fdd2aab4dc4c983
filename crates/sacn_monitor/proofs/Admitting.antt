-- A register stays in chains, and its streams distinct, through what changes it.
use Rattle.std.proofs.Common.{◌≡◌, ◌≢◌, ◌⊎◌, inl, inr, ℕ, suc, ◌+◌, ◌<◌, ◌≤◌, ◌&&◌, ◌==◌, cond, ltb, Bool, true, false, List, [], ◌∷◌, ◌++◌, length, map, set, get_or, replicate, None, sym, ap, subst, ◌∙◌, arith}
use Rattle.std.specs.List.{position, position_or_len}
use Rattle.std.specs.Str.{bytes_eq}
use Rattle.std.proofs.Math.Seq.{map-set_same, get_or-append_seam}
use Rattle.std.proofs.Math.ListN as lists
use Rattle.std.proofs.lemmas.Bool.{ltb-false}
use Rattle.std.proofs.lemmas.Bool.Decides.{eqb_tells}
use Rattle.std.proofs.lemmas.List.{get_or_append_left, get_or_default, get_or-set_same, get_or-set_other, get_or-replicate, length-replicate, length-append, length-map, length-set, map-append}
use Rattle.std.proofs.lemmas.List.Sums.{fails_before_first}
use Rattle.std.proofs.lemmas.List.Quantifiers.{all_pairs_push}
use Rattle.sacn_monitor.specs.declared.limits.TheConstants.{CHAINS}
use Rattle.sacn_monitor.specs.declared.stream.Stream.{Stream}
use Rattle.sacn_monitor.specs.Streams.{is_of}
use Rattle.sacn_monitor.specs.Chains.{chain_by, chain_of, latest_in, AreChained, AreDistinct}
use Rattle.sacn_monitor.proofs.Chaining.{refused, latest_more}

-- ---- none at first

pub chained_at_first : (latest before : List ℕ) (ss : List Stream) → latest ≡ replicate CHAINS 0 → before ≡ [] → ss ≡ [] → AreChained latest before (map chain_of ss)
chained_at_first latest before ss e f g =
    let none : map chain_of ss ≡ [] = ap (map chain_of) g in
    subst (AreChained latest before) (sym none) (record {
      begins = λ chain low. ap (λ (xs : List ℕ). get_or xs chain 0) e ∙ get_or-replicate {A = ℕ} CHAINS chain 0 0 low;
      goes_on = λ place low. absurd (omega (arith, low));
      chained = ap length e ∙ length-replicate {A = ℕ} CHAINS 0;
      counted = ap length f;
    })

pub distinct_at_first : (ss : List Stream) → ss ≡ [] → AreDistinct ss
distinct_at_first ss e i j d above low = absurd (omega (arith, ap length e, low))

-- ---- a stream is heard, or its loss is told

abbrev pub key_of : Stream → ℕ × List ℕ
key_of s = (s.universe, s.cid)

abbrev same_key : ℕ × List ℕ → ℕ × List ℕ → Bool
same_key a b = (a.0 == b.0) && bytes_eq a.1 b.1

module _ (ss : List Stream) (at : ℕ) (y s : Stream) (same : key_of y ≡ key_of (get_or ss at s)) where
  key_at : (k : ℕ) (d : Stream) → key_of (get_or (set ss at y) k d) ≡ key_of (get_or ss k d)
  key_at k d = sym (lists.get_or-map key_of (set ss at y) k d) ∙ ap (λ (keys : List (ℕ × List ℕ)). get_or keys k (key_of d)) (map-set_same key_of ss at y s same) ∙ lists.get_or-map key_of ss k d

  pub changed_distinct : AreDistinct ss → AreDistinct (set ss at y)
  changed_distinct distinct i j d above low =
      ap (λ (key : ℕ × List ℕ). same_key key (key_of (get_or (set ss at y) j d))) (key_at i d)
      ∙ ap (λ (key : ℕ × List ℕ). same_key (key_of (get_or ss i d)) key) (key_at j d)
      ∙ distinct i j d above (omega (arith, low, length-set ss at y))

  pub changed_chained : (latest before : List ℕ) → AreChained latest before (map chain_of ss) → AreChained latest before (map chain_of (set ss at y))
  changed_chained latest before chained =
      subst (AreChained latest before) (sym (map-set_same chain_of ss at y s (ap (λ (key : ℕ × List ℕ). chain_by key.0 key.1) same))) chained

-- ---- a stream is admitted

abbrev with_one : List ℕ → ℕ → List ℕ
with_one xs x = xs ++ x ∷ []

module _ (latest before chains : List ℕ) (chain : ℕ) (low : chain < CHAINS) (known : AreChained latest before chains) where
  abbrev mark : ℕ
  mark = get_or latest chain 0

  begins_by : (c : ℕ) → c < CHAINS → ((chain == c) ≡ true) × (chain ≡ c) ⊎ ((chain == c) ≡ false) × (chain ≢ c) → get_or (set latest chain (suc (length chains))) c 0 ≡ cond (chain == c) (suc (length chains)) (latest_in c (length chains) (with_one chains chain))
  begins_by c inside (inl here) =
      ap (λ (k : ℕ). get_or (set latest chain (suc (length chains))) k 0) (sym here.1)
      ∙ get_or-set_same latest chain (suc (length chains)) 0 (omega (arith, low, known.chained))
      ∙ ap (λ (b : Bool). cond b (suc (length chains)) (latest_in c (length chains) (with_one chains chain))) (sym here.0)
  begins_by c inside (inr other) =
      get_or-set_other latest chain c (suc (length chains)) 0 (λ e. other.1 (sym e))
      ∙ known.begins c inside
      ∙ sym (latest_more c (length chains) chains (chain ∷ []) (omega arith))
      ∙ ap (λ (b : Bool). cond b (suc (length chains)) (latest_in c (length chains) (with_one chains chain))) (sym other.0)

  length-with_one : length (with_one chains chain) ≡ suc (length chains)
  length-with_one = let e : length (with_one chains chain) ≡ suc (length chains) = omega (arith, length-append chains (chain ∷ [])) in e

  begins_more : (c : ℕ) → c < CHAINS → get_or (set latest chain (suc (length chains))) c 0 ≡ latest_in c (length (with_one chains chain)) (with_one chains chain)
  begins_more c inside =
      begins_by c inside (eqb_tells chain c)
      ∙ ap (λ (x : ℕ). cond (x == c) (suc (length chains)) (latest_in c (length chains) (with_one chains chain))) (sym (get_or-append_seam chains chain [] 0))
      ∙ ap (λ (n : ℕ). latest_in c n (with_one chains chain)) (sym length-with_one)

  goes_on_by : (place : ℕ) → (place < length chains) ⊎ (place ≡ length chains) → get_or (with_one before mark) place 0 ≡ latest_in (get_or (with_one chains chain) place 0) place (with_one chains chain)
  goes_on_by place (inl front) =
      get_or_append_left before (mark ∷ []) 0 place (omega (arith, front, known.counted))
      ∙ known.goes_on place front
      ∙ sym (latest_more (get_or chains place 0) place chains (chain ∷ []) (omega (arith, front)))
      ∙ ap (λ (c : ℕ). latest_in c place (with_one chains chain)) (sym (get_or_append_left chains (chain ∷ []) 0 place front))
  goes_on_by place (inr back) =
      ap (λ (k : ℕ). get_or (with_one before mark) k 0) (back ∙ sym known.counted)
      ∙ get_or-append_seam before mark [] 0
      ∙ known.begins chain low
      ∙ sym (latest_more chain (length chains) chains (chain ∷ []) (omega arith))
      ∙ ap (λ (c : ℕ). latest_in c (length chains) (with_one chains chain)) (sym (get_or-append_seam chains chain [] 0))
      ∙ ap (λ (k : ℕ). latest_in (get_or (with_one chains chain) k 0) k (with_one chains chain)) (sym back)

  front_or_back : (place : ℕ) → place < suc (length chains) → (place < length chains) ⊎ (place ≡ length chains)
  front_or_back place inside = grind arith

  one_more : AreChained (set latest chain (suc (length chains))) (with_one before mark) (with_one chains chain)
  one_more = record {
    begins = begins_more;
    goes_on = λ place inside. goes_on_by place (front_or_back place (omega (arith, inside, length-with_one)));
    chained = length-set latest chain (suc (length chains)) ∙ known.chained;
    counted = length-append before (mark ∷ []) ∙ ap (λ (n : ℕ). n + 1) known.counted ∙ sym (length-append chains (chain ∷ []));
  }

same_chained : {a x b y c z : List ℕ} → a ≡ x → b ≡ y → c ≡ z → AreChained a b c → AreChained x y z
same_chained {a} {x} {b} {y} {c} {z} e f g known = subst (λ (l : List ℕ). AreChained l y z) e (subst (λ (l : List ℕ). AreChained a l z) f (subst (AreChained a b) g known))

pub admitted_chained : (latest before marks : List ℕ) (ss after : List Stream) (s : Stream) (chain mark count : ℕ) → AreChained latest before (map chain_of ss) → chain ≡ chain_of s → mark ≡ get_or latest chain mark → marks ≡ before ++ mark ∷ [] → after ≡ ss ++ s ∷ [] → count ≡ length after → AreChained (set latest chain count) marks (map chain_of after)
admitted_chained latest before marks ss after s chain mark count known e at f g counted =
    let chains : List ℕ = map chain_of ss in
    let low : chain < CHAINS = omega (arith, e) in
    let kept : get_or latest chain 0 ≡ mark = get_or_default latest chain 0 mark (omega (arith, low, known.chained)) ∙ sym at in
    let long : suc (length chains) ≡ count = omega (arith, counted, ap length g, length-append ss (s ∷ []), length-map ss chain_of) in
    let last : with_one chains chain ≡ map chain_of after = ap (with_one chains) e ∙ sym (map-append chain_of ss (s ∷ [])) ∙ ap (map chain_of) (sym g) in
    same_chained (ap (set latest chain) long) (ap (with_one before) kept ∙ sym f) last (one_more latest before chains chain low known)

pub admitted_distinct : (ss after : List Stream) (s : Stream) → AreDistinct ss → position (is_of s.universe s.cid) ss ≡ None → after ≡ ss ++ s ∷ [] → AreDistinct after
admitted_distinct ss after s distinct unknown e =
    let past : length ss ≤ position_or_len (is_of s.universe s.cid) ss = ltb-false (position_or_len (is_of s.universe s.cid) ss) (length ss) (refused (ltb (position_or_len (is_of s.universe s.cid) ss) (length ss)) (position_or_len (is_of s.universe s.cid) ss) unknown) in
    subst AreDistinct (sym e) (all_pairs_push (λ (earlier later : Stream). is_of later.universe later.cid earlier ≡ false) ss s distinct (λ k d below. fails_before_first (is_of s.universe s.cid) ss k d (omega (arith, below, past))))

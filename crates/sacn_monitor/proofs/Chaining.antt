-- Chains lead to every stream, and stay so through what changes a register.
use Rattle.std.proofs.Common.{◌≡◌, ◌≢◌, ◌⊎◌, inl, inr, ℕ, zero, suc, ◌-◌, ◌<◌, ◌≤◌, ◌&&◌, ◌==◌, cond, Bool, true, false, List, [], ◌∷◌, ◌++◌, length, map, get_or, Some, None, nat_lt, refl, sym, ap, subst, ◌∙◌, arith}
use Rattle.std.proofs.lemmas.Bool.{eqb-true, eqb-false, cases_lt, lt-ltb, le-ltb}
use Rattle.std.proofs.lemmas.List.{get_or_append_left, get_or_default, get_or-map, length-map}
use Rattle.std.proofs.lemmas.List.Sums.{position_or_len_is}
use Rattle.std.proofs.lemmas.Slice.Eq.{bytes_eq-Decides}
use Rattle.std.specs.List.{position, position_or_len}
use Rattle.std.specs.Str.{bytes_eq}
use Rattle.sacn_monitor.specs.declared.stream.Stream.{Stream}
use Rattle.sacn_monitor.specs.Streams.{is_of}
use Rattle.sacn_monitor.specs.Chains.{chain_by, chain_of, latest_in, AreChained, AreDistinct}

-- ---- a look at all

pub refused : (b : Bool) (n : ℕ) → cond b (Some n) None ≡ None → b ≡ false
refused true n e = absurd cc
refused false n e = refl

-- ---- the latest stream of a chain

latest_by : (test : Bool) (n rest : ℕ) → rest ≤ n → cond test (suc n) rest ≤ suc n
latest_by true n rest low = omega arith
latest_by false n rest low = omega arith

pub latest_most : (chain n : ℕ) (chains : List ℕ) → latest_in chain n chains ≤ n
latest_most chain zero chains = omega arith
latest_most chain (suc n) chains = latest_by (get_or chains n 0 == chain) n (latest_in chain n chains) (latest_most chain n chains)

-- what stands behind the first n doesn't change which is the latest of them
pub latest_more : (chain n : ℕ) (chains more : List ℕ) → n ≤ length chains → latest_in chain n (chains ++ more) ≡ latest_in chain n chains
latest_more chain zero chains more low = refl
latest_more chain (suc n) chains more low =
    let here : get_or (chains ++ more) n 0 ≡ get_or chains n 0 = get_or_append_left chains more 0 n (omega arith) in
    let rest : latest_in chain n (chains ++ more) ≡ latest_in chain n chains = latest_more chain n chains more (omega arith) in
    ap (λ (x : ℕ). cond (x == chain) (suc n) (latest_in chain n (chains ++ more))) here ∙ ap (λ (x : ℕ). cond (get_or chains n 0 == chain) (suc n) x) rest

-- a mark that isn't 0 is of a stream of the chain
marked_by : (chain n mark : ℕ) (chains : List ℕ) (test : Bool) → (get_or chains n 0 == chain) ≡ test → (latest_in chain n chains ≡ suc mark → get_or chains mark 0 ≡ chain) → cond test (suc n) (latest_in chain n chains) ≡ suc mark → get_or chains mark 0 ≡ chain
marked_by chain n mark chains true e rest here = ap (λ (k : ℕ). get_or chains k 0) (let same : mark ≡ n = omega arith in same) ∙ eqb-true (get_or chains n 0) chain e
marked_by chain n mark chains false e rest here = rest here

pub latest_is_of : (chain n mark : ℕ) (chains : List ℕ) → latest_in chain n chains ≡ suc mark → get_or chains mark 0 ≡ chain
latest_is_of chain zero mark chains e = absurd (omega arith)
latest_is_of chain (suc n) mark chains e = marked_by chain n mark chains (get_or chains n 0 == chain) refl (latest_is_of chain n mark chains) e

-- no stream between a mark and the first n is of the chain
nat_cases : (k n : ℕ) → k < suc n → (k < n) ⊎ (k ≡ n)
nat_cases k n below = grind arith

skipped_or_here : (chain n k : ℕ) (chains : List ℕ) → (get_or chains n 0 ≢ chain) → (latest_in chain n chains ≤ k → k < n → get_or chains k 0 ≢ chain) → latest_in chain n chains ≤ k → (k < n) ⊎ (k ≡ n) → get_or chains k 0 ≢ chain
skipped_or_here chain n k chains other rest above (inl below) is = rest above below is
skipped_or_here chain n k chains other rest above (inr e) is = other (ap (λ (i : ℕ). get_or chains i 0) (sym e) ∙ is)

skipped_by : (chain n k : ℕ) (chains : List ℕ) (test : Bool) → (get_or chains n 0 == chain) ≡ test → (latest_in chain n chains ≤ k → k < n → get_or chains k 0 ≢ chain) → cond test (suc n) (latest_in chain n chains) ≤ k → k < suc n → get_or chains k 0 ≢ chain
skipped_by chain n k chains true e rest above below is = absurd (omega arith)
skipped_by chain n k chains false e rest above below is = skipped_or_here chain n k chains (eqb-false (get_or chains n 0) chain e) rest above (nat_cases k n below) is

pub latest_skips : (chain n k : ℕ) (chains : List ℕ) → latest_in chain n chains ≤ k → k < n → get_or chains k 0 ≢ chain
latest_skips chain zero k chains above below is = absurd (omega arith)
latest_skips chain (suc n) k chains above below is = skipped_by chain n k chains (get_or chains n 0 == chain) refl (latest_skips chain n k chains) above below is

-- ---- a walk down a chain

-- a walk stands at a mark: every stream of the source on the universe is before it, and it is of their chain
pub record IsDown (universe : ℕ) (cid : List ℕ) (mark : ℕ) (ss : List Stream) : Type 0 where
  pub within : mark ≤ length ss
  pub on : (place : ℕ) → mark ≡ suc place → get_or (map chain_of ss) place 0 ≡ chain_by universe cid
  pub past : (k : ℕ) (d : Stream) → mark ≤ k → k < length ss → is_of universe cid (get_or ss k d) ≡ false

both : (a b : Bool) → a && b ≡ true → (a ≡ true) × (b ≡ true)
both true b e = (refl, e)
both false b e = absurd cc

-- a stream of the source on the universe is in their chain
in_chain : (universe : ℕ) (cid : List ℕ) (s : Stream) → is_of universe cid s ≡ true → chain_of s ≡ chain_by universe cid
in_chain universe cid s e =
    let keys = both (s.universe == universe) (bytes_eq s.cid cid) e in
    ap (λ (u : ℕ). chain_by u s.cid) (eqb-true s.universe universe keys.0) ∙ ap (chain_by universe) ((bytes_eq-Decides s.cid cid).0 keys.1)

false_or : (b : Bool) → (b ≢ true) → b ≡ false
false_or true other = absurd (other refl)
false_or false other = refl

chain_at : (ss : List Stream) (k : ℕ) (d : Stream) → k < length ss → get_or (map chain_of ss) k 0 ≡ chain_of (get_or ss k d)
chain_at ss k d low = get_or-map chain_of ss k d 0 low

not_of : (universe : ℕ) (cid : List ℕ) (ss : List Stream) (k : ℕ) (d : Stream) → k < length ss → (get_or (map chain_of ss) k 0 ≢ chain_by universe cid) → is_of universe cid (get_or ss k d) ≡ false
not_of universe cid ss k d low other = false_or (is_of universe cid (get_or ss k d)) (λ e. other (chain_at ss k d low ∙ in_chain universe cid (get_or ss k d) e))

-- to the latest of the first n, where none behind these is the one
past_by : (universe : ℕ) (cid : List ℕ) (n mark k : ℕ) (d : Stream) (ss : List Stream) → mark ≡ latest_in (chain_by universe cid) n (map chain_of ss) → ((i : ℕ) (s : Stream) → n ≤ i → i < length ss → is_of universe cid (get_or ss i s) ≡ false) → mark ≤ k → k < length ss → (k < n) ⊎ (n ≤ k) → is_of universe cid (get_or ss k d) ≡ false
past_by universe cid n mark k d ss e past above below (inl front) = not_of universe cid ss k d below (latest_skips (chain_by universe cid) n k (map chain_of ss) (omega (arith, e, above)) front)
past_by universe cid n mark k d ss e past above below (inr back) = past k d back below

down_to : (universe : ℕ) (cid : List ℕ) (n mark : ℕ) (ss : List Stream) → n ≤ length ss → mark ≡ latest_in (chain_by universe cid) n (map chain_of ss) → ((k : ℕ) (d : Stream) → n ≤ k → k < length ss → is_of universe cid (get_or ss k d) ≡ false) → IsDown universe cid mark ss
down_to universe cid n mark ss low e past = record {
  within = omega (arith, e, latest_most (chain_by universe cid) n (map chain_of ss));
  on = λ place is. latest_is_of (chain_by universe cid) n place (map chain_of ss) (sym e ∙ is);
  past = λ k d above below. past_by universe cid n mark k d ss e past above below (cases_lt k n);
}

-- the stream that a mark is of, or one behind it
behind : (place k : ℕ) → place ≤ k → (place ≡ k) ⊎ (suc place ≤ k)
behind place k low = grind arith

past_here : (universe : ℕ) (cid : List ℕ) (place k : ℕ) (s d : Stream) (ss : List Stream) → IsDown universe cid (suc place) ss → is_of universe cid (get_or ss place s) ≡ false → k < length ss → (place ≡ k) ⊎ (suc place ≤ k) → is_of universe cid (get_or ss k d) ≡ false
past_here universe cid place k s d ss down other below (inl e) = ap (is_of universe cid) (get_or_default ss k d s below ∙ ap (λ (i : ℕ). get_or ss i s) (sym e)) ∙ other
past_here universe cid place k s d ss down other below (inr back) = down.past k d back below

module _ (latest before : List ℕ) (ss : List Stream) (chained : AreChained latest before (map chain_of ss)) where
  pub walk_begins : (universe : ℕ) (cid : List ℕ) (mark : ℕ) → mark ≡ get_or latest (chain_by universe cid) mark → IsDown universe cid mark ss
  walk_begins universe cid mark e =
      let chain : ℕ = chain_by universe cid in
      let here : get_or latest chain mark ≡ get_or latest chain 0 = get_or_default latest chain mark 0 (omega (arith, chained.chained)) in
      down_to universe cid (length ss) mark ss (omega arith) (e ∙ here ∙ chained.begins chain (omega arith) ∙ ap (λ (n : ℕ). latest_in chain n (map chain_of ss)) (length-map ss chain_of)) (λ k d back below. absurd (omega (arith, back, below)))

  on_from : (universe : ℕ) (cid : List ℕ) (place mark : ℕ) (s : Stream) → IsDown universe cid (suc place) ss → is_of universe cid (get_or ss place s) ≡ false → mark ≡ get_or before place mark → IsDown universe cid mark ss
  on_from universe cid place mark s down other e =
      let low : place < length (map chain_of ss) = omega (arith, down.within, length-map ss chain_of) in
      let here : get_or before place mark ≡ get_or before place 0 = get_or_default before place mark 0 (omega (arith, low, chained.counted)) in
      let next : mark ≡ latest_in (get_or (map chain_of ss) place 0) place (map chain_of ss) = e ∙ here ∙ chained.goes_on place low in
      down_to universe cid place mark ss (omega (arith, down.within)) (next ∙ ap (λ (c : ℕ). latest_in c place (map chain_of ss)) (down.on place refl)) (λ k d back below. past_here universe cid place k s d ss down other below (behind place k back))

  pub walk_goes_on : (universe : ℕ) (cid : List ℕ) (from place mark : ℕ) (s : Stream) → IsDown universe cid from ss → 0 < from → place ≡ from - 1 → s ≡ get_or ss place s → is_of universe cid s ≡ false → mark ≡ get_or before place mark → IsDown universe cid mark ss
  walk_goes_on universe cid from place mark s down some e here other next =
      on_from universe cid place mark s (subst (λ (m : ℕ). IsDown universe cid m ss) (let up : from ≡ suc place = omega arith in up) down) (sym (ap (is_of universe cid) here) ∙ other) next

  -- each mark is of an earlier stream than the one that it is kept for
  pub walk_falls : (universe : ℕ) (cid : List ℕ) (from place mark : ℕ) → IsDown universe cid from ss → 0 < from → place ≡ from - 1 → mark ≡ get_or before place mark → mark < from
  walk_falls universe cid from place mark down some e next =
      let low : place < length (map chain_of ss) = omega (arith, down.within, length-map ss chain_of) in
      let here : get_or before place mark ≡ get_or before place 0 = get_or_default before place mark 0 (omega (arith, low, chained.counted)) in
      omega (arith, here, chained.goes_on place low, latest_most (get_or (map chain_of ss) place 0) place (map chain_of ss))

-- at its end there is none
pub walk_ends : (universe : ℕ) (cid : List ℕ) (mark : ℕ) (ss : List Stream) → IsDown universe cid mark ss → mark ≤ 0 → position (is_of universe cid) ss ≡ None
walk_ends universe cid mark [] down e = refl
walk_ends universe cid mark (s ∷ ss) down e =
    let all : position_or_len (is_of universe cid) (s ∷ ss) ≡ length (s ∷ ss) = position_or_len_is (is_of universe cid) (s ∷ ss) (length (s ∷ ss)) s (omega arith) (λ k below. down.past k s (omega (arith, e)) below) (λ low. absurd (omega (arith, low))) in
    ap (λ (n : ℕ). cond (nat_lt n (length (s ∷ ss))) (Some n) None) all ∙ ap (λ (b : Bool). cond b (Some (length (s ∷ ss))) None) (le-ltb (length (s ∷ ss)) (length (s ∷ ss)) (omega arith))

-- the one that is found is the first
pub walk_finds : (universe : ℕ) (cid : List ℕ) (place : ℕ) (s : Stream) (ss : List Stream) → AreDistinct ss → place < length ss → s ≡ get_or ss place s → is_of universe cid s ≡ true → position (is_of universe cid) ss ≡ Some place
walk_finds universe cid place s ss distinct low here e =
    let keys = both (s.universe == universe) (bytes_eq s.cid cid) e in
    let ours : is_of s.universe s.cid ≡ is_of universe cid = ap (λ (u : ℕ). is_of u s.cid) (eqb-true s.universe universe keys.0) ∙ ap (is_of universe) ((bytes_eq-Decides s.cid cid).0 keys.1) in
    let first : position_or_len (is_of universe cid) ss ≡ place =
    position_or_len_is (is_of universe cid) ss place s (omega (arith, low)) (λ k below. ap (λ (p : Stream → Bool). p (get_or ss k s)) (sym ours) ∙ ap (λ (t : Stream). is_of t.universe t.cid (get_or ss k s)) here ∙ distinct k place s below low) (λ inside. ap (is_of universe cid) (sym here) ∙ e) in
    ap (λ (n : ℕ). cond (nat_lt n (length ss)) (Some n) None) first ∙ ap (λ (b : Bool). cond b (Some place) None) (lt-ltb place (length ss) low)

-- Who gives a slot its level, by the entries.
use Rattle.std.proofs.Common.{◌≡◌, ℕ, zero, suc, ◌+◌, ◌<◌, ◌≤◌, ◌==◌, ◌&&◌, not, max, Bool, true, false, List, [], ◌∷◌, map, fold, find, length, get_or, set, drop, cond, Option, Some, None, option_map, unwrap_or, refl, sym, ap, ◌∙◌, arith, inl, inr}
use Rattle.std.specs.List.{cons_option}
use Rattle.std.proofs.lemmas.Bool.{cases_eq}
use Rattle.std.proofs.lemmas.List.{length-map, get_or-map, get_or-set_same, get_or-set_other, at_drop_more}
use Rattle.std.proofs.lemmas.Option.{slice_get-get_or}
use Rattle.slab.specs.Slab.{get}
use Rattle.sacn_sources.specs.Merge.{Shown}
use Rattle.sacn_sources.specs.declared.entry.Entry.{Entry}
use Rattle.sacn_sources.specs.Givers.{gives, first_giver, giver_in}
use Rattle.sacn_sources.specs.Rows.{Row, layers}
use Rattle.sacn_sources.specs.Storage.{Frames, row_in, rows_in}

-- the greatest priority of the entries is that of what their rows show
pub top_is : (fr : Frames) (a : ℕ) (es : List Entry) → fold (λ top e. max top (unwrap_or e.priority 0)) a es ≡ fold (λ top (m : Shown). max top m.priority) a (layers (rows_in fr es))
top_is fr a [] = refl
top_is fr a (e ∷ es) = by (λ b. top_is fr b es) e.priority (λ p. record { priority = p; levels = unwrap_or (get fr e.key) [] }) (λ p. refl)
  where
    by : ((b : ℕ) → fold (λ top e. max top (unwrap_or e.priority 0)) b es ≡ fold (λ top (m : Shown). max top m.priority) b (layers (rows_in fr es))) → (o : Option ℕ) (shown : ℕ → Shown) → ((p : ℕ) → (shown p).priority ≡ p) → fold (λ top e. max top (unwrap_or e.priority 0)) (max a (unwrap_or o 0)) es ≡ fold (λ top (m : Shown). max top m.priority) a (cons_option (option_map shown o) (layers (rows_in fr es)))
    by rest None shown is =
        let same : max a 0 ≡ a = omega arith in
        ap (λ b. fold (λ top e. max top (unwrap_or e.priority 0)) b es) same ∙ rest a
    by rest (Some p) shown is = rest (max a p) ∙ ap (λ q. fold (λ top (m : Shown). max top m.priority) (max a q) (layers (rows_in fr es))) (sym (is p))

module _ (fr : Frames) (top slot merged : ℕ) where
  abbrev pub passes : Entry → Bool
  passes e = gives top slot merged (row_in fr e).shown

  -- an entry gives a slot where it shows at this priority, and its level there is the merged one
  pub gives_there : (e : Entry) → passes e ≡ unwrap_or (option_map (λ p. p == top) e.priority) false && (get_or (unwrap_or (get fr e.key) []) slot 0 == merged)
  gives_there e = by e.priority
    where
      ls : List ℕ
      ls = unwrap_or (get fr e.key) []

      by : (o : Option ℕ) → gives top slot merged (option_map (λ p. record { priority = p; levels = ls }) o) ≡ unwrap_or (option_map (λ p. p == top) o) false && (get_or ls slot 0 == merged)
      by None = refl
      by (Some p) = refl

  module _ (es : List Entry) (i : ℕ) (d : Entry) (within : i < length es) (place : Option ℕ) (after : giver_in (map (λ e. e.cid) es) place ≡ first_giver top slot merged (rows_in fr (drop (i + 1) es))) where
    abbrev cids : List (List ℕ)
    cids = map (λ e. e.cid) es

    abbrev rest : Option Row
    rest = find (λ r. gives top slot merged r.shown) (rows_in fr (drop (i + 1) es))

    abbrev named : Option Row → Option (List ℕ)
    named row = option_map (λ r. r.source) row

    whole : first_giver top slot merged (rows_in fr (get_or es i d ∷ drop (i + 1) es)) ≡ first_giver top slot merged (rows_in fr (drop i es))
    whole = sym (at_drop_more (λ l. first_giver top slot merged (rows_in fr l)) es i d within)

    -- one entry more in front is the giver of a slot that it gives; who gives another one stays
    pub giver_before : (given : Bool) → given ≡ passes (get_or es i d) → giver_in cids (cond (not (merged == 0) && given) (Some i) place) ≡ first_giver top slot merged (rows_in fr (drop i es))
    giver_before given is = by (merged == 0) given after ∙ ap (λ b. cond (merged == 0) None (named (cond b (Some (row_in fr (get_or es i d))) rest))) is ∙ whole
      where
        by : (dark given : Bool) → giver_in cids place ≡ cond dark None (named rest) → giver_in cids (cond (not dark && given) (Some i) place) ≡ cond dark None (named (cond given (Some (row_in fr (get_or es i d))) rest))
        by true given after = after
        by false true after = slice_get-get_or cids i [] (omega (arith, length-map es (λ e. e.cid))) ∙ ap Some (get_or-map (λ e. e.cid) es i d [] within)
        by false false after = after

    -- of one that gives none nothing changes
    pub giver_without : passes (get_or es i d) ≡ false → giver_in cids place ≡ first_giver top slot merged (rows_in fr (drop i es))
    giver_without is = after ∙ ap (λ b. cond (merged == 0) None (named (cond b (Some (row_in fr (get_or es i d))) rest))) (sym is) ∙ whole

-- where there is no entry nobody gives a slot
pub nobody_gives : (fr : Frames) (top slot merged : ℕ) → None ≡ first_giver top slot merged (rows_in fr [])
nobody_gives fr top slot merged = by (merged == 0)
  where
    by : (dark : Bool) → None ≡ cond dark None (option_map (λ (r : Row). r.source) None)
    by true = refl
    by false = refl

-- a loop over slots that sets each one's place: the slots so far have theirs, and the others what they had
module _ (first before after : List (Option ℕ)) (to : ℕ → Option ℕ) (slot : ℕ) (place : Option ℕ) (is : after ≡ set before slot place) where
  pub one_more : slot < length before → place ≡ to slot → ((k : ℕ) → k < slot → get_or before k None ≡ to k) → (k : ℕ) → k < slot + 1 → get_or after k None ≡ to k
  one_more within here so_far k lt = elim (cases_eq k slot) [
    | inl same ↦ ap (λ l. get_or l k None) is ∙ ap (λ i. get_or (set before slot place) i None) same ∙ get_or-set_same before slot place None within ∙ here ∙ ap to (sym same)
    | inr differs ↦ ap (λ l. get_or l k None) is ∙ get_or-set_other before slot k place None differs ∙ so_far k (omega arith)
  ]

  pub others_stay : ((k : ℕ) → slot ≤ k → get_or before k None ≡ get_or first k None) → (k : ℕ) → slot + 1 ≤ k → get_or after k None ≡ get_or first k None
  others_stay rest k le = ap (λ l. get_or l k None) is ∙ get_or-set_other before slot k place None (λ same. absurd (omega arith)) ∙ rest k (omega arith)

-- a member of a list that a function makes, past its end too
pub get_or-made : {X Y : Type 0} (f : X → Y) (xs : List X) (i : ℕ) (d : X) → get_or (map f xs) i (f d) ≡ f (get_or xs i d)
get_or-made f [] i d = refl
get_or-made f (x ∷ xs) zero d = refl
get_or-made f (x ∷ xs) (suc i) d = get_or-made f xs i d

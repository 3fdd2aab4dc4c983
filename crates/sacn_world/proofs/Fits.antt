-- The places that are noted as held are those of the node's rows.
use Rattle.std.proofs.Common.{◌≡◌, ℕ, ◌≤◌, Bool, true, false, cond, List, [], ◌∷◌, map, Some, None, refl, sym, ap, subst, ◌∙◌, inl, inr, arith}
use Rattle.std.specs.Prelude.{◌<◌, ◌==◌, ◌&&◌, if◌then◌else◌}
use Rattle.std.specs.List.{AllByRecursion}
use Rattle.std.specs.Ordering.{is_eq}
use Rattle.std.specs.declared.cmp.Ordering.TheVariants.{Less, Equal, Greater}
use Rattle.std.proofs.lemmas.Bool.{cases_Bool, and_parts, and_from, eqb-true, eq-eqb, ne_eqb}
use Rattle.sacn_sources.specs.Order.{order, same, by_order}
use Rattle.sacn_sources.specs.Rows.{Row}
use Rattle.sacn_sources.specs.declared.answer.Taken.{Taken}
use Rattle.sacn_sources.specs.declared.answer.Taken.TheVariants.{Held, Observed, EndedNow, OutOfSequence, SourcesExceeded, UnknownIgnored}
use Rattle.sacn_node.specs.declared.answer.NodeTaken.TheVariants.{FromTable}
use Rattle.sacn_node.specs.Cores.{Table}
use Rattle.sacn_packets.specs.Universe.{Rising}
use Rattle.sacn_world.specs.Streams.{Sent}
use Rattle.sacn_world.specs.Holdings.{Hold, RisingByCid, is_renewed, put, answer, holding_after, after_delivery}
use Rattle.sacn_world.specs.Nodes.{Holding, unexpired_all, holding_of, reply_on, change, seen_table}
use Rattle.sacn_world.specs.Watches.{Mark, is_mark_of, mark_of, moves, first_mark, mark_after, marked, held_place, hold_from, holding_from}
use Rattle.sacn_world.proofs.All.{all_weaker, all_filter}
use Rattle.sacn_world.proofs.Sources.{same_source, same-itself}
use Rattle.sacn_world.proofs.Maps.{order_turned, order_through}

-- ---- marks after one was noted

-- the place of a stream that is noted as held
abbrev pub noted_place : List ℕ → ℕ → List Mark → ℕ
noted_place s u ms = held_place (mark_of s u ms)

place_of_other : (b : Bool) (d : Mark) (s : List ℕ) (u : ℕ) (ms : List Mark) → is_mark_of s u d ≡ false → noted_place s u (marked b d ms) ≡ noted_place s u ms
place_of_other b d s u [] no' = ap (λ t. held_place (cond t (Some (first_mark b d)) None)) no'
place_of_other b d s u (m ∷ ms) no' =
    elim (is_mark_of d.source d.universe m) as (λ t. is_mark_of d.source d.universe m ≡ t → noted_place s u (if t then mark_after b d m ∷ ms else m ∷ marked b d ms) ≡ noted_place s u (m ∷ ms)) [
      | true ↦ λ e.
          let es : d.source ≡ m.source = same_source _ _ (and_parts _ _ e).0 in
          let eu : m.universe ≡ d.universe = eqb-true _ _ (and_parts _ _ e).1 in
          let mine : is_mark_of s u m ≡ false = ap (λ (z : List ℕ). same s z && (m.universe == u)) (sym es) ∙ ap (λ v. same s d.source && (v == u)) eu ∙ no' in
          ap (λ t. held_place (cond t (Some (mark_after b d m)) (mark_of s u ms))) mine ∙ sym (ap (λ t. held_place (cond t (Some m) (mark_of s u ms))) mine)
      | false ↦ λ e. elim (is_mark_of s u m) as (λ t. held_place (cond t (Some m) (mark_of s u (marked b d ms))) ≡ held_place (cond t (Some m) (mark_of s u ms))) [
        | true ↦ refl
        | false ↦ place_of_other b d s u ms no'
      ]
    ] refl

place_of_own : (b : Bool) (d : Mark) (ms : List Mark) → noted_place d.source d.universe (marked b d ms) ≡ (if b then d.held else noted_place d.source d.universe ms)
place_of_own b d [] = ap (λ t. held_place (cond t (Some (first_mark b d)) None)) (and_from _ _ (same-itself d.source) (eq-eqb d.universe d.universe refl))
place_of_own b d (m ∷ ms) =
    elim (is_mark_of d.source d.universe m) as (λ t. is_mark_of d.source d.universe m ≡ t → noted_place d.source d.universe (if t then mark_after b d m ∷ ms else m ∷ marked b d ms) ≡ (if b then d.held else held_place (cond t (Some m) (mark_of d.source d.universe ms)))) [
      | true ↦ λ e. ap (λ t. held_place (cond t (Some (mark_after b d m)) (mark_of d.source d.universe ms))) e
      | false ↦ λ e. ap (λ t. held_place (cond t (Some m) (mark_of d.source d.universe (marked b d ms)))) e ∙ place_of_own b d ms
    ] refl

place_unmoved : (d : Mark) (s : List ℕ) (u : ℕ) (ms : List Mark) → noted_place s u (marked false d ms) ≡ noted_place s u ms
place_unmoved d s u ms =
    elim (cases_Bool (is_mark_of s u d)) [
      | inl pass ↦
          let es : s ≡ d.source = same_source _ _ (and_parts _ _ pass).0 in
          let eu : u ≡ d.universe = sym (eqb-true _ _ (and_parts _ _ pass).1) in
          ap (λ (z : List ℕ). noted_place z u (marked false d ms)) es ∙ ap (λ v. noted_place d.source v (marked false d ms)) eu
          ∙ place_of_own false d ms
          ∙ sym (ap (λ (z : List ℕ). noted_place z u ms) es ∙ ap (λ v. noted_place d.source v ms) eu)
      | inr fail ↦ place_of_other false d s u ms fail
    ]

-- ---- holds that fit

abbrev Fit : List Mark → ℕ → Hold → Type 0
Fit ms u h = noted_place h.source u ms ≡ h.place

abbrev pub Fits : List Mark → List Holding → Type 0
Fits ms gs = AllByRecursion (λ g. AllByRecursion (Fit ms g.universe) g.held) gs

rows_fit : (ms : List Mark) (u : ℕ) (rs : List Row) → AllByRecursion (Fit ms u) (map (hold_from ms u) rs)
rows_fit ms u [] = tt
rows_fit ms u (r ∷ rs) = (refl, rows_fit ms u rs)

pub fits_itself : (ms : List Mark) (gs : List Table) → Fits ms (map (holding_from ms) gs)
fits_itself ms [] = tt
fits_itself ms (g ∷ gs) = (rows_fit ms g.universe g.rows, fits_itself ms gs)

holds_back : (sent : List Sent) (ms : List Mark) (u : ℕ) (hs : List Hold) → AllByRecursion (Fit ms u) hs → map (hold_from ms u) (map (Rattle.sacn_world.specs.RowsOfPlaces.seen u sent) hs) ≡ hs
holds_back sent ms u [] fit = refl
holds_back sent ms u (h ∷ hs) fit = λ i. record { source = h.source; place = fit.0 i; moment = h.moment } ∷ holds_back sent ms u hs fit.1 i

-- what fits is got back from the rows that it looks like
pub got_back : (sent : List Sent) (ms : List Mark) (gs : List Holding) → Fits ms gs → map (holding_from ms) (map (seen_table sent) gs) ≡ gs
got_back sent ms [] fit = refl
got_back sent ms (g ∷ gs) fit = λ i. record { universe = g.universe; held = holds_back sent ms g.universe g.held fit.0 i } ∷ got_back sent ms gs fit.1 i

pub fits_kept : (ms : List Mark) (t : ℕ) (gs : List Holding) → Fits ms gs → Fits ms (unexpired_all t gs)
fits_kept ms t [] fit = tt
fits_kept ms t (g ∷ gs) fit = (all_filter (Fit ms g.universe) (is_renewed t) g.held fit.0, fits_kept ms t gs fit.1)

-- ---- after a delivery

other_universe : (b : Bool) (d : Mark) (ms : List Mark) (u : ℕ) (hs : List Hold) → (u ≡ d.universe → ⊥) → AllByRecursion (Fit ms u) hs → AllByRecursion (Fit (marked b d ms) u) hs
other_universe b d ms u hs ne fit =
    all_weaker (Fit ms u) _ (λ h f.
    let no' : (d.universe == u) ≡ false = ne_eqb _ _ (λ e. ne (sym e)) in
    place_of_other b d h.source u ms (elim (same h.source d.source) as (λ t. (t && (d.universe == u)) ≡ false) [ true ↦ no' | false ↦ refl ]) ∙ f) hs fit

above_all : (b : Bool) (d : Mark) (ms : List Mark) (v : ℕ) (gs : List Holding) → AllByRecursion (λ u. v < u) (map (λ (g : Holding). g.universe) gs) → d.universe ≤ v → Fits ms gs → Fits (marked b d ms) gs
above_all b d ms v [] above le fit = tt
above_all b d ms v (g ∷ gs) above le fit = (
  other_universe b d ms g.universe g.held (λ e. absurd (let l = above.0 in omega (arith, e, l, le))) fit.0,
  above_all b d ms v gs above.1 le fit.1,
)

other_source : (d : Mark) (ms : List Mark) (h : Hold) → same h.source d.source ≡ false → Fit ms d.universe h → Fit (marked true d ms) d.universe h
other_source d ms h ne f = place_of_other true d h.source d.universe ms (ap (λ t. t && (d.universe == d.universe)) ne) ∙ f

not_same : (a b : List ℕ) → order a b ≡ Less → same b a ≡ false
not_same a b e = ap is_eq (order_turned b a ∙ ap (Rattle.std.specs.Ordering.ordering_reverse) e)

-- all after a greater one
later_fit : (d : Mark) (ms : List Mark) (n : Hold) (hs : List Hold) → n.source ≡ d.source → AllByRecursion (λ (k : Hold). order n.source k.source ≡ Less) hs → AllByRecursion (Fit ms d.universe) hs → AllByRecursion (Fit (marked true d ms) d.universe) hs
later_fit d ms n [] es more fit = tt
later_fit d ms n (h ∷ hs) es more fit = (
  other_source d ms h (ap (same h.source) (sym es) ∙ not_same n.source h.source more.0) fit.0,
  later_fit d ms n hs es more.1 fit.1,
)

put_all : (d : Mark) (ms : List Mark) (n : Hold) (hs : List Hold) → n.source ≡ d.source → Fit (marked true d ms) d.universe n → RisingByCid hs → AllByRecursion (Fit ms d.universe) hs → AllByRecursion (Fit (marked true d ms) d.universe) (put n hs)
put_all d ms n [] es own so fit = (own, tt)
put_all d ms n (h ∷ hs) es own so fit =
    elim (order n.source h.source) as (λ o. order n.source h.source ≡ o → AllByRecursion (Fit (marked true d ms) d.universe) (by_order o (n ∷ h ∷ hs) (n ∷ hs) (h ∷ put n hs))) [
      | Less ↦ λ e. (own, later_fit d ms n (h ∷ hs) es (e, all_weaker _ _ (λ k lt. order_through n.source h.source k.source e lt) hs so.0) fit)
      | Equal ↦ λ e.
          let is : n.source ≡ h.source = same_source _ _ (ap is_eq e) in
          (own, later_fit d ms n hs es (subst (λ (s : List ℕ). AllByRecursion (λ (k : Hold). order s k.source ≡ Less) hs) (sym is) so.0) fit.1)
      | Greater ↦ λ e.
          let ne : same h.source d.source ≡ false = ap (same h.source) (sym es) ∙ ap is_eq (order_turned h.source n.source ∙ ap (Rattle.std.specs.Ordering.ordering_reverse) e) in
          (other_source d ms h ne fit.0, put_all d ms n hs es own so.1 fit.1)
    ] refl

put_fits : (d : Mark) (ms : List Mark) (n : Hold) (hs : List Hold) → n.source ≡ d.source → n.place ≡ d.held → RisingByCid hs → AllByRecursion (Fit ms d.universe) hs → AllByRecursion (Fit (marked true d ms) d.universe) (put n hs)
put_fits d ms n hs es ep so fit =
    let own : Fit (marked true d ms) d.universe n = ap (λ (z : List ℕ). noted_place z d.universe (marked true d ms)) es ∙ place_of_own true d ms ∙ sym ep in
    put_all d ms n hs es own so fit

unmoved : (d : Mark) (ms : List Mark) (u : ℕ) (hs : List Hold) → AllByRecursion (Fit ms u) hs → AllByRecursion (Fit (marked false d ms) u) hs
unmoved d ms u hs fit = all_weaker (Fit ms u) _ (λ h f. place_unmoved d h.source u ms ∙ f) hs fit

unmoved_all : (d : Mark) (ms : List Mark) (gs : List Holding) → Fits ms gs → Fits (marked false d ms) gs
unmoved_all d ms [] fit = tt
unmoved_all d ms (g ∷ gs) fit = (unmoved d ms g.universe g.held fit.0, unmoved_all d ms gs fit.1)

after_fits : (a : Taken) (d : Mark) (ms : List Mark) (n : Hold) (hs : List Hold) → n.source ≡ d.source → n.place ≡ d.held → RisingByCid hs → AllByRecursion (Fit ms d.universe) hs → AllByRecursion (Fit (marked (moves (FromTable a)) d ms) d.universe) (holding_after a n hs)
after_fits Held d ms n hs es ep so fit = put_fits d ms n hs es ep so fit
after_fits EndedNow d ms n hs es ep so fit = put_fits d ms n hs es ep so fit
after_fits Observed d ms n hs es ep so fit = unmoved d ms d.universe hs fit
after_fits OutOfSequence d ms n hs es ep so fit = unmoved d ms d.universe hs fit
after_fits SourcesExceeded d ms n hs es ep so fit = unmoved d ms d.universe hs fit
after_fits UnknownIgnored d ms n hs es ep so fit = unmoved d ms d.universe hs fit

pub fits_change : (st : List Sent) (t : ℕ) (d : Mark) (ms : List Mark) (gs : List Holding) → Rising (map (λ (g : Holding). g.universe) gs) → AllByRecursion (λ (g : Holding). RisingByCid g.held) gs → Fits ms gs → Fits (marked (moves (reply_on st d.source d.held (holding_of d.universe gs))) d ms) (change d.universe (after_delivery st d.source d.held t) gs)
fits_change st t d ms [] rise sorted fit = tt
fits_change st t d ms (g ∷ gs) rise sorted fit =
    elim (g.universe == d.universe) as (λ b. (g.universe == d.universe) ≡ b → Fits (marked (moves (reply_on st d.source d.held (cond b (Some g) (holding_of d.universe gs)))) d ms) (if b then record { universe = g.universe; held = after_delivery st d.source d.held t g.held } ∷ gs else g ∷ change d.universe (after_delivery st d.source d.held t) gs)) [
      | true ↦ λ e.
          let eu = eqb-true g.universe d.universe e in
          let a = answer st d.source d.held g.held in
          let here : AllByRecursion (Fit ms d.universe) g.held = subst (λ v. AllByRecursion (Fit ms v) g.held) eu fit.0 in
          let f = after_fits a d ms (record { source = d.source; place = d.held; moment = t }) g.held refl refl sorted.0 here in (
            subst (λ v. AllByRecursion (Fit (marked (moves (FromTable a)) d ms) v) (after_delivery st d.source d.held t g.held)) (sym eu) f,
            above_all (moves (FromTable a)) d ms g.universe gs rise.0 (omega (arith, eu)) fit.1,
          )
      | false ↦ λ e. (
        other_universe _ d ms g.universe g.held (λ eu. absurd (let x = eq-eqb g.universe d.universe eu in cc)) fit.0,
        fits_change st t d ms gs rise.1 sorted.1 fit.1,
      )
    ] refl

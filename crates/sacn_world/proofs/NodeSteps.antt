-- One call of a node core: its reply and what it leaves are those of the places.
use Rattle.std.proofs.Common.{◌≡◌, ℕ, ◌<◌, ◌≤◌, max, true, false, not, List, [], ◌∷◌, map, length, Option, Some, None, refl, sym, ap, subst, ◌∙◌, inl, inr, arith}
use Rattle.std.specs.Prelude.{find, ◌&&◌, filter_map, option_map, nat_lt, ◌==◌, if◌then◌else◌}
use Rattle.std.specs.List.{AllByRecursion}
use Rattle.std.proofs.lemmas.Bool.{cases_Bool, and_parts, and_from, eqb-true, eq-eqb}
use Rattle.std.proofs.lemmas.Option.{same_Some}
use Rattle.std.specs.List.{cons_option}
use Rattle.sacn_sources.specs.declared.limits.TheConstants.{MAX_SOURCES}
use Rattle.sacn_world.proofs.Numbers.{agrees}
use Rattle.sacn_world.proofs.Sources.{same_source, same-itself}
use Rattle.sacn_world.proofs.All.{all_weaker, all_filter}
use Rattle.std.specs.declared.cmp.Ordering.TheVariants.{Less, Equal, Greater}
use Rattle.sacn_world.proofs.Lists.{found, find-map, kept_seen}
use Rattle.sacn_world.proofs.Steps.{taken_seen, rows_seen, held_live, ended_not, never_observed}
use Rattle.sacn_world.specs.Streams.{Sent, number_at, stream_of, follows, Ordered, late}
use Rattle.sacn_world.specs.Holdings.{Hold, is_renewed, hold_of, put, answer, holding_after, after_delivery, Delivery, newest, add_delivery, refusal_at, refusal}
use Rattle.sacn_world.specs.RowsOfPlaces.{packet_at, rows_of}
use Rattle.sacn_world.specs.Nodes.{Holding, Node, unexpired_all, reply_on, change, node_reply, node_after, node_at, shown_of, slots_on, node_slots, seen_table, seen_core, HoldOk}
use Rattle.sacn_sources.specs.Order.{order, same, by_order}
use Rattle.sacn_sources.specs.Rows.{Row, taken, rows_after, take_row, layers}
use Rattle.sacn_node.specs.Cores.{slots_on as slots_on_table, core_slots, rows_kept_all, core_reply_on, change_rows, core_reply, core_after, core_at, core_slots}
use Rattle.sacn_sources.specs.Merge.{merge}
use Rattle.sacn_sources.specs.declared.answer.Taken.{Taken}
use Rattle.sacn_sources.specs.declared.answer.Taken.TheVariants.{UnknownIgnored, Held, EndedNow, Observed, OutOfSequence, SourcesExceeded}
use Rattle.sacn_node.specs.declared.answer.NodeTaken.TheVariants.{FromTable}
use Rattle.sacn_world.specs.Worlds.{step}

-- at one table, under the rule that the numbers decide as the places do
abbrev Rule : ℕ → List Sent → List ℕ → ℕ → List Hold → Type 0
Rule u sent s q hs = (h : Hold) → hold_of s hs ≡ Some h → not (late (number_at (stream_of h.source u sent) h.place) (number_at (stream_of s u sent) q)) ≡ follows (stream_of s u sent) h.place q

pub take_seen : (u : ℕ) (sent : List Sent) (s : List ℕ) (q t : ℕ) (hs : List Hold) → Rule u sent s q hs → take_row (packet_at s (stream_of s u sent) q) t (rows_of u sent hs) ≡ rows_of u sent (after_delivery (stream_of s u sent) s q t hs)
take_seen u sent s q t hs rule =
    let st = stream_of s u sent in
    let room = nat_lt (length hs) MAX_SOURCES in
    ap (λ a. rows_after a (packet_at s st q) t (rows_of u sent hs)) (taken_seen u sent s q hs rule)
    ∙ rows_seen u sent (answer st s q hs) s q t hs (held_live st q room (hold_of s hs)) (ended_not st q room (hold_of s hs)) (never_observed st q room (hold_of s hs))

kept_all_seen : (sent : List Sent) (t : ℕ) (gs : List Holding) → rows_kept_all t (map (seen_table sent) gs) ≡ map (seen_table sent) (unexpired_all t gs)
kept_all_seen sent t [] = refl
kept_all_seen sent t (g ∷ gs) =
    λ i. record { universe = g.universe; rows = kept_seen g.universe sent t g.held i } ∷ kept_all_seen sent t gs i

change_seen : (sent : List Sent) (u : ℕ) (f : List Hold → List Hold) (r : List Row → List Row) (gs : List Holding) → AllByRecursion (λ g. (g.universe ≡ u) → r (rows_of g.universe sent g.held) ≡ rows_of g.universe sent (f g.held)) gs → change_rows u r (map (seen_table sent) gs) ≡ map (seen_table sent) (change u f gs)
change_seen sent u f r [] h = refl
change_seen sent u f r (g ∷ gs) h =
    elim (g.universe == u) as (λ b. (g.universe == u) ≡ b → (if b then record { universe = g.universe; rows = r (rows_of g.universe sent g.held) } ∷ map (seen_table sent) gs else seen_table sent g ∷ change_rows u r (map (seen_table sent) gs)) ≡ map (seen_table sent) (if b then record { universe = g.universe; held = f g.held } ∷ gs else g ∷ change u f gs)) [
      | true ↦ λ e. λ i. record { universe = g.universe; rows = h.0 (eqb-true _ _ e) i } ∷ map (seen_table sent) gs
      | false ↦ λ e. ap (λ rs. seen_table sent g ∷ rs) (change_seen sent u f r gs h.1)
    ] refl

layers_seen : (u : ℕ) (sent : List Sent) (hs : List Hold) → layers (rows_of u sent hs) ≡ filter_map (shown_of u sent) hs
layers_seen u sent [] = refl
layers_seen u sent (h ∷ hs) = ap (cons_option (shown_of u sent h)) (layers_seen u sent hs)

-- ---- what the invariant gives

pub newest_within : (sent : List Sent) (s : List ℕ) (u : ℕ) (ds : List Delivery) (n : ℕ) → AllByRecursion (λ d. d.place < length (stream_of d.source d.universe sent)) ds → newest s u ds ≡ Some n → n < length (stream_of s u sent)
newest_within sent s u [] n all e = absurd (cc)
newest_within sent s u (d ∷ ds) n all e =
    elim (cases_Bool (same s d.source && (d.universe == u))) [
      | inl pass ↦
          let parts = and_parts _ _ pass in
          let es = same_source s d.source parts.0 in
          let eu = eqb-true _ _ parts.1 in
          let here : d.place < length (stream_of s u sent) =
          subst (λ x. d.place < length (stream_of x u sent)) (sym es) (subst (λ v. d.place < length (stream_of d.source v sent)) eu all.0) in
          let is : Some d.place ≡ Some n = grind (arith, pass, e) in
          let dn = same_Some d.place n is in
          omega (arith, here, dn)
      | inr fail ↦
          let rest : newest s u ds ≡ Some n = grind (arith, fail, e) in
          newest_within sent s u ds n all.1 rest
    ]

pub rule_from : (u : ℕ) (sent : List Sent) (s : List ℕ) (q : ℕ) (ds : List Delivery) (hs : List Hold) → Ordered (stream_of s u sent) → AllByRecursion (λ d. d.place < length (stream_of d.source d.universe sent)) ds → q < length (stream_of s u sent) → refusal (stream_of s u sent) (newest s u ds) q ≡ None → AllByRecursion (HoldOk u ds) hs → Rule u sent s q hs
rule_from u sent s q ds hs ord within there may all h is =
    let f = found (HoldOk u ds) (λ x. same s x.source) hs h all is in
    let es = same_source s h.source f.1 in
    let last = f.0.last in
    let now : newest s u ds ≡ Some last = ap (λ x. newest x u ds) es ∙ f.0.is_last in
    let may' : refusal_at (stream_of s u sent) last q ≡ None = ap (λ o. refusal (stream_of s u sent) o q) (sym now) ∙ may in
    let a = agrees (stream_of s u sent) ord h.place last q f.0.below (newest_within sent s u ds last within now) there may' in
    ap (λ x. not (late (number_at (stream_of x u sent) h.place) (number_at (stream_of s u sent) q))) (sym es) ∙ a

-- ---- the invariant after a delivery

newest_noted : (s : List ℕ) (u : ℕ) (d : Delivery) (ds : List Delivery) (n : ℕ) → newest s u ds ≡ Some n → (m : ℕ) × (newest s u (add_delivery d ds) ≡ Some m) × (n ≤ m)
newest_noted s u d [] n e = absurd (cc)
newest_noted s u d (x ∷ xs) n e =
    elim (same d.source x.source && (x.universe == d.universe)) as (λ b. (m : ℕ) × (newest s u (if b then record { source = x.source; universe = x.universe; place = max d.place x.place } ∷ xs else x ∷ add_delivery d xs) ≡ Some m) × (n ≤ m)) [
      | true ↦ elim (same s x.source && (x.universe == u)) as (λ b. (if b then Some x.place else newest s u xs) ≡ Some n → (m : ℕ) × ((if b then Some (max d.place x.place) else newest s u xs) ≡ Some m) × (n ≤ m)) [
        | true ↦ λ f. (max d.place x.place, refl, let g = same_Some x.place n f in omega (arith, g))
        | false ↦ λ f. (n, f, omega arith)
      ] e
      | false ↦ elim (same s x.source && (x.universe == u)) as (λ b. (if b then Some x.place else newest s u xs) ≡ Some n → (m : ℕ) × ((if b then Some x.place else newest s u (add_delivery d xs)) ≡ Some m) × (n ≤ m)) [
        | true ↦ λ f. (n, f, omega arith)
        | false ↦ λ f. newest_noted s u d xs n f
      ] e
    ]

pub hold_more : (u : ℕ) (d : Delivery) (ds : List Delivery) (h : Hold) → HoldOk u ds h → HoldOk u (add_delivery d ds) h
hold_more u d ds h ok =
    let m = newest_noted h.source u d ds ok.last ok.is_last in
    record { last = m.0; is_last = m.1; below = omega (arith, m.2, ok.below) }

newest_new : (s : List ℕ) (u q : ℕ) (ds : List Delivery) → (m : ℕ) × (newest s u (add_delivery (record { source = s; universe = u; place = q }) ds) ≡ Some m) × (q ≤ m)
newest_new s u q [] =
    let both : (same s s && (u == u)) ≡ true = and_from _ _ (same-itself s) (eq-eqb u u refl) in
    (q, ap (λ b. if b then Some q else None) both, omega arith)
newest_new s u q (x ∷ xs) =
    elim (same s x.source && (x.universe == u)) as (λ b. (same s x.source && (x.universe == u)) ≡ b → (m : ℕ) × (newest s u (if b then record { source = x.source; universe = x.universe; place = max q x.place } ∷ xs else x ∷ add_delivery (record { source = s; universe = u; place = q }) xs) ≡ Some m) × (q ≤ m)) [
      | true ↦ λ e. (max q x.place, ap (λ b. if b then Some (max q x.place) else newest s u xs) e, omega arith)
      | false ↦ λ e. let r = newest_new s u q xs in (r.0, ap (λ b. if b then Some x.place else newest s u (add_delivery (record { source = s; universe = u; place = q }) xs)) e ∙ r.1, r.2)
    ] refl

pub hold_new : (s : List ℕ) (u q t : ℕ) (ds : List Delivery) → HoldOk u (add_delivery (record { source = s; universe = u; place = q }) ds) (record { source = s; place = q; moment = t })
hold_new s u q t ds = let m = newest_new s u q ds in record { last = m.0; is_last = m.1; below = m.2 }

pub all_noted : (sent : List Sent) (d : Delivery) (ds : List Delivery) → d.place < length (stream_of d.source d.universe sent) → AllByRecursion (λ (y : Delivery). y.place < length (stream_of y.source y.universe sent)) ds → AllByRecursion (λ (y : Delivery). y.place < length (stream_of y.source y.universe sent)) (add_delivery d ds)
all_noted sent d [] h all = (h, tt)
all_noted sent d (x ∷ xs) h all =
    elim (same d.source x.source && (x.universe == d.universe)) as (λ b. (same d.source x.source && (x.universe == d.universe)) ≡ b → AllByRecursion (λ (y : Delivery). y.place < length (stream_of y.source y.universe sent)) (if b then record { source = x.source; universe = x.universe; place = max d.place x.place } ∷ xs else x ∷ add_delivery d xs)) [
      | true ↦ λ e.
          let parts = and_parts _ _ e in
          let h' : d.place < length (stream_of x.source x.universe sent) = subst (λ v. d.place < length (stream_of x.source v sent)) (sym (eqb-true _ _ parts.1)) (subst (λ z. d.place < length (stream_of z d.universe sent)) (same_source d.source x.source parts.0) h) in
          (omega (arith, h', all.0), all.1)
      | false ↦ λ e. (all.0, all_noted sent d xs h all.1)
    ] refl

all_put : (P : Hold → Type 0) (n : Hold) (hs : List Hold) → P n → AllByRecursion P hs → AllByRecursion P (put n hs)
all_put P n [] p all = (p, tt)
all_put P n (h ∷ hs) p all =
    elim (order n.source h.source) as (λ o. AllByRecursion P (by_order o (n ∷ h ∷ hs) (n ∷ hs) (h ∷ put n hs))) [
      | Less ↦ (p, all)
      | Equal ↦ (p, all.1)
      | Greater ↦ (all.0, all_put P n hs p all.1)
    ]

all_after : (P : Hold → Type 0) (a : Taken) (n : Hold) (hs : List Hold) → P n → AllByRecursion P hs → AllByRecursion P (holding_after a n hs)
all_after P Held n hs p all = all_put P n hs p all
all_after P EndedNow n hs p all = all_put P n hs p all
all_after P Observed n hs p all = all
all_after P OutOfSequence n hs p all = all
all_after P SourcesExceeded n hs p all = all
all_after P UnknownIgnored n hs p all = all

all_change : (P : ℕ → Hold → Type 0) (u : ℕ) (f : List Hold → List Hold) (gs : List Holding) → ((hs : List Hold) → AllByRecursion (P u) hs → AllByRecursion (P u) (f hs)) → AllByRecursion (λ g. AllByRecursion (P g.universe) g.held) gs → AllByRecursion (λ g. AllByRecursion (P g.universe) g.held) (change u f gs)
all_change P u f [] step all = tt
all_change P u f (g ∷ gs) step all =
    elim (g.universe == u) as (λ b. (g.universe == u) ≡ b → AllByRecursion (λ y. AllByRecursion (P y.universe) y.held) (if b then record { universe = g.universe; held = f g.held } ∷ gs else g ∷ change u f gs)) [
      | true ↦ λ e.
          let eu = eqb-true g.universe u e in
          (subst (λ v. AllByRecursion (P v) (f g.held)) (sym eu) (step g.held (subst (λ v. AllByRecursion (P v) g.held) eu all.0)), all.1)
      | false ↦ λ e. (all.0, all_change P u f gs step all.1)
    ] refl

pub all_kept : (P : ℕ → Hold → Type 0) (t : ℕ) (gs : List Holding) → AllByRecursion (λ g. AllByRecursion (P g.universe) g.held) gs → AllByRecursion (λ g. AllByRecursion (P g.universe) g.held) (unexpired_all t gs)
all_kept P t [] all = tt
all_kept P t (g ∷ gs) all = (all_filter (P g.universe) (is_renewed t) g.held all.0, all_kept P t gs all.1)

pub all_more : (d : Delivery) (ds : List Delivery) (gs : List Holding) → AllByRecursion (λ g. AllByRecursion (HoldOk g.universe ds) g.held) gs → AllByRecursion (λ g. AllByRecursion (HoldOk g.universe (add_delivery d ds)) g.held) gs
all_more d ds [] all = tt
all_more d ds (g ∷ gs) all = (all_weaker _ _ (λ h ok. hold_more g.universe d ds h ok) g.held all.0, all_more d ds gs all.1)

-- ---- whole nodes

module _ (sent : List Sent) (s : List ℕ) (u q m : ℕ) (n : Node) (ord : Ordered (stream_of s u sent)) (there : q < length (stream_of s u sent)) (may : refusal (stream_of s u sent) (newest s u n.delivered) q ≡ None) (within : AllByRecursion (λ d. d.place < length (stream_of d.source d.universe sent)) n.delivered) (below : AllByRecursion (λ g. AllByRecursion (HoldOk g.universe n.delivered) g.held) n.holdings) where
  now : List Holding
  now = unexpired_all (max n.moment m) n.holdings

  now_below : AllByRecursion (λ g. AllByRecursion (HoldOk g.universe n.delivered) g.held) now
  unfolding now
  now_below = all_kept (λ v. HoldOk v n.delivered) (max n.moment m) n.holdings below

  reply_by : (o : Option Holding) → ((g : Holding) → o ≡ Some g → (g.universe ≡ u) × AllByRecursion (HoldOk g.universe n.delivered) g.held) → core_reply_on (packet_at s (stream_of s u sent) q) (option_map (seen_table sent) o) ≡ reply_on (stream_of s u sent) s q o
  reply_by None h = refl
  reply_by (Some g) h =
      let a = h g refl in
      let all : AllByRecursion (HoldOk u n.delivered) g.held = subst (λ v. AllByRecursion (HoldOk v n.delivered) g.held) a.0 a.1 in
      ap (λ v. FromTable (taken (packet_at s (stream_of s u sent) q) (rows_of v sent g.held))) a.0
      ∙ ap FromTable (taken_seen u sent s q g.held (rule_from u sent s q n.delivered g.held ord within there may all))

  pub reply_seen : core_reply u (packet_at s (stream_of s u sent) q) m (seen_core sent n) ≡ node_reply sent s u q m n
  unfolding seen_core now
  reply_seen =
      ap (λ gs. core_reply_on (packet_at s (stream_of s u sent) q) (find (λ g. g.universe == u) gs)) (kept_all_seen sent (max n.moment m) n.holdings)
      ∙ ap (core_reply_on (packet_at s (stream_of s u sent) q)) (find-map (seen_table sent) (λ g. g.universe == u) _ (λ x. refl) now)
      ∙ reply_by (find (λ g. g.universe == u) now) (λ g e. let f = found (λ y. AllByRecursion (HoldOk y.universe n.delivered) y.held) (λ y. y.universe == u) now g now_below e in (eqb-true _ _ f.1, f.0))

  each : (gs : List Holding) → AllByRecursion (λ g. AllByRecursion (HoldOk g.universe n.delivered) g.held) gs → AllByRecursion (λ g. (g.universe ≡ u) → take_row (packet_at s (stream_of s u sent) q) (max n.moment m) (rows_of g.universe sent g.held) ≡ rows_of g.universe sent (after_delivery (stream_of s u sent) s q (max n.moment m) g.held)) gs
  each [] all = tt
  each (g ∷ gs) all = (
    λ eu.
        let mine : AllByRecursion (HoldOk u n.delivered) g.held = subst (λ v. AllByRecursion (HoldOk v n.delivered) g.held) eu all.0 in
        subst (λ v. take_row (packet_at s (stream_of s u sent) q) (max n.moment m) (rows_of v sent g.held) ≡ rows_of v sent (after_delivery (stream_of s u sent) s q (max n.moment m) g.held)) (sym eu) (take_seen u sent s q (max n.moment m) g.held (rule_from u sent s q n.delivered g.held ord within there may mine)),
    each gs all.1,
  )

  pub after_seen : core_after u (packet_at s (stream_of s u sent) q) m (seen_core sent n) ≡ seen_core sent (node_after sent s u q m n)
  unfolding seen_core now
  after_seen =
      let f = after_delivery (stream_of s u sent) s q (max n.moment m) in
      let r = take_row (packet_at s (stream_of s u sent) q) (max n.moment m) in
      let e = ap (change_rows u r) (kept_all_seen sent (max n.moment m) n.holdings) ∙ change_seen sent u f r now (each now now_below) in
      λ i. record { moment = max n.moment m; tables = e i }

  pub below_after : AllByRecursion (λ g. AllByRecursion (HoldOk g.universe (add_delivery (record { source = s; universe = u; place = q }) n.delivered)) g.held) (change u (after_delivery (stream_of s u sent) s q (max n.moment m)) (unexpired_all (max n.moment m) n.holdings))
  unfolding now
  below_after =
      let d : Delivery = record { source = s; universe = u; place = q } in
      all_change (λ v. HoldOk v (add_delivery d n.delivered)) u _ now (λ hs all. all_after (HoldOk u (add_delivery d n.delivered)) (answer (stream_of s u sent) s q hs) (record { source = s; place = q; moment = max n.moment m }) hs (hold_new s u q (max n.moment m) n.delivered) all) (all_more d n.delivered now now_below)

-- ---- expiry and what is shown

pub at_seen : (sent : List Sent) (m : ℕ) (n : Node) → core_at m (seen_core sent n) ≡ seen_core sent (node_at m n)
unfolding seen_core
at_seen sent m n = let e = kept_all_seen sent (max n.moment m) n.holdings in λ i. record { moment = max n.moment m; tables = e i }

slots_by : (sent : List Sent) (o : Option Holding) → slots_on_table (option_map (seen_table sent) o) ≡ slots_on sent o
slots_by sent None = refl
slots_by sent (Some g) = ap merge (layers_seen g.universe sent g.held)

pub slots_seen : (sent : List Sent) (n : Node) (u : ℕ) → core_slots (seen_core sent n) u ≡ node_slots sent n u
unfolding seen_core
slots_seen sent n u =
    ap slots_on_table (find-map (seen_table sent) (λ g. g.universe == u) _ (λ x. refl) n.holdings) ∙ slots_by sent (find (λ g. g.universe == u) n.holdings)

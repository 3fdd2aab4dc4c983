-- Who leads a universe, by the lights of its sources alone, and what leaves these as they are.
use Rattle.std.proofs.Common.{◌≡◌, ◌<◌, ◌≤◌, ◌+◌, ◌-◌, ◌^◌, inl, inr, ℕ, zero, suc, min, max, nat_lt, Bool, true, false, not, ◌&&◌, ◌||◌, ◌==◌, cond, is_some, List, [], ◌∷◌, ◌++◌, set, slice_get, Option, None, Some, refl, sym, ap, ◌∙◌, arith, ne_eqb}
use Rattle.std.proofs.lemmas.Bool.{cases_eq, ltb-false, lt-ltb, le-ltb}
use Rattle.sacn_packets.specs.Data.{Data}
use Rattle.sacn_sources.specs.declared.limits.TheConstants.{NETWORK_DATA_LOSS}
use Rattle.sacn_sources.specs.Packets.{kind_of}
use Rattle.sacn_monitor.specs.declared.account.Account.{Account}
use Rattle.sacn_monitor.specs.declared.account.Endpoint.{Endpoint}
use Rattle.sacn_monitor.specs.declared.holding.Holding.{Holding}
use Rattle.sacn_monitor.specs.declared.holding.Holding.TheVariants.{Nothing, Ended, Levels}
use Rattle.sacn_monitor.specs.declared.news.News.{News}
use Rattle.sacn_monitor.specs.declared.stream.Stream.{Stream}
use Rattle.sacn_monitor.specs.Accounts.{after_discarded, after_taken, discarded_event, first_account, first_event, is_discarded, news_of, quiet, taken_news}
use Rattle.sacn_monitor.specs.Holdings.{held_after, is_relit, lasts, light_at, light_end, same_light}
use Rattle.sacn_monitor.specs.Rivals.{light_or_0, rivals}
use Rattle.sacn_monitor.specs.Streams.{first_stream, stream_after}
use Rattle.sacn_monitor.specs.Books.{Book, changed, next_light_end, silent_place, told_at, with_told}
use Rattle.sacn_monitor.proofs.Leading.{all_counted, count_with, leading, top_with}
use Rattle.sacn_monitor.proofs.LightEnds.{discarded_keeps}
use Rattle.sacn_network.specs.declared.ledger.Ledger.{Ledger}
use Rattle.sacn_network.specs.LightEnds.{comes_by}
use Rattle.sacn_network.specs.Losses.{after_end, lost_place, next_end, silenced}
use Rattle.sacn_network.specs.Packets.{goes_on, stirred_universe, stirs}
use Rattle.sacn_network.proofs.Lights.{not_yet}
use Rattle.sacn_network.proofs.Ticks.{end_keeps}

-- the priority at which a source lights a universe, if it does
abbrev pub glow : ℕ → ℕ → Stream → Option ℕ
glow u t s = cond (s.universe == u) (light_at t s.account.holding) None

abbrev pub glow_in : ℕ → ℕ → Option Stream → Option ℕ
glow_in u t None = None
glow_in u t (Some s) = glow u t s

pub first_not : (a b : Bool) → a || b ≡ false → a ≡ false
first_not true b is = absurd cc
first_not false b is = refl

pub second_not : (a b : Bool) → a || b ≡ false → b ≡ false
second_not true b is = absurd cc
second_not false b is = is

pub first_is : (a b : Bool) → a && b ≡ true → a ≡ true
first_is true b is = refl
first_is false b is = absurd cc

pub second_is : (a b : Bool) → a && b ≡ true → b ≡ true
second_is true b is = is
second_is false b is = absurd cc

pub other_is : (a b : Bool) → a ≡ false → a || b ≡ true → b ≡ true
other_is true b none is = absurd cc
other_is false b none is = is

pub is_same : (a b : ℕ) → (a == b) ≡ true → a ≡ b
is_same a b is =
    elim (cases_eq a b) [
      | inl same ↦ same
      | inr apart ↦ absurd (differs (a == b) (ne_eqb a b apart) is)
    ]
  where
    differs : (x : Bool) → x ≡ false → x ≡ true → ⊥
    differs true dark lit = let bad : ⊥ = cc in bad
    differs false dark lit = let bad : ⊥ = cc in bad

-- ---- who leads, by the lights alone

module _ (u : ℕ) where
  abbrev by_light : (ℕ → ℕ → ℕ) → ℕ → ℕ → Option ℕ → ℕ
  by_light rest top count None = rest top count
  by_light rest top count (Some priority) = rest (top_with top priority) (count_with top count priority)

  one_by : (rest : ℕ → ℕ → ℕ) (top count : ℕ) (here : Bool) (g : Option ℕ) → cond (here && is_some g) (rest (top_with top (light_or_0 g)) (count_with top count (light_or_0 g))) (rest top count) ≡ by_light rest top count (cond here g None)
  one_by rest top count true None = refl
  one_by rest top count true (Some priority) = refl
  one_by rest top count false g = refl

  light_same : (rest more : ℕ → ℕ → ℕ) (top count : ℕ) (g : Option ℕ) → ((a b : ℕ) → rest a b ≡ more a b) → by_light rest top count g ≡ by_light more top count g
  light_same rest more top count None same = same top count
  light_same rest more top count (Some priority) same = same (top_with top priority) (count_with top count priority)

  -- two lists of streams have the same leaders
  abbrev pub Alike : ℕ → ℕ → List Stream → List Stream → Type 0
  Alike t x ss zs = (top count : ℕ) → leading u t top count ss ≡ leading u x top count zs

  one_alike : (t x : ℕ) (s z : Stream) (ss zs : List Stream) → glow u t s ≡ glow u x z → Alike t x ss zs → Alike t x (s ∷ ss) (z ∷ zs)
  one_alike t x s z ss zs same rest top count =
      one_by (λ a b. leading u t a b ss) top count (s.universe == u) (light_at t s.account.holding)
      ∙ light_same (λ a b. leading u t a b ss) (λ a b. leading u x a b zs) top count (glow u t s) rest
      ∙ ap (by_light (λ a b. leading u x a b zs) top count) same
      ∙ sym (one_by (λ a b. leading u x a b zs) top count (z.universe == u) (light_at x z.account.holding))

  pub rivals_alike : (t x : ℕ) (ss zs : List Stream) → Alike t x ss zs → rivals u t ss ≡ rivals u x zs
  rivals_alike t x ss zs alike = sym (all_counted u t ss) ∙ alike 0 0 ∙ all_counted u x zs

  pub alike_put : (t i : ℕ) (ss : List Stream) (s y : Stream) → slice_get ss i ≡ Some s → glow u t y ≡ glow u t s → Alike t t (set ss i y) ss
  alike_put t i [] s y there same = λ top count. refl
  alike_put t zero (x ∷ ss) s y there same = one_alike t t y x ss ss (same ∙ sym (ap (glow_in u t) there)) (λ top count. refl)
  alike_put t (suc i) (x ∷ ss) s y there same = one_alike t t x x (set ss i y) ss refl (alike_put t i ss s y there same)

  alike_changed : (t i : ℕ) (ss : List Stream) (o : Option Stream) → slice_get ss i ≡ o → Alike t t (changed with_told i ss o) ss
  alike_changed t i ss None is = λ top count. refl
  alike_changed t i ss (Some s) is = alike_put t i ss s (with_told s) is refl

  pub alike_told : (t : ℕ) (o : Option ℕ) (ss : List Stream) → Alike t t (told_at o ss) ss
  alike_told t None ss = λ top count. refl
  alike_told t (Some i) ss = alike_changed t i ss (slice_get ss i) refl

  pub alike_more : (t : ℕ) (ss : List Stream) (y : Stream) → glow u t y ≡ None → Alike t t (ss ++ y ∷ []) ss
  alike_more t [] y none = λ top count.
      one_by (λ a b. leading u t a b []) top count (y.universe == u) (light_at t y.account.holding) ∙ ap (by_light (λ a b. leading u t a b []) top count) none
  alike_more t (s ∷ ss) y none = one_alike t t s s (ss ++ y ∷ []) ss refl (alike_more t ss y none)

  -- ---- where no light on this universe goes out

  abbrev pub dims : ℕ → ℕ → List Stream → Bool
  dims a b [] = false
  dims a b (s ∷ ss) = ((s.universe == u) && comes_by b (light_end a s.account.holding)) || dims a b ss

  module _ (a t b : ℕ) (after : a ≤ t) (before : t ≤ b) (comes : b < 2 ^ 64 - 1) where
    levels_still : (renewed : ℕ) → comes_by b (light_end a (Levels renewed 0)) ≡ false → lasts t renewed ≡ lasts a renewed
    levels_still renewed none =
        let later = not_yet b (light_end a (Levels renewed 0)) none in
        elim (nat_lt (a - renewed) NETWORK_DATA_LOSS) as (λ x. nat_lt (a - renewed) NETWORK_DATA_LOSS ≡ x → min (b + 1) (2 ^ 64 - 1) ≤ cond x (min (renewed + NETWORK_DATA_LOSS) (2 ^ 64 - 1)) (2 ^ 64 - 1) → lasts t renewed ≡ x) [
          | true ↦ λ is on. lt-ltb (t - renewed) NETWORK_DATA_LOSS (omega (arith, on, before, comes))
          | false ↦ λ is on. let old = ltb-false (a - renewed) NETWORK_DATA_LOSS is in le-ltb (t - renewed) NETWORK_DATA_LOSS (omega (arith, old, after))
        ] refl later

    light_still : (h : Holding) → comes_by b (light_end a h) ≡ false → light_at t h ≡ light_at a h
    light_still Nothing none = refl
    light_still (Ended renewed) none = refl
    light_still (Levels renewed priority) none = ap (λ (x : Bool). cond x (Some priority) None) (levels_still renewed none)

    glow_still : (here : Bool) (h : Holding) → here && comes_by b (light_end a h) ≡ false → cond here (light_at t h) None ≡ cond here (light_at a h) None
    glow_still true h none = light_still h none
    glow_still false h none = refl

    pub alike_still : (ss : List Stream) → dims a b ss ≡ false → Alike t a ss ss
    alike_still [] none = λ top count. refl
    alike_still (s ∷ ss) none =
        let here : Bool = (s.universe == u) && comes_by b (light_end a s.account.holding) in
        one_alike t a s s ss ss (glow_still (s.universe == u) s.account.holding (first_not here (dims a b ss) none)) (alike_still ss (second_not here (dims a b ss) none))

  pub none_dims : (a b : ℕ) (ss : List Stream) → comes_by b (next_light_end a ss) ≡ false → dims a b ss ≡ false
  none_dims a b [] none = refl
  none_dims a b (s ∷ ss) none =
      let later = not_yet b (next_light_end a (s ∷ ss)) none in
      let first : comes_by b (light_end a s.account.holding) ≡ false = le-ltb (light_end a s.account.holding) (min (b + 1) (2 ^ 64 - 1)) (omega (arith, later)) in
      let rest : dims a b ss ≡ false = none_dims a b ss (le-ltb (next_light_end a ss) (min (b + 1) (2 ^ 64 - 1)) (omega (arith, later))) in
      ap (λ (x : Bool). ((s.universe == u) && x) || dims a b ss) first ∙ ap (λ (x : Bool). ((s.universe == u) && false) || x) rest ∙ dark (s.universe == u)
    where
      dark : (x : Bool) → (x && false) || false ≡ false
      dark true = refl
      dark false = refl

  abbrev dim_in : ℕ → ℕ → Option Stream → Bool
  dim_in a b None = false
  dim_in a b (Some z) = (z.universe == u) && comes_by b (light_end a z.account.holding)

  dims_put : (a b i : ℕ) (ss : List Stream) (s : Stream) → slice_get ss i ≡ Some s → dims a b (set ss i (with_told s)) ≡ dims a b ss
  dims_put a b i [] s there = refl
  dims_put a b zero (x ∷ ss) s there = ap (λ (y : Bool). y || dims a b ss) (sym (ap (dim_in a b) there))
  dims_put a b (suc i) (x ∷ ss) s there = ap (λ (y : Bool). ((x.universe == u) && comes_by b (light_end a x.account.holding)) || y) (dims_put a b i ss s there)

  dims_changed : (a b i : ℕ) (ss : List Stream) (o : Option Stream) → slice_get ss i ≡ o → dims a b (changed with_told i ss o) ≡ dims a b ss
  dims_changed a b i ss None is = refl
  dims_changed a b i ss (Some s) is = dims_put a b i ss s is

  dims_told : (a b : ℕ) (o : Option ℕ) (ss : List Stream) → dims a b (told_at o ss) ≡ dims a b ss
  dims_told a b None ss = refl
  dims_told a b (Some i) ss = dims_changed a b i ss (slice_get ss i) refl

  pub silenced_dims : (k t a b : ℕ) (n : Ledger) → dims a b (silenced k t n).monitor.streams ≡ dims a b n.monitor.streams
  unfolding silenced
  silenced_dims zero t a b n = refl
  silenced_dims (suc k) t a b n =
      let m : Ledger = after_end t n in
      let place : Option ℕ = silent_place (max n.monitor.moment (next_end t n)) n.monitor.streams in
      let one : dims a b m.monitor.streams ≡ dims a b n.monitor.streams = ap (λ (x : Book). dims a b x.streams) (end_keeps t n) ∙ dims_told a b place n.monitor.streams in
      elim (is_some (lost_place t n)) as (λ more. dims a b (cond more (silenced k t m) m).monitor.streams ≡ dims a b n.monitor.streams) [
        | true ↦ silenced_dims k t a b m ∙ one
        | false ↦ one
      ]

-- ---- a packet that doesn't stir its universe leaves the light of its source as it is

third_not : (a b c : Bool) → a || b || c ≡ false → c ≡ false
third_not true b c is = absurd cc
third_not false true c is = absurd cc
third_not false false c is = is

not_not : (b : Bool) → not b ≡ false → b ≡ true
not_not true is = refl
not_not false is = absurd cc

same_option : (a b : Option ℕ) → same_light a b ≡ true → a ≡ b
same_option None None is = refl
same_option (Some a) (Some b) is = ap Some (is_same a b is)
same_option None (Some b) is = absurd cc
same_option (Some a) None is = absurd cc

relit_not : (latest t : ℕ) (before after : Holding) → is_relit latest t before after ≡ false → light_at t after ≡ light_at t before
relit_not latest t before after is =
    sym (same_option (light_at t before) (light_at t after) (not_not (same_light (light_at t before) (light_at t after)) (second_not (not (same_light (light_at latest before) (light_at t before))) (not (same_light (light_at t before) (light_at t after))) is)))

pub unstirred_light : (t : ℕ) (sender : Endpoint) (d : Data) (s : Stream) → stirs (stream_after t sender d s) (news_of t sender d s.account) ≡ false
    → light_at t (stream_after t sender d s).account.holding ≡ light_at t s.account.holding
unfolding after_taken taken_news
unstirred_light t sender d s =
    elim (is_discarded t d s.account) as (λ b. let a : Account = cond b (after_discarded d.number s.account) (after_taken t sender d s.account) in
    let news : News = cond b (quiet (discarded_event d.number s.account)) (taken_news t sender d s.account) in
    stirs (record s { account = a; told = false }) news ≡ false → light_at t a.holding ≡ light_at t s.account.holding) [
      | true ↦ λ is. ap (light_at t) (discarded_keeps d.number s.account)
      | false ↦ λ is.
          relit_not s.account.latest t s.account.holding (held_after t (kind_of d) d.priority s.account.holding)
          (third_not (not (goes_on (taken_news t sender d s.account).event)) d.terminated (is_relit s.account.latest t s.account.holding (held_after t (kind_of d) d.priority s.account.holding)) is)
    ]

pub first_stirs : (terminated : Bool) (y : Stream) → y.account.ended ≡ terminated → stirred_universe (Some y) (quiet (first_event terminated)) ≡ Some y.universe
first_stirs true y ends = ap (λ (e : Bool). cond (false || e || false) (Some y.universe) None) ends
first_stirs false y ends = refl

pub first_ends : (t : ℕ) (sender : Endpoint) (d : Data) → (first_stream t sender d).account.ended ≡ d.terminated
unfolding first_account
first_ends t sender d = refl

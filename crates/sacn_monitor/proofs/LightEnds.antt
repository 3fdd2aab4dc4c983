-- The moments at which lights go out: none comes earlier by a later clock, and what a packet leaves lasts until its own loss.
use Rattle.std.proofs.Common.{◌≡◌, ◌<◌, ◌≤◌, ◌+◌, ◌-◌, ◌^◌, ◌==◌, ℕ, zero, suc, Bool, true, false, cond, List, [], ◌∷◌, ◌++◌, set, min, nat_lt, refl, ap, sym, ◌∙◌, arith, ltb-true}
use Rattle.std.proofs.lemmas.Bool.{ltb-false, lt-ltb, le-ltb}
use Rattle.sacn_packets.specs.Data.{Data}
use Rattle.sacn_sources.specs.declared.limits.TheConstants.{NETWORK_DATA_LOSS}
use Rattle.sacn_sources.specs.declared.kind.Kind.{Kind}
use Rattle.sacn_sources.specs.declared.kind.Kind.TheVariants.{Termination, Preview, Live, Other}
use Rattle.sacn_sources.specs.Packets.{kind_of}
use Rattle.sacn_monitor.specs.declared.account.Account.{Account}
use Rattle.sacn_monitor.specs.declared.account.Endpoint.{Endpoint}
use Rattle.sacn_monitor.specs.declared.holding.Holding.{Holding}
use Rattle.sacn_monitor.specs.declared.holding.Holding.TheVariants.{Nothing, Ended, Levels}
use Rattle.sacn_monitor.specs.declared.stream.Stream.{Stream}
use Rattle.sacn_monitor.specs.Accounts.{after_discarded, after_found, after_late, after_taken, first_account, is_discarded, is_found}
use Rattle.sacn_monitor.specs.Holdings.{held_after, is_held, lasts, light_end}
use Rattle.sacn_monitor.specs.Kinds.{more}
use Rattle.sacn_monitor.specs.Numberings.{ahead_of, digit}
use Rattle.sacn_monitor.specs.Streams.{first_stream, stream_after}
use Rattle.sacn_monitor.specs.Books.{next_light_end}

-- ---- moments that 64 bits hold

by_most : (lit : Bool) (renewed : ℕ) → cond lit (min (renewed + NETWORK_DATA_LOSS) (2 ^ 64 - 1)) (2 ^ 64 - 1) ≤ 2 ^ 64 - 1
by_most true renewed = omega arith
by_most false renewed = omega arith

pub one_most : (t : ℕ) (h : Holding) → light_end t h ≤ 2 ^ 64 - 1
one_most t Nothing = omega arith
one_most t (Ended renewed) = omega arith
one_most t (Levels renewed priority) = by_most (lasts t renewed) renewed

pub light_end_most : (t : ℕ) (ss : List Stream) → next_light_end t ss ≤ 2 ^ 64 - 1
light_end_most t [] = omega arith
light_end_most t (s ∷ ss) = omega (arith, light_end_most t ss)

-- ---- a later clock

-- levels that last at b last at a
levels_later : (a b renewed : ℕ) → a ≤ b → light_end a (Levels renewed 0) ≤ light_end b (Levels renewed 0)
levels_later a b renewed by =
    elim (nat_lt (b - renewed) NETWORK_DATA_LOSS) as (λ x. nat_lt (b - renewed) NETWORK_DATA_LOSS ≡ x → light_end a (Levels renewed 0) ≤ cond x (min (renewed + NETWORK_DATA_LOSS) (2 ^ 64 - 1)) (2 ^ 64 - 1)) [
      | true ↦ λ is.
          let young = ltb-true (b - renewed) NETWORK_DATA_LOSS is in
          let same : light_end a (Levels renewed 0) ≡ min (renewed + NETWORK_DATA_LOSS) (2 ^ 64 - 1) =
          ap (λ (x : Bool). cond x (min (renewed + NETWORK_DATA_LOSS) (2 ^ 64 - 1)) (2 ^ 64 - 1)) (lt-ltb (a - renewed) NETWORK_DATA_LOSS (omega (arith, young, by))) in
          omega (arith, same)
      | false ↦ λ is. one_most a (Levels renewed 0)
    ] refl

pub one_later : (a b : ℕ) (h : Holding) → a ≤ b → light_end a h ≤ light_end b h
one_later a b Nothing by = omega arith
one_later a b (Ended renewed) by = omega arith
one_later a b (Levels renewed priority) by = levels_later a b renewed by

pub next_later : (a b : ℕ) (ss : List Stream) → a ≤ b → next_light_end a ss ≤ next_light_end b ss
next_later a b [] by = omega arith
next_later a b (s ∷ ss) by =
    let first = one_later a b s.account.holding by in
    let rest = next_later a b ss by in
    omega (arith, first, rest)

-- ---- a moment that no light goes out before, through what changes the streams

pub dark_changed : (dark t at : ℕ) (y : Stream) (ss : List Stream) → dark ≤ next_light_end t ss → dark ≤ light_end t y.account.holding → dark ≤ next_light_end t (set ss at y)
dark_changed dark t at y [] e own = e
dark_changed dark t zero y (s ∷ ss) e own = omega (arith, e, own)
dark_changed dark t (suc at) y (s ∷ ss) e own =
    let rest = dark_changed dark t at y ss (omega (arith, e)) own in
    omega (arith, e, rest)

pub dark_more : (dark t : ℕ) (y : Stream) (ss : List Stream) → dark ≤ next_light_end t ss → dark ≤ light_end t y.account.holding → dark ≤ next_light_end t (ss ++ y ∷ [])
dark_more dark t y [] e own = omega (arith, e, own)
dark_more dark t y (s ∷ ss) e own =
    let rest = dark_more dark t y ss (omega (arith, e)) own in
    omega (arith, e, rest)

-- ---- what a packet leaves

module _ (dark t priority : ℕ) (own : dark ≤ t + NETWORK_DATA_LOSS) (most : dark ≤ 2 ^ 64 - 1) where
  renewed_by : dark ≤ light_end t (Levels t priority)
  renewed_by =
      let same : light_end t (Levels t priority) ≡ min (t + NETWORK_DATA_LOSS) (2 ^ 64 - 1) =
      ap (λ (x : Bool). cond x (min (t + NETWORK_DATA_LOSS) (2 ^ 64 - 1)) (2 ^ 64 - 1)) (lt-ltb (t - t) NETWORK_DATA_LOSS (omega arith)) in
      omega (arith, same, own, most)

  ended_by : (held : Bool) → dark ≤ light_end t (cond held (Ended t) Nothing)
  ended_by true = most
  ended_by false = most

  held_by : (k : Kind) (h : Holding) → dark ≤ light_end t h → dark ≤ light_end t (held_after t k priority h)
  held_by Live h before = renewed_by
  held_by Termination h before = ended_by (is_held t h)
  held_by Preview h before = before
  held_by Other h before = before

found_keeps : (found : Bool) (skipped missing : ℕ) (a : Account) → (cond found (record a { skipped = skipped; missing = missing }) a).holding ≡ a.holding
found_keeps true skipped missing a = refl
found_keeps false skipped missing a = refl

late_keeps : (arrived : ℕ) (a : Account) → (after_late arrived a).holding ≡ a.holding
late_keeps arrived a =
    let late : Account = record a { late = more 1 a.late } in
    found_keeps (is_found arrived late) (late.skipped - 1) (late.missing - digit (ahead_of arrived late.sequence_number)) late

discarded_by : (repeated : Bool) (arrived : ℕ) (a : Account) → (cond repeated (record a { repeats = more 1 a.repeats }) (after_late arrived a)).holding ≡ a.holding
discarded_by true arrived a = refl
discarded_by false arrived a = late_keeps arrived a

pub discarded_keeps : (arrived : ℕ) (a : Account) → (after_discarded arrived a).holding ≡ a.holding
discarded_keeps arrived a = discarded_by (arrived == a.sequence_number) arrived a

pub heard_dark : (dark t : ℕ) (sender : Endpoint) (d : Data) (s : Stream) → dark ≤ light_end t s.account.holding → dark ≤ (stream_after t sender d s).account.latest + NETWORK_DATA_LOSS
    → dark ≤ light_end t (stream_after t sender d s).account.holding
unfolding after_taken
heard_dark dark t sender d s before =
    let most : dark ≤ 2 ^ 64 - 1 = let own = one_most t s.account.holding in omega (arith, own, before) in
    elim (is_discarded t d s.account) as (λ b. let a : Account = cond b (after_discarded d.number s.account) (after_taken t sender d s.account) in dark ≤ a.latest + NETWORK_DATA_LOSS → dark ≤ light_end t a.holding) [
      | true ↦ λ own. let same = ap (light_end t) (discarded_keeps d.number s.account) in omega (arith, same, before)
      | false ↦ λ own. held_by dark t d.priority own most (kind_of d) s.account.holding before
    ]

pub first_dark : (dark t : ℕ) (sender : Endpoint) (d : Data) → dark ≤ 2 ^ 64 - 1 → dark ≤ t + NETWORK_DATA_LOSS → dark ≤ light_end t (first_stream t sender d).account.holding
unfolding first_account
first_dark dark t sender d most own = held_by dark t d.priority own most (kind_of d) Nothing most

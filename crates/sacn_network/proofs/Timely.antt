-- Each loss is told at its own moment.
use Rattle.std.proofs.Common.{◌≡◌, ◌<◌, ◌≤◌, ◌+◌, ◌-◌, ◌^◌, ℕ, zero, suc, min, max, nat_lt, ltb, Bool, true, false, not, ◌&&◌, ◌==◌, cond, is_some, List, [], ◌∷◌, ◌++◌, set, slice_get, Option, None, Some, Result, Ok, Err, refl, sym, ap, subst, ◌∙◌, arith, length, ltb-true}
use Rattle.std.specs.Option.{option_map}
use Rattle.std.proofs.lemmas.Bool.{ltb-false}
use Rattle.sacn_packets.specs.declared.root.fault.PacketFault.{PacketFault}
use Rattle.sacn_packets.specs.Data.{Data}
use Rattle.sacn_packets.specs.declared.framing.packet.Packet.{Packet}
use Rattle.sacn_packets.specs.declared.framing.packet.Packet.TheVariants.{DataPacket, PagePacket, SyncPacket}
use Rattle.sacn_packets.specs.PacketReading.{reading_packet}
use Rattle.sacn_sources.specs.declared.limits.TheConstants.{NETWORK_DATA_LOSS}
use Rattle.sacn_monitor.specs.declared.account.Account.{Account}
use Rattle.sacn_monitor.specs.declared.account.Endpoint.{Endpoint}
use Rattle.sacn_monitor.specs.declared.limits.TheConstants.{MAX_STREAMS}
use Rattle.sacn_monitor.specs.declared.stream.Stream.{Stream}
use Rattle.sacn_monitor.specs.Accounts.{after_discarded, after_late, after_taken, first_account, is_discarded, is_found}
use Rattle.sacn_monitor.specs.Numberings.{ahead_of, digit}
use Rattle.sacn_monitor.specs.Kinds.{more}
use Rattle.sacn_monitor.specs.Streams.{falls_silent, first_stream, loss_of, stream_after}
use Rattle.sacn_monitor.specs.Books.{Book, after_data, after_read, after_tick, changed, next_loss, place_of, silent_place, told_at, untracked, with_datagram, with_told}
use Rattle.sacn_monitor.specs.Histories.{Call, Take, Tick, moment_in_use}
use Rattle.sacn_monitor.proofs.Losses.{quiet_changed, quiet_more, quiet_told}
use Rattle.sacn_network.specs.declared.ledger.Ledger.{Ledger}
use Rattle.sacn_network.specs.declared.ledger.TheConstants.{MOST_STEPS}
use Rattle.sacn_network.specs.Telling.{Told}
use Rattle.sacn_network.specs.declared.occurrence.What.TheVariants.{Contest, Heard, Lost, Refused, Untracked}
use Rattle.sacn_network.specs.Sets.{has_bit, is_otherwise}
use Rattle.sacn_network.specs.Calls.{AreMoments, AreTimely, IsTimely, LossesAreTimely, loss_at, network_after}
use Rattle.sacn_network.specs.declared.light_ends.TheConstants.{MOST_LIGHTS}
use Rattle.sacn_network.specs.Contests.{contest_in, contest_of, contest_told, is_contested, universe_of, with_contest_in}
use Rattle.sacn_network.specs.LightEnds.{after_light, comes_by, ends_told, light_end_of, light_told, out_universe, outs_told}
use Rattle.sacn_network.specs.Losses.{after_end, at_end, end_told, lost_place, loss_told, next_end, silence_told, silenced}
use Rattle.sacn_network.specs.Networks.{handed, note_of, ticked}
use Rattle.sacn_network.proofs.Lights.{next_after}
use Rattle.sacn_network.proofs.Ticks.{came, end_keeps, light_keeps}
use Rattle.sacn_network.proofs.Tracking.{held_in_use, light_is_silent, mid_silent, read_moment, stands_after}
use Rattle.sacn_network.proofs.Waking.{noted_keeps}
use Rattle.sacn_network.proofs.Whole.{none_before, silent_at, stands_there}

-- ---- a telling changes no loss

loss_set : (p i : ℕ) (ss : List Stream) (s : Stream) → slice_get ss i ≡ Some s → loss_at p (set ss i (with_told s)) ≡ loss_at p ss
loss_set p i [] s there = refl
loss_set zero zero (x ∷ ss) s there = ap (λ (o : Option Stream). option_map (λ (y : Stream). y.account.latest + NETWORK_DATA_LOSS) o) (sym there)
loss_set (suc p) zero (x ∷ ss) s there = refl
loss_set zero (suc i) (x ∷ ss) s there = refl
loss_set (suc p) (suc i) (x ∷ ss) s there = loss_set p i ss s there

loss_changed : (p i : ℕ) (ss : List Stream) (o : Option Stream) → slice_get ss i ≡ o → loss_at p (changed with_told i ss o) ≡ loss_at p ss
loss_changed p i ss None is = refl
loss_changed p i ss (Some s) is = loss_set p i ss s is

loss_kept : (p : ℕ) (o : Option ℕ) (ss : List Stream) → loss_at p (told_at o ss) ≡ loss_at p ss
loss_kept p None ss = refl
loss_kept p (Some i) ss = loss_changed p i ss (slice_get ss i) refl

one_as : (ss zs : List Stream) → ((p : ℕ) → loss_at p zs ≡ loss_at p ss) → (o : Told) → IsTimely zs o.occurrence.at o.occurrence.what → IsTimely ss o.occurrence.at o.occurrence.what
one_as ss zs same o is = by o.occurrence.what o.occurrence.at is
  where
    by : (w : _) (at : ℕ) → IsTimely zs at w → IsTimely ss at w
    by (Lost p) at is = sym (same p) ∙ is
    by (Heard p news) at is = tt
    by (Refused sender fault) at is = tt
    by (Untracked sender) at is = tt
    by (Contest c) at is = tt

timely_as : (ss zs : List Stream) → ((p : ℕ) → loss_at p zs ≡ loss_at p ss) → (os : List Told) → AreTimely zs os → AreTimely ss os
timely_as ss zs same [] are = tt
timely_as ss zs same (o ∷ os) are = (one_as ss zs same o are.0, timely_as ss zs same os are.1)

timely_both : (ss : List Stream) (xs ys : List Told) → AreTimely ss xs → AreTimely ss ys → AreTimely ss (xs ++ ys)
timely_both ss [] ys first next = next
timely_both ss (x ∷ xs) ys first next = (first.0, timely_both ss xs ys first.1 next)

-- ---- one loss

abbrev loss_in : Option Stream → ℕ
loss_in None = 0
loss_in (Some y) = loss_of y

next_first : (ss : List Stream) (i : ℕ) (s : Stream) → slice_get ss i ≡ Some s → next_loss ss ≤ loss_of s
next_first [] i s there = absurd cc
next_first (x ∷ ss) zero s there =
    let same : loss_of x ≡ loss_of s = ap loss_in there in
    omega (arith, same)
next_first (x ∷ ss) (suc i) s there = let rest = next_first ss i s there in omega (arith, rest)

silent_by : (t latest : ℕ) (over : Bool) → not over && not (nat_lt (t - latest) NETWORK_DATA_LOSS) ≡ true → (latest + NETWORK_DATA_LOSS ≤ t) × (cond over (2 ^ 64 - 1) (min (latest + NETWORK_DATA_LOSS) (2 ^ 64 - 1)) ≤ latest + NETWORK_DATA_LOSS)
silent_by t latest true is = absurd cc
silent_by t latest false is =
    elim (nat_lt (t - latest) NETWORK_DATA_LOSS) as (λ b. nat_lt (t - latest) NETWORK_DATA_LOSS ≡ b → not b ≡ true → (latest + NETWORK_DATA_LOSS ≤ t) × (min (latest + NETWORK_DATA_LOSS) (2 ^ 64 - 1) ≤ latest + NETWORK_DATA_LOSS)) [
      | true ↦ λ young old. absurd cc
      | false ↦ λ young old. let past = ltb-false (t - latest) NETWORK_DATA_LOSS young in (omega (arith, past), omega arith)
    ] refl is

silent_loss : (t : ℕ) (s : Stream) → falls_silent t s ≡ true → (s.account.latest + NETWORK_DATA_LOSS ≤ t) × (loss_of s ≤ s.account.latest + NETWORK_DATA_LOSS)
silent_loss t s is = silent_by t s.account.latest _ is

-- a loss that is told at t, before which none comes, is that of t
loss_is_by : (t i : ℕ) (ss : List Stream) → t ≤ next_loss ss → silent_place t ss ≡ Some i → (o : Option Stream) → slice_get ss i ≡ o → loss_at i ss ≡ Some t
loss_is_by t i ss before place None there = absurd (stands_there t ss i place there)
loss_is_by t i ss before place (Some s) there =
    let silent : falls_silent t s ≡ true = silent_at t ss i s place there in
    let parts = silent_loss t s silent in
    let first = next_first ss i s there in
    let at : s.account.latest + NETWORK_DATA_LOSS ≡ t = omega (arith, parts.0, parts.1, first, before) in
    ap (option_map (λ (y : Stream). y.account.latest + NETWORK_DATA_LOSS)) there ∙ ap Some at

loss_is : (t i : ℕ) (ss : List Stream) → t ≤ next_loss ss → silent_place t ss ≡ Some i → loss_at i ss ≡ Some t
loss_is t i ss before place = loss_is_by t i ss before place (slice_get ss i) refl

told_soon_by : (quiet i : ℕ) (ss : List Stream) (o : Option Stream) → quiet ≤ next_loss ss → quiet ≤ next_loss (changed with_told i ss o)
told_soon_by quiet i ss None before = before
told_soon_by quiet i ss (Some s) before = quiet_told quiet i s ss before

contest_timely_by : (changes : Bool) (ss : List Stream) (universe : ℕ) (n : Ledger) → AreTimely ss (cond changes (contest_of universe n.monitor ∷ []) [])
contest_timely_by true ss universe n = (tt, tt)
contest_timely_by false ss universe n = tt

contest_timely : (ss : List Stream) (o : Option ℕ) (n : Ledger) → AreTimely ss (contest_in o n)
unfolding contest_told
contest_timely ss None n = tt
contest_timely ss (Some universe) n = contest_timely_by (is_otherwise (is_contested universe n.monitor) (has_bit n.contested universe)) ss universe n

-- ---- all losses of a tick

silence_timely : (steps t : ℕ) (n : Ledger) → n.monitor.moment ≤ next_loss n.monitor.streams → n.monitor.moment ≤ t → AreTimely n.monitor.streams (silence_told steps t n)
unfolding silence_told end_told lost_place
silence_timely zero t n soon by = tt
silence_timely (suc steps) t n soon by =
    let m : Ledger = after_end t n in
    let ss : List Stream = n.monitor.streams in
    elim (lost_place t n) as (λ o. lost_place t n ≡ o → AreTimely ss (loss_told o (at_end t n) ++ cond (is_some o) (silence_told steps t m) [])) [
      | None ↦ λ is. tt
      | Some i ↦ λ is.
          let low : max n.monitor.moment (next_end t n) ≤ next_loss ss = omega (arith, soon, by) in
          let book : m.monitor ≡ after_tick (next_end t n) n.monitor = end_keeps t n in
          let moment : m.monitor.moment ≡ max n.monitor.moment (next_end t n) = ap (λ (b : Book). b.moment) book in
          let streams : m.monitor.streams ≡ told_at (Some i) ss = ap (λ (b : Book). b.streams) book ∙ ap (λ (o : Option ℕ). told_at o ss) is in
          let later : max n.monitor.moment (next_end t n) ≤ next_loss (told_at (Some i) ss) = told_soon_by (max n.monitor.moment (next_end t n)) i ss (slice_get ss i) low in
          let rest : AreTimely m.monitor.streams (silence_told steps t m) = silence_timely steps t m (omega (arith, moment, later, ap next_loss streams)) (omega (arith, moment, by)) in (
            loss_is (max n.monitor.moment (next_end t n)) i ss low is,
            timely_both ss (contest_in (universe_of (slice_get (at_end t n).monitor.streams i)) (at_end t n)) (silence_told steps t m)
                (contest_timely ss (universe_of (slice_get (at_end t n).monitor.streams i)) (at_end t n))
                (timely_as ss m.monitor.streams (λ p. ap (loss_at p) streams ∙ loss_kept p (Some i) ss) (silence_told steps t m) rest),
          )
    ] refl

-- ---- lights

outs_timely : (zs : List Stream) (before : ℕ) (ss : List Stream) (n : Ledger) → AreTimely zs (outs_told before ss n)
unfolding outs_told
outs_timely zs before [] n = tt
outs_timely zs before (s ∷ ss) n =
    let o : Option ℕ = out_universe before n.monitor.moment (Some s) in
    timely_both zs (contest_in o n) (outs_told before ss (with_contest_in o n)) (contest_timely zs o n) (outs_timely zs before ss (with_contest_in o n))

light_timely : (t : ℕ) (n : Ledger) → n.monitor.moment ≤ next_loss n.monitor.streams → n.monitor.moment ≤ t → AreTimely n.monitor.streams (light_told t n)
unfolding light_told
light_timely t n soon by =
    let m : Ledger = silenced MOST_STEPS t n in
    timely_both n.monitor.streams (silence_told MOST_STEPS t n) (outs_told n.monitor.moment m.monitor.streams m)
    (silence_timely MOST_STEPS t n soon by) (outs_timely n.monitor.streams n.monitor.moment m.monitor.streams m)

silenced_loss : (p steps t : ℕ) (n : Ledger) → loss_at p (silenced steps t n).monitor.streams ≡ loss_at p n.monitor.streams
unfolding silenced
silenced_loss p zero t n = refl
silenced_loss p (suc steps) t n =
    let m : Ledger = after_end t n in
    let place : Option ℕ = silent_place (max n.monitor.moment (next_end t n)) n.monitor.streams in
    let one : loss_at p m.monitor.streams ≡ loss_at p n.monitor.streams = ap (λ (b : Book). loss_at p b.streams) (end_keeps t n) ∙ loss_kept p place n.monitor.streams in
    elim (is_some (lost_place t n)) as (λ more. loss_at p (cond more (silenced steps t m) m).monitor.streams ≡ loss_at p n.monitor.streams) [
      | true ↦ silenced_loss p steps t m ∙ one
      | false ↦ one
    ]

silent_next : (t : ℕ) (b : Book) → t ≤ 2 ^ 64 - 1 → b.moment ≡ t → silent_place t b.streams ≡ None → b.moment ≤ next_loss b.streams
silent_next t b held at none = let before = none_before t b.streams none in omega (arith, before, held, at)

ends_timely : (steps t : ℕ) (n : Ledger) → n.monitor.moment ≤ next_loss n.monitor.streams → n.monitor.moment ≤ t → length n.monitor.streams ≤ MAX_STREAMS → AreTimely n.monitor.streams (ends_told steps t n)
unfolding ends_told
ends_timely zero t n soon by room = silence_timely MOST_STEPS t n soon by
ends_timely (suc steps) t n soon by room =
    let at : ℕ = light_end_of n.monitor in
    let m : Ledger = after_light at n in
    elim (comes_by t at) as (λ b. comes_by t at ≡ b → AreTimely n.monitor.streams (cond b (light_told at n ++ ends_told steps t m) (silence_told MOST_STEPS t n))) [
      | true ↦ λ is.
          let early = came t at is in
          let after = next_after n.monitor.moment n.monitor.streams in
          let silent = light_is_silent t n is room in
          let moment = silent.moment in
          timely_both n.monitor.streams (light_told at n) (ends_told steps t m)
          (light_timely at n soon (omega (arith, after, early.1)))
          (timely_as n.monitor.streams m.monitor.streams (λ p. ap (λ (b : Book). loss_at p b.streams) (light_keeps at n) ∙ silenced_loss p MOST_STEPS at n) (ends_told steps t m)
          (ends_timely steps t m (silent_next at m.monitor (omega (arith, early.1)) moment silent.none) (omega (arith, moment, early.0)) silent.most))
      | false ↦ λ is. silence_timely MOST_STEPS t n soon by
    ] refl

-- ---- what is heard now is lost later

abbrev with_account : Stream → Account → Stream
with_account s a = record s { account = a; told = false }

abbrev lost_by : Bool → ℕ → ℕ
lost_by ended latest = cond ended (2 ^ 64 - 1) (min (latest + NETWORK_DATA_LOSS) (2 ^ 64 - 1))

lost_later : (t latest : ℕ) (ended : Bool) → t ≤ 2 ^ 64 - 1 → t - latest < NETWORK_DATA_LOSS → t ≤ lost_by ended latest
lost_later t latest true held young = held
lost_later t latest false held young = omega (arith, held, young)

first_of : (a b : Bool) → a && b ≡ true → a ≡ true
first_of true b e = refl
first_of false b e = absurd cc

found_soon : (t : ℕ) (found : Bool) (skipped missing : ℕ) (s : Stream) (a : Account) → t ≤ lost_by a.ended a.latest → t ≤ loss_of (with_account s (cond found (record a { skipped = skipped; missing = missing }) a))
found_soon t true skipped missing s a still = still
found_soon t false skipped missing s a still = still

discarded_soon : (t : ℕ) (d : Data) (s : Stream) → t ≤ 2 ^ 64 - 1 → is_discarded t d s.account ≡ true → t ≤ loss_of (with_account s (after_discarded d.number s.account))
discarded_soon t d s held is =
    let young = ltb-true (t - s.account.latest) NETWORK_DATA_LOSS (first_of _ _ is) in
    let still : t ≤ lost_by s.account.ended s.account.latest = lost_later t s.account.latest s.account.ended held young in
    let late : Account = record s.account { late = more 1 s.account.late } in
    elim (d.number == s.account.sequence_number) as (λ b. t ≤ loss_of (with_account s (cond b (record s.account { repeats = more 1 s.account.repeats }) (after_late d.number s.account)))) [
      | true ↦ still
      | false ↦ found_soon t (is_found d.number late) (late.skipped - 1) (late.missing - digit (ahead_of d.number late.sequence_number)) s late still
    ]

taken_soon : (t : ℕ) (sender : Endpoint) (d : Data) (s : Stream) → t ≤ 2 ^ 64 - 1 → t ≤ loss_of (with_account s (after_taken t sender d s.account))
unfolding after_taken
taken_soon t sender d s held = lost_later t t d.terminated held (omega arith)

heard_soon : (t : ℕ) (sender : Endpoint) (d : Data) (s : Stream) → t ≤ 2 ^ 64 - 1 → t ≤ loss_of (stream_after t sender d s)
heard_soon t sender d s held =
    elim (is_discarded t d s.account) as (λ b. is_discarded t d s.account ≡ b → t ≤ loss_of (with_account s (cond b (after_discarded d.number s.account) (after_taken t sender d s.account)))) [
      | true ↦ λ is. discarded_soon t d s held is
      | false ↦ λ is. taken_soon t sender d s held
    ] refl

first_soon : (t : ℕ) (sender : Endpoint) (d : Data) → t ≤ 2 ^ 64 - 1 → t ≤ loss_of (first_stream t sender d)
unfolding first_account
first_soon t sender d held = lost_later t t d.terminated held (omega arith)

module _ (sender : Endpoint) (d : Data) (b : Book) (held : b.moment ≤ 2 ^ 64 - 1) (soon : b.moment ≤ next_loss b.streams) where
  changed_soon : (i : ℕ) (o : Option Stream) → b.moment ≤ next_loss (changed (stream_after b.moment sender d) i b.streams o)
  changed_soon i None = soon
  changed_soon i (Some s) =
      let y : Stream = stream_after b.moment sender d s in
      let young : b.moment ≤ loss_of y = heard_soon b.moment sender d s held in
      let rest : min b.moment (loss_of y) ≤ next_loss (set b.streams i y) = quiet_changed b.moment i y b.streams soon in
      omega (arith, young, rest)

  data_soon : (o : Option ℕ) → b.moment ≤ next_loss (after_data sender d b o).streams
  unfolding after_data
  data_soon None =
      elim (ltb (length b.streams) MAX_STREAMS) as (λ room. b.moment ≤ next_loss (cond room (record b { streams = b.streams ++ first_stream b.moment sender d ∷ [] }) (untracked b)).streams) [
        | true ↦
            let y : Stream = first_stream b.moment sender d in
            let young : b.moment ≤ loss_of y = first_soon b.moment sender d held in
            let rest : min b.moment (loss_of y) ≤ next_loss (b.streams ++ y ∷ []) = quiet_more b.moment y b.streams soon in
            omega (arith, young, rest)
        | false ↦ soon
      ]
  data_soon (Some i) = changed_soon i (slice_get b.streams i)

read_soon : (sender : Endpoint) (b : Book) (r : Result Packet PacketFault) → b.moment ≤ 2 ^ 64 - 1 → b.moment ≤ next_loss b.streams → b.moment ≤ next_loss (after_read sender b r).streams
read_soon sender b (Ok (DataPacket d)) held soon = data_soon sender d b held soon (place_of d.universe d.cid b.streams)
read_soon sender b (Ok (PagePacket p)) held soon = soon
read_soon sender b (Ok SyncPacket) held soon = soon
read_soon sender b (Err fault) held soon = soon

-- ---- calls

abbrev IsSoon : Book → Type 0
IsSoon b = b.moment ≤ next_loss b.streams

silent_soon : (t : ℕ) (b : Book) → t ≤ 2 ^ 64 - 1 → b.moment ≡ t → silent_place t b.streams ≡ None → IsSoon b
silent_soon t b held at none = silent_next t b held at none

taken_soon_after : (now : ℕ) (sender : Endpoint) (r : Result Packet PacketFault) (b : Book) → now ≤ b.moment → b.moment ≤ 2 ^ 64 - 1 → IsSoon b → IsSoon (after_read sender (with_datagram now b) r)
taken_soon_after now sender r b by held soon =
    let moment : (after_read sender (with_datagram now b) r).moment ≡ max b.moment now = read_moment sender (with_datagram now b) r in
    let rest : max b.moment now ≤ next_loss (after_read sender (with_datagram now b) r).streams = read_soon sender (with_datagram now b) r (omega (arith, by, held)) (omega (arith, by, soon)) in
    omega (arith, moment, rest)

soon_after : (calls : List Call) → AreMoments calls → IsSoon (network_after calls).monitor
soon_after [] held = omega arith
soon_after (Tick now ∷ earlier) held =
    let n : Ledger = network_after earlier in
    let most = held_in_use earlier held.1 in
    let silent = mid_silent earlier now n held.0 most (stands_after earlier held.1) in
    silent_soon (max (moment_in_use earlier) now) (ticked now n).monitor (omega (arith, most, held.0)) silent.moment silent.none
soon_after (Take now sender octets ∷ earlier) held =
    let n : Ledger = network_after earlier in
    let m : Ledger = ticked now n in
    let reading : Result Packet PacketFault = reading_packet octets in
    let most = held_in_use earlier held.1 in
    let silent = mid_silent earlier now n held.0 most (stands_after earlier held.1) in
    let at : m.monitor.moment ≡ max (moment_in_use earlier) now = silent.moment in
    let soon : IsSoon m.monitor = silent_soon (max (moment_in_use earlier) now) m.monitor (omega (arith, most, held.0)) silent.moment silent.none in
    subst IsSoon (sym (noted_keeps (note_of now sender reading m) (handed now sender reading m)))
    (taken_soon_after now sender reading m.monitor (omega (arith, at)) (omega (arith, at, most, held.0)) soon)

pub losses_are_timely : LossesAreTimely
losses_are_timely calls now held =
    let n : Ledger = network_after calls in
    ends_timely MOST_LIGHTS (max n.monitor.moment now) n (soon_after calls held.1) (omega arith) (stands_after calls held.1).most

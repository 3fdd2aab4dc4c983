-- No loss is missed: none comes before a network's wake.
use Rattle.std.proofs.Common.{◌≡◌, ◌<◌, ◌≤◌, ◌+◌, ◌-◌, ◌^◌, ℕ, zero, suc, min, max, nat_lt, Bool, true, false, cond, is_some, List, [], ◌∷◌, ◌++◌, length, set, slice_get, Option, None, Some, Result, Ok, Err, refl, sym, ap, ◌∙◌, arith}
use Rattle.std.proofs.lemmas.Option.{slice_get_within}
use Rattle.sacn_packets.specs.declared.root.fault.PacketFault.{PacketFault}
use Rattle.sacn_packets.specs.Data.{Data}
use Rattle.sacn_packets.specs.declared.framing.packet.Packet.{Packet}
use Rattle.sacn_packets.specs.declared.framing.packet.Packet.TheVariants.{DataPacket, PagePacket, SyncPacket}
use Rattle.sacn_sources.specs.declared.limits.TheConstants.{NETWORK_DATA_LOSS}
use Rattle.sacn_monitor.specs.declared.account.Endpoint.{Endpoint}
use Rattle.sacn_monitor.specs.declared.limits.TheConstants.{MAX_STREAMS}
use Rattle.sacn_monitor.specs.declared.news.Noted.{Noted}
use Rattle.sacn_monitor.specs.declared.news.Noted.TheVariants as noted
use Rattle.sacn_monitor.specs.declared.stream.Stream.{Stream}
use Rattle.sacn_monitor.specs.Accounts.{first_account, first_event, quiet}
use Rattle.sacn_monitor.specs.Holdings.{light_end}
use Rattle.sacn_monitor.specs.Streams.{first_stream, loss_of, stream_after}
use Rattle.sacn_monitor.specs.Books.{Book, after_data, after_read, after_tick, changed, news_at, next_light_end, next_loss, noted_data, noted_packet, place_of, silent_place, told_at, untracked, with_datagram}
use Rattle.sacn_monitor.proofs.LightEnds.{dark_changed, dark_more, first_dark, heard_dark, light_end_most, next_later}
use Rattle.sacn_monitor.proofs.Losses.{quiet_changed, quiet_more, silent_later}
use Rattle.sacn_network.specs.declared.ledger.Ledger.{Ledger}
use Rattle.sacn_network.specs.Contests.{with_contest}
use Rattle.sacn_network.specs.Losses.{after_end, after_loss, at_end, end_told, lost_from, lost_place, loss_told, next_end, silence_told, silenced, soonest_loss}
use Rattle.sacn_network.specs.declared.light_ends.TheConstants.{MOST_LIGHTS}
use Rattle.sacn_network.specs.LightEnds.{comes_by, first_end, light_end_of}
use Rattle.sacn_network.specs.Networks.{tick_told, ticked}
use Rattle.sacn_network.specs.Packets.{after_noted, stirred, stirred_universe}
use Rattle.sacn_network.proofs.Lights.{comes_not, ends_quiet, told_quiet}

-- ---- a datagram

soonest_by : (over : Bool) (latest : ℕ) → min (latest + NETWORK_DATA_LOSS) (2 ^ 64 - 1) ≤ cond over (2 ^ 64 - 1) (min (latest + NETWORK_DATA_LOSS) (2 ^ 64 - 1))
soonest_by true latest = omega arith
soonest_by false latest = omega arith

soonest : (s : Stream) → lost_from (Some s) ≤ loss_of s
soonest s = soonest_by _ s.account.latest

pub last_there : (ss : List Stream) (y : Stream) → slice_get (ss ++ y ∷ []) (length ss) ≡ Some y
last_there [] y = refl
last_there (s ∷ ss) y = last_there ss y

pub set_there : (ss : List Stream) (i : ℕ) (y : Stream) → i < length ss → slice_get (set ss i y) i ≡ Some y
set_there [] i y within = absurd (omega (arith, within))
set_there (s ∷ ss) zero y within = refl
set_there (s ∷ ss) (suc i) y within = set_there ss i y (omega (arith, within))

abbrev light_of : ℕ → Option Stream → ℕ
light_of t None = 0
light_of t (Some s) = light_end t s.account.holding

first_of_all : (t i : ℕ) (ss : List Stream) (s : Stream) → slice_get ss i ≡ Some s → next_light_end t ss ≤ light_end t s.account.holding
first_of_all t i [] s there = absurd cc
first_of_all t zero (x ∷ ss) s there = let same : light_end t x.account.holding ≡ light_end t s.account.holding = ap (light_of t) there in omega (arith, same)
first_of_all t (suc i) (x ∷ ss) s there = let rest = first_of_all t i ss s there in omega (arith, rest)

-- by a later clock nothing ends earlier
pub later_end : (now : ℕ) (b : Book) → first_end b ≤ first_end (with_datagram now b)
later_end now b = let lights = next_later b.moment (max b.moment now) b.streams (omega arith) in omega (arith, lights)

-- nothing ends by itself before a moment and the loss of the stream of a packet
abbrev IsQuiet : ℕ → ℕ → Noted → List Stream → Type 0
IsQuiet w t n ss = min w (soonest_loss n ss) ≤ min (next_loss ss) (next_light_end t ss)

-- the stream of a packet is lit until its loss
first_lit : (w t : ℕ) (sender : Endpoint) (d : Data) → w ≤ 2 ^ 64 - 1 → min w (lost_from (Some (first_stream t sender d))) ≤ light_end t (first_stream t sender d).account.holding
unfolding first_account
first_lit w t sender d most = first_dark (min w (lost_from (Some (first_stream t sender d)))) t sender d (omega (arith, most)) (omega arith)

module _ (w : ℕ) (sender : Endpoint) (d : Data) (b : Book) (before : w ≤ first_end b) where
  most : w ≤ 2 ^ 64 - 1
  most = let own = light_end_most b.moment b.streams in omega (arith, own, before)

  appended : (y : Stream) → min w (lost_from (Some y)) ≤ light_end b.moment y.account.holding
      → min w (lost_from (slice_get (b.streams ++ y ∷ []) (length b.streams))) ≤ min (next_loss (b.streams ++ y ∷ [])) (next_light_end b.moment (b.streams ++ y ∷ []))
  appended y own =
      let there : lost_from (slice_get (b.streams ++ y ∷ []) (length b.streams)) ≡ lost_from (Some y) = ap lost_from (last_there b.streams y) in
      let young : lost_from (Some y) ≤ loss_of y = soonest y in
      let rest : min w (loss_of y) ≤ next_loss (b.streams ++ y ∷ []) = quiet_more w y b.streams (omega (arith, before)) in
      let light : min w (lost_from (Some y)) ≤ next_light_end b.moment (b.streams ++ y ∷ []) = dark_more (min w (lost_from (Some y))) b.moment y b.streams (omega (arith, before)) own in
      omega (arith, there, young, rest, light)

  heard_at : (i : ℕ) (o : Option Stream) → slice_get b.streams i ≡ o → IsQuiet w b.moment (news_at b.moment sender d i o) (changed (stream_after b.moment sender d) i b.streams o)
  heard_at i None is = omega (arith, before)
  heard_at i (Some s) is =
      let y : Stream = stream_after b.moment sender d s in
      let there : lost_from (slice_get (set b.streams i y) i) ≡ lost_from (Some y) = ap lost_from (set_there b.streams i y (slice_get_within b.streams i s is)) in
      let young : lost_from (Some y) ≤ loss_of y = soonest y in
      let rest : min w (loss_of y) ≤ next_loss (set b.streams i y) = quiet_changed w i y b.streams (omega (arith, before)) in
      let lit : next_light_end b.moment b.streams ≤ light_end b.moment s.account.holding = first_of_all b.moment i b.streams s is in
      let own : min w (lost_from (Some y)) ≤ light_end b.moment y.account.holding = heard_dark (min w (lost_from (Some y))) b.moment sender d s (omega (arith, lit, before)) (omega arith) in
      let light : min w (lost_from (Some y)) ≤ next_light_end b.moment (set b.streams i y) = dark_changed (min w (lost_from (Some y))) b.moment i y b.streams (omega (arith, before)) own in
      omega (arith, there, young, rest, light)

  data_quiet : (o : Option ℕ) → IsQuiet w (after_data sender d b o).moment (noted_data sender d b o) (after_data sender d b o).streams
  unfolding noted_data after_data
  data_quiet None =
      elim (nat_lt (length b.streams) MAX_STREAMS) as (λ room. let c : Book = cond room (record b { streams = b.streams ++ first_stream b.moment sender d ∷ [] }) (untracked b) in
      IsQuiet w c.moment (cond room (noted.Heard (length b.streams) (quiet (first_event d.terminated))) noted.Untracked) c.streams) [
        | true ↦ appended (first_stream b.moment sender d) (first_lit w b.moment sender d most)
        | false ↦ omega (arith, before)
      ]
  data_quiet (Some i) = heard_at i (slice_get b.streams i) refl

pub read_quiet : (w : ℕ) (sender : Endpoint) (b : Book) (r : Result Packet PacketFault) → w ≤ first_end b → IsQuiet w (after_read sender b r).moment (noted_packet sender b r) (after_read sender b r).streams
read_quiet w sender b (Ok (DataPacket d)) before = data_quiet w sender d b before (place_of d.universe d.cid b.streams)
read_quiet w sender b (Ok (PagePacket p)) before = omega (arith, before)
read_quiet w sender b (Ok SyncPacket) before = omega (arith, before)
read_quiet w sender b (Err fault) before = omega (arith, before)

-- what is told of it changes no account
stirred_keeps : (o : Option ℕ) (n : Ledger) → (stirred o n).monitor ≡ n.monitor
unfolding stirred with_contest
stirred_keeps None n = refl
stirred_keeps (Some universe) n = refl

pub noted_keeps : (x : Noted) (n : Ledger) → (after_noted x n).monitor ≡ n.monitor
unfolding after_noted
noted_keeps (noted.Refused fault) n = refl
noted_keeps noted.Page n = refl
noted_keeps noted.Sync n = refl
noted_keeps noted.Untracked n = refl
noted_keeps (noted.Heard place news) n = stirred_keeps (stirred_universe (slice_get n.monitor.streams place) news) n

-- ---- a tick before the wake

pub none_lost : (t : ℕ) (n : Ledger) → max n.monitor.moment t < next_loss n.monitor.streams → lost_place t n ≡ None
unfolding lost_place
none_lost t n before = silent_later (max n.monitor.moment (next_end t n)) n.monitor.streams (omega (arith, before))

pub one_step_told : (steps t : ℕ) (n : Ledger) → lost_place t n ≡ None → silence_told (suc steps) t n ≡ []
unfolding silence_told end_told
one_step_told steps t n none = ap (λ (o : Option ℕ). loss_told o (at_end t n) ++ cond (is_some o) (silence_told steps t (after_end t n)) []) none

pub one_step_ledger : (steps t : ℕ) (n : Ledger) → lost_place t n ≡ None → silenced (suc steps) t n ≡ at_end t n
unfolding silenced after_end
one_step_ledger steps t n none =
    ap (λ (o : Option ℕ). cond (is_some o) (silenced steps t (after_end t n)) (after_end t n)) none ∙ ap (λ (o : Option ℕ). after_loss o (at_end t n)) none

module _ (now until wake : ℕ) (n : Ledger) (is : until ≡ max n.monitor.moment now) (early : until < wake) (before : wake ≤ first_end n.monitor) where
  lit : comes_by (max n.monitor.moment now) (light_end_of n.monitor) ≡ false
  lit = comes_not (max n.monitor.moment now) (light_end_of n.monitor) (omega (arith, is, early, before))

  none : lost_place (max n.monitor.moment now) n ≡ None
  none = none_lost (max n.monitor.moment now) n (omega (arith, is, early, before))

  pub early_told : tick_told now n ≡ []
  early_told = told_quiet MOST_LIGHTS (max n.monitor.moment now) n lit ∙ one_step_told MAX_STREAMS (max n.monitor.moment now) n none

  pub early_lost : false ≡ is_some (silent_place (max n.monitor.moment now) n.monitor.streams)
  early_lost =
      let none_now : silent_place (max n.monitor.moment now) n.monitor.streams ≡ None = silent_later (max n.monitor.moment now) n.monitor.streams (omega (arith, is, early, before)) in
      ap is_some (sym none_now)

  at : next_end (max n.monitor.moment now) n ≡ until
  at = omega (arith, is, early, before)

  pub early_ledger : ticked now n ≡ record n { monitor = after_tick until n.monitor }
  early_ledger = ends_quiet MOST_LIGHTS (max n.monitor.moment now) n lit ∙ one_step_ledger MAX_STREAMS (max n.monitor.moment now) n none ∙ ap (λ (t : ℕ). let m : Ledger = record n { monitor = after_tick t n.monitor } in m) at

  pub early_quiet : wake ≤ first_end (after_tick until n.monitor)
  early_quiet =
      let t : ℕ = max n.monitor.moment until in
      let none_now : silent_place t n.monitor.streams ≡ None = silent_later t n.monitor.streams (omega (arith, is, early, before)) in
      let lights : light_end_of n.monitor ≤ next_light_end t n.monitor.streams = next_later n.monitor.moment t n.monitor.streams (omega arith) in
      omega (arith, before, lights, ap (λ (o : Option ℕ). next_loss (told_at o n.monitor.streams)) none_now, ap (λ (o : Option ℕ). next_light_end t (told_at o n.monitor.streams)) none_now)

-- What a network keeps is what its monitor keeps: the accounts are those of the packets, and the clock is the greatest moment handed in.
use Rattle.std.proofs.Common.{◌≡◌, ◌<◌, ◌≤◌, ◌+◌, ◌-◌, ◌^◌, inl, inr, ℕ, zero, suc, min, max, ltb, Bool, true, false, ◌||◌, cond, is_some, List, [], ◌∷◌, ◌++◌, length, Option, None, Some, Result, Ok, Err, refl, sym, ap, subst, ◌∙◌, arith, ltb-true}
use Rattle.std.proofs.lemmas.Bool.{ltb-false}
use Rattle.std.proofs.lemmas.List.{length-append}
use Rattle.sacn_packets.specs.declared.root.fault.PacketFault.{PacketFault}
use Rattle.sacn_packets.specs.Data.{Data}
use Rattle.sacn_packets.specs.declared.framing.packet.Packet.{Packet}
use Rattle.sacn_packets.specs.declared.framing.packet.Packet.TheVariants.{DataPacket, PagePacket, SyncPacket}
use Rattle.sacn_packets.specs.PacketReading.{reading_packet}
use Rattle.sacn_monitor.specs.declared.account.Endpoint.{Endpoint}
use Rattle.sacn_monitor.specs.declared.limits.TheConstants.{MAX_STREAMS}
use Rattle.sacn_monitor.specs.declared.stream.Stream.{Stream}
use Rattle.sacn_monitor.specs.Streams.{first_stream, stream_after}
use Rattle.sacn_monitor.specs.Books.{Book, after_data, after_read, after_take, after_tick, next_loss, place_of, silent_place, told_at, untracked, with_datagram}
use Rattle.sacn_monitor.specs.Histories as monitor
use Rattle.sacn_monitor.specs.Histories.{Call, Take, Tick, after_calls, account_by, account_in, arrival_at, arrivals, moment_in_use}
use Rattle.sacn_monitor.proofs.Tracking as kept
use Rattle.sacn_network.specs.declared.ledger.Ledger.{Ledger}
use Rattle.sacn_network.specs.declared.ledger.TheConstants.{MOST_STEPS}
use Rattle.sacn_network.specs.Calls.{ATickLeavesNone, AccountsAreOfTheirPackets, AreMoments, UsesTheGreatestMoment, network_after}
use Rattle.sacn_network.specs.Losses.{after_end, at_end, lost_place, next_end, silenced}
use Rattle.sacn_network.specs.declared.light_ends.TheConstants.{MOST_LIGHTS}
use Rattle.sacn_network.specs.LightEnds.{after_ends, after_light, comes_by, ends_lose, light_end_of}
use Rattle.sacn_network.specs.Networks.{handed, note_of, ticked}
use Rattle.sacn_network.proofs.Lights.{next_after}
use Rattle.sacn_network.proofs.Ticks.{came, end_keeps, light_keeps, ticked_by}
use Rattle.sacn_network.proofs.Waking.{none_lost, noted_keeps, one_step_ledger}
use Rattle.sacn_network.proofs.Whole.{heard_length, none_before, told_length, told_less, untold, untold_most}

-- ---- calls of a monitor that leave this book, and in which the same packets came at the same moments

abbrev MadeBy : List Call → Book → Type 0
MadeBy told b = (calls : List Call) × (b ≡ after_calls calls) × ((universe : ℕ) (cid : List ℕ) → arrivals universe cid calls ≡ arrivals universe cid told)

made_later : (told : List Call) (t : ℕ) (b : Book) → MadeBy told b → MadeBy told (after_tick t b)
made_later told t b (calls, is, come) = (Tick t ∷ calls, ap (after_tick t) is, come)

-- ---- silence

pub record IsSilent (t : ℕ) (b : Book) : Type 0 where
  pub moment : b.moment ≡ t
  pub none : silent_place t b.streams ≡ None
  pub most : length b.streams ≤ MAX_STREAMS

silent_as : (t : ℕ) (n m : Ledger) → m ≡ n → IsSilent t n.monitor → IsSilent t m.monitor
silent_as t n m same is = subst (λ (l : Ledger). IsSilent t l.monitor) (sym same) is

module _ (t : ℕ) (held : t ≤ 2 ^ 64 - 1) where
  last_step : (n : Ledger) → n.monitor.moment ≤ t → length n.monitor.streams ≤ MAX_STREAMS → silent_place (max n.monitor.moment (next_end t n)) n.monitor.streams ≡ None → IsSilent t (at_end t n).monitor
  last_step n by most none =
      let later : min (max n.monitor.moment (next_end t n) + 1) (2 ^ 64 - 1) ≤ next_loss n.monitor.streams = none_before (max n.monitor.moment (next_end t n)) n.monitor.streams none in
      let at : max n.monitor.moment (next_end t n) ≡ t = omega (arith, later, by, held) in
      let same : (at_end t n).monitor.streams ≡ n.monitor.streams = ap (λ (o : Option ℕ). told_at o n.monitor.streams) none in
      record {
        moment = at;
        none = ap (silent_place t) same ∙ ap (λ (k : ℕ). silent_place k n.monitor.streams) (sym at) ∙ none;
        most = omega (arith, most, ap length same);
      }

  one_step_more : (steps : ℕ) (n : Ledger) (i : ℕ) → lost_place t n ≡ Some i → silenced (suc steps) t n ≡ silenced steps t (after_end t n)
  unfolding silenced
  one_step_more steps n i is = ap (λ (o : Option ℕ). cond (is_some o) (silenced steps t (after_end t n)) (after_end t n)) is

  silent : (steps : ℕ) (n : Ledger) → n.monitor.moment ≤ t → untold n.monitor.streams < steps → length n.monitor.streams ≤ MAX_STREAMS → IsSilent t (silenced steps t n).monitor
  unfolding lost_place
  silent zero n by few most = absurd (omega (arith, few))
  silent (suc steps) n by few most =
      elim (lost_place t n) as (λ o. lost_place t n ≡ o → IsSilent t (silenced (suc steps) t n).monitor) [
        | None ↦ λ is. silent_as t (at_end t n) (silenced (suc steps) t n) (one_step_ledger steps t n is) (last_step n by most is)
        | Some i ↦ λ is.
            let m : Ledger = after_end t n in
            let ss : List Stream = n.monitor.streams in
            let book : m.monitor ≡ after_tick (next_end t n) n.monitor = end_keeps t n in
            let moment : m.monitor.moment ≡ max n.monitor.moment (next_end t n) = ap (λ (b : Book). b.moment) book in
            let streams : m.monitor.streams ≡ told_at (Some i) ss = ap (λ (b : Book). b.streams) book ∙ ap (λ (o : Option ℕ). told_at o ss) is in
            let less : untold (told_at (Some i) ss) + 1 ≡ untold ss = told_less (max n.monitor.moment (next_end t n)) ss i is in
            let long : length (told_at (Some i) ss) ≡ length ss = told_length (Some i) ss in
            silent_as t (silenced steps t m) (silenced (suc steps) t n) (one_step_more steps n i is)
            (silent steps m (omega (arith, moment, by)) (omega (arith, few, less, ap untold streams)) (omega (arith, most, long, ap length streams)))
      ] refl

pub all_silent : (t : ℕ) (n : Ledger) → t ≤ 2 ^ 64 - 1 → n.monitor.moment ≤ t → length n.monitor.streams ≤ MAX_STREAMS → IsSilent t (silenced MOST_STEPS t n).monitor
all_silent t n held later most = let few = untold_most n.monitor.streams in silent t held MOST_STEPS n later (omega (arith, few, most)) most

-- at the moment at which a light goes out all that is lost by then was told
pub light_is_silent : (t : ℕ) (n : Ledger) → comes_by t (light_end_of n.monitor) ≡ true → length n.monitor.streams ≤ MAX_STREAMS → IsSilent (light_end_of n.monitor) (after_light (light_end_of n.monitor) n).monitor
light_is_silent t n is most =
    let at : ℕ = light_end_of n.monitor in
    let early = came t at is in
    let later = next_after n.monitor.moment n.monitor.streams in
    subst (IsSilent at) (sym (light_keeps at n)) (all_silent at n (omega (arith, early.1)) (omega (arith, early.1, later)) most)

pub all_ended : (k t : ℕ) (n : Ledger) → t ≤ 2 ^ 64 - 1 → n.monitor.moment ≤ t → length n.monitor.streams ≤ MAX_STREAMS → IsSilent t (after_ends k t n).monitor
unfolding after_ends
all_ended zero t n held later most = all_silent t n held later most
all_ended (suc k) t n held later most =
    let at : ℕ = light_end_of n.monitor in
    let m : Ledger = after_light at n in
    elim (comes_by t at) as (λ b. comes_by t at ≡ b → IsSilent t (cond b (after_ends k t m) (silenced MOST_STEPS t n)).monitor) [
      | true ↦ λ is.
          let silent = light_is_silent t n is most in
          let early = (came t at is).0 in
          let moment = silent.moment in
          let room = silent.most in
          all_ended k t m held (omega (arith, early, moment)) room
      | false ↦ λ is. all_silent t n held later most
    ] refl

-- a source is lost by a moment where the first step finds one
some_lost : (t : ℕ) (ss : List Stream) → next_loss ss ≤ t → next_loss ss < 2 ^ 64 - 1 → is_some (silent_place t ss) ≡ true
some_lost t ss by low =
    elim (silent_place t ss) as (λ o. silent_place t ss ≡ o → is_some o ≡ true) [
      | None ↦ λ none. let later : min (t + 1) (2 ^ 64 - 1) ≤ next_loss ss = none_before t ss none in absurd (omega (arith, later, by, low))
      | Some i ↦ λ is. refl
    ] refl

pub lost_as : (now : ℕ) (n : Ledger) → now ≤ 2 ^ 64 - 1 → n.monitor.moment ≤ 2 ^ 64 - 1 → is_some (lost_place (max n.monitor.moment now) n) ≡ is_some (silent_place (max n.monitor.moment now) n.monitor.streams)
unfolding lost_place
lost_as now n held before =
    let t : ℕ = max n.monitor.moment now in
    let l : ℕ = next_loss n.monitor.streams in
    elim (ltb l t) as (λ b. ltb l t ≡ b → is_some (lost_place t n) ≡ is_some (silent_place t n.monitor.streams)) [
      | true ↦ λ is.
          let less : l < t = ltb-true l t is in
          some_lost (max n.monitor.moment (next_end t n)) n.monitor.streams (omega (arith, less)) (omega (arith, less, held, before)) ∙ sym (some_lost t n.monitor.streams (omega (arith, less)) (omega (arith, less, held, before)))
      | false ↦ λ is. let most : t ≤ l = ltb-false l t is in ap (λ (k : ℕ). is_some (silent_place k n.monitor.streams)) (omega (arith, most))
    ] refl

lost_then : (t : ℕ) (n : Ledger) → t ≤ 2 ^ 64 - 1 → n.monitor.moment ≤ t → is_some (lost_place t n) ≡ is_some (silent_place t n.monitor.streams)
lost_then t n held later =
    let at : max n.monitor.moment t ≡ t = omega (arith, later) in
    sym (ap (λ (k : ℕ). is_some (lost_place k n)) at) ∙ lost_as t n held (omega (arith, held, later)) ∙ ap (λ (k : ℕ). is_some (silent_place k n.monitor.streams)) at

-- where none is lost before a light goes out, the streams are as they were
none_changed : (at : ℕ) (n : Ledger) → max n.monitor.moment at < next_loss n.monitor.streams → (after_light at n).monitor.streams ≡ n.monitor.streams
unfolding lost_place
none_changed at n before =
    let none : lost_place at n ≡ None = none_lost at n before in
    ap (λ (b : Book). b.streams) (light_keeps at n) ∙ ap (λ (l : Ledger). l.monitor.streams) (one_step_ledger MAX_STREAMS at n none) ∙ ap (λ (o : Option ℕ). told_at o n.monitor.streams) none

-- so many steps lose a source where one is lost by then
pub lose_as : (k t : ℕ) (n : Ledger) → t ≤ 2 ^ 64 - 1 → n.monitor.moment ≤ t → length n.monitor.streams ≤ MAX_STREAMS → ends_lose k t n ≡ is_some (silent_place t n.monitor.streams)
unfolding ends_lose
lose_as zero t n held later most = lost_then t n held later
lose_as (suc k) t n held later most =
    let at : ℕ = light_end_of n.monitor in
    let m : Ledger = after_light at n in
    let ss : List Stream = n.monitor.streams in
    elim (comes_by t at) as (λ b. comes_by t at ≡ b → cond b (is_some (lost_place at n) || ends_lose k t m) (is_some (lost_place t n)) ≡ is_some (silent_place t ss)) [
      | true ↦ λ is.
          let early = came t at is in
          let after : n.monitor.moment ≤ at = let on = next_after n.monitor.moment ss in omega (arith, on, early.1) in
          elim (ltb at (next_loss ss)) as (λ c. ltb at (next_loss ss) ≡ c → (is_some (lost_place at n) || ends_lose k t m) ≡ is_some (silent_place t ss)) [
            | true ↦ λ is_before.
                let before = ltb-true at (next_loss ss) is_before in
                let lower : max n.monitor.moment at < next_loss ss = omega (arith, before, after) in
                let silent = light_is_silent t n is most in
                let moment = silent.moment in
                let room = silent.most in
                ap (λ (o : Option ℕ). is_some o || ends_lose k t m) (none_lost at n lower)
                ∙ lose_as k t m held (omega (arith, early.0, moment)) room ∙ ap (λ (zs : List Stream). is_some (silent_place t zs)) (none_changed at n lower)
            | false ↦ λ is_past.
                let past = ltb-false at (next_loss ss) is_past in
                ap (λ (x : Bool). x || ends_lose k t m) (lost_then at n (omega (arith, early.1)) after ∙ some_lost at ss past (omega (arith, past, early.1)))
                ∙ sym (some_lost t ss (omega (arith, past, early.0)) (omega (arith, past, early.1)))
          ] refl
      | false ↦ λ is. lost_then t n held later
    ] refl

-- ---- a datagram

data_moment : (sender : Endpoint) (d : Data) (b : Book) (o : Option ℕ) → (after_data sender d b o).moment ≡ b.moment
unfolding after_data
data_moment sender d b None =
    elim (ltb (length b.streams) MAX_STREAMS) as (λ room. (cond room (record b { streams = b.streams ++ first_stream b.moment sender d ∷ [] }) (untracked b)).moment ≡ b.moment) [
      | true ↦ refl
      | false ↦ refl
    ]
data_moment sender d b (Some i) = refl

pub read_moment : (sender : Endpoint) (b : Book) (r : Result Packet PacketFault) → (after_read sender b r).moment ≡ b.moment
read_moment sender b (Ok (DataPacket d)) = data_moment sender d b (place_of d.universe d.cid b.streams)
read_moment sender b (Ok (PagePacket p)) = refl
read_moment sender b (Ok SyncPacket) = refl
read_moment sender b (Err fault) = refl

data_most : (sender : Endpoint) (d : Data) (b : Book) (o : Option ℕ) → length b.streams ≤ MAX_STREAMS → length (after_data sender d b o).streams ≤ MAX_STREAMS
unfolding after_data
data_most sender d b None most =
    elim (ltb (length b.streams) MAX_STREAMS) as (λ room. ltb (length b.streams) MAX_STREAMS ≡ room → length (cond room (record b { streams = b.streams ++ first_stream b.moment sender d ∷ [] }) (untracked b)).streams ≤ MAX_STREAMS) [
      | true ↦ λ is.
          let room = ltb-true (length b.streams) MAX_STREAMS is in
          let long : length (b.streams ++ first_stream b.moment sender d ∷ []) ≡ length b.streams + 1 = length-append b.streams (first_stream b.moment sender d ∷ []) in
          omega (arith, room, long)
      | false ↦ λ is. most
    ] refl
data_most sender d b (Some i) most = let same = heard_length (stream_after b.moment sender d) i b.streams in omega (arith, most, same)

pub read_most : (sender : Endpoint) (b : Book) (r : Result Packet PacketFault) → length b.streams ≤ MAX_STREAMS → length (after_read sender b r).streams ≤ MAX_STREAMS
read_most sender b (Ok (DataPacket d)) most = data_most sender d b (place_of d.universe d.cid b.streams) most
read_most sender b (Ok (PagePacket p)) most = most
read_most sender b (Ok SyncPacket) most = most
read_most sender b (Err fault) most = most

-- ---- a network after calls

pub record Stands (told : List Call) (b : Book) : Type 0 where
  pub moment : b.moment ≡ moment_in_use told
  pub made : MadeBy told b
  pub most : length b.streams ≤ MAX_STREAMS

pub held_in_use : (calls : List Call) → AreMoments calls → moment_in_use calls ≤ 2 ^ 64 - 1
held_in_use [] held = omega arith
held_in_use (Take now sender octets ∷ earlier) held = let rest = held_in_use earlier held.1 in let first = held.0 in omega (arith, rest, first)
held_in_use (Tick now ∷ earlier) held = let rest = held_in_use earlier held.1 in let first = held.0 in omega (arith, rest, first)

same_arrivals : (universe : ℕ) (cid : List ℕ) (t u now : ℕ) (sender : Endpoint) (octets : List ℕ) (xs ys : List monitor.Arrival) → t ≡ u → xs ≡ ys
    → arrival_at universe cid t (Take now sender octets) ++ xs ≡ arrival_at universe cid u (Take now sender octets) ++ ys
same_arrivals universe cid t u now sender octets xs ys same rest =
    ap (λ (k : ℕ). arrival_at universe cid k (Take now sender octets) ++ xs) same ∙ ap (λ (l : List monitor.Arrival). arrival_at universe cid u (Take now sender octets) ++ l) rest

made_taken : (earlier : List Call) (now : ℕ) (sender : Endpoint) (octets : List ℕ) (b : Book) → b.moment ≡ max (moment_in_use earlier) now → MadeBy earlier b → MadeBy (Take now sender octets ∷ earlier) (after_take now sender octets b)
made_taken earlier now sender octets b moment (calls, is, come) =
    let in_use : moment_in_use calls ≡ b.moment = sym (kept.moments calls) ∙ sym (ap (λ (x : Book). x.moment) is) in
    let same : max (moment_in_use calls) now ≡ max (moment_in_use earlier) now = omega (arith, in_use, moment) in (
      Take now sender octets ∷ calls,
      ap (after_take now sender octets) is,
      λ universe cid. same_arrivals universe cid (max (moment_in_use calls) now) (max (moment_in_use earlier) now) now sender octets (arrivals universe cid calls) (arrivals universe cid earlier) same (come universe cid),
    )

stands_as : (told : List Call) (b c : Book) → c ≡ b → Stands told b → Stands told c
stands_as told b c same is = subst (Stands told) (sym same) is

taken_stands : (earlier : List Call) (now : ℕ) (sender : Endpoint) (octets : List ℕ) (b : Book) → IsSilent (max (moment_in_use earlier) now) b → MadeBy earlier b → Stands (Take now sender octets ∷ earlier) (after_take now sender octets b)
taken_stands earlier now sender octets b silent made = record {
  moment = read_moment sender (with_datagram now b) (reading_packet octets) ∙ (let at = silent.moment in omega (arith, at));
  made = made_taken earlier now sender octets b silent.moment made;
  most = read_most sender (with_datagram now b) (reading_packet octets) silent.most;
}

silent_at : (t u : ℕ) (b : Book) → t ≡ u → IsSilent t b → IsSilent u b
silent_at t u b same is = subst (λ (k : ℕ). IsSilent k b) same is

pub mid_silent : (earlier : List Call) (now : ℕ) (n : Ledger) → now ≤ 2 ^ 64 - 1 → moment_in_use earlier ≤ 2 ^ 64 - 1 → Stands earlier n.monitor → IsSilent (max (moment_in_use earlier) now) (ticked now n).monitor
mid_silent earlier now n held before stands =
    let at = stands.moment in
    silent_at (max n.monitor.moment now) (max (moment_in_use earlier) now) (ticked now n).monitor (omega (arith, at)) (all_ended MOST_LIGHTS (max n.monitor.moment now) n (omega (arith, at, held, before)) (omega arith) stands.most)

ticked_made : (earlier : List Call) (now : ℕ) (n : Ledger) → MadeBy earlier n.monitor → MadeBy earlier (ticked now n).monitor
ticked_made earlier now n made = ticked_by (MadeBy earlier) now (λ m b by. made_later earlier m b) n made

pub stands_after : (calls : List Call) → AreMoments calls → Stands calls (network_after calls).monitor
stands_after [] held = record { moment = refl; made = ([], refl, λ universe cid. refl); most = omega arith }
stands_after (Tick now ∷ earlier) held =
    let n : Ledger = network_after earlier in
    let before = stands_after earlier held.1 in
    let silent = mid_silent earlier now n held.0 (held_in_use earlier held.1) before in
    record { moment = silent.moment; made = ticked_made earlier now n before.made; most = silent.most }
stands_after (Take now sender octets ∷ earlier) held =
    let n : Ledger = network_after earlier in
    let m : Ledger = ticked now n in
    let before = stands_after earlier held.1 in
    let silent = mid_silent earlier now n held.0 (held_in_use earlier held.1) before in
    stands_as (Take now sender octets ∷ earlier) (after_take now sender octets m.monitor) (network_after (Take now sender octets ∷ earlier)).monitor
    (noted_keeps (note_of now sender (reading_packet octets) m) (handed now sender (reading_packet octets) m)) (taken_stands earlier now sender octets m.monitor silent (ticked_made earlier now n before.made))

-- ---- the laws

pub uses_the_greatest : UsesTheGreatestMoment
uses_the_greatest calls held = (stands_after calls held).moment

pub tick_leaves_none : ATickLeavesNone
tick_leaves_none calls now held =
    let n : Ledger = network_after calls in
    let silent = mid_silent calls now n held.0 (held_in_use calls held.1) (stands_after calls held.1) in
    ap (λ (k : ℕ). silent_place k (ticked now n).monitor.streams) silent.moment ∙ silent.none

pub accounts_are : AccountsAreOfTheirPackets
accounts_are handed held universe cid =
    let made = (stands_after handed held).made in
    elim (kept.accounts_are_of_their_packets made.0 universe cid) [
      | inl is ↦ inl (ap (λ (b : Book). account_in universe cid b.streams) made.1 ∙ is ∙ ap account_by (made.2 universe cid))
      | inr none ↦ inr (ap (λ (b : Book). account_in universe cid b.streams) made.1 ∙ none.0, subst (λ (b : Book). MAX_STREAMS ≤ length b.streams) (sym made.1) none.1)
    ]

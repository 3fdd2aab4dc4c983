-- The universes that are contested are those on which two sources or more are merged.
use Rattle.std.proofs.Common.{◌≡◌, ◌≢◌, ◌<◌, ◌≤◌, ◌+◌, ◌-◌, ◌^◌, ◌⊎◌, inl, inr, ℕ, zero, suc, max, nat_le, nat_lt, Bool, true, false, ◌&&◌, ◌==◌, cond, is_some, List, [], ◌∷◌, ◌++◌, length, set, slice_get, Option, None, Some, Result, Ok, Err, refl, sym, ap, subst, ◌∙◌, arith, eq-eqb, ne_eqb}
use Rattle.std.proofs.lemmas.Bool.{cases_eq}
use Rattle.sacn_packets.specs.declared.root.fault.PacketFault.{PacketFault}
use Rattle.sacn_packets.specs.Data.{Data}
use Rattle.sacn_packets.specs.declared.framing.packet.Packet.{Packet}
use Rattle.sacn_packets.specs.declared.framing.packet.Packet.TheVariants.{DataPacket, PagePacket, SyncPacket}
use Rattle.sacn_packets.specs.PacketReading.{reading_packet}
use Rattle.sacn_monitor.specs.declared.account.Endpoint.{Endpoint}
use Rattle.sacn_monitor.specs.declared.limits.TheConstants.{MAX_STREAMS}
use Rattle.sacn_monitor.specs.declared.news.News.{News}
use Rattle.sacn_monitor.specs.declared.news.Noted.TheVariants as noted
use Rattle.sacn_monitor.specs.declared.stream.Stream.{Stream}
use Rattle.sacn_monitor.specs.Accounts.{first_event, news_of, quiet}
use Rattle.sacn_monitor.specs.Holdings.{light_at, light_end}
use Rattle.sacn_monitor.specs.Streams.{first_stream, stream_after}
use Rattle.sacn_monitor.specs.Books.{Book, after_data, after_read, after_tick, changed, news_at, noted_data, noted_packet, place_of, silent_place, untracked, with_datagram}
use Rattle.sacn_monitor.specs.Histories.{Call, Take, Tick, moment_in_use}
use Rattle.sacn_monitor.proofs.Leading.{leading}
use Rattle.sacn_network.specs.declared.ledger.Ledger.{Ledger}
use Rattle.sacn_network.specs.declared.ledger.TheConstants.{MOST_STEPS}
use Rattle.sacn_network.specs.declared.light_ends.TheConstants.{MOST_LIGHTS}
use Rattle.sacn_network.specs.declared.universe_set.TheConstants.{WORDS}
use Rattle.sacn_network.specs.Sets.{has_bit, marked}
use Rattle.sacn_network.specs.Calls.{AreMoments, IsContestedAsLit, network_after}
use Rattle.sacn_network.specs.Contests.{is_contested, universe_of, with_contest, with_contest_in}
use Rattle.sacn_network.specs.LightEnds.{after_ends, after_light, after_outs, comes_by, light_end_of, out_universe}
use Rattle.sacn_network.specs.Losses.{after_end, after_loss, at_end, lost_place, next_end, silenced}
use Rattle.sacn_network.specs.Networks.{ticked}
use Rattle.sacn_network.specs.Packets.{after_noted, stirred, stirred_universe, stirs}
use Rattle.sacn_network.proofs.Bits.{has_none, marked_length, marks_one, none_length}
use Rattle.sacn_network.proofs.Joining.{less_to_go, lit_in}
use Rattle.sacn_network.proofs.Lights.{lit_most, next_after}
use Rattle.sacn_network.proofs.Ticks.{came, contest_keeps, end_keeps, light_keeps}
use Rattle.sacn_network.proofs.Tracking.{held_in_use, light_is_silent, mid_silent, stands_after}
use Rattle.sacn_network.proofs.Waking.{last_there, set_there}
use Rattle.std.proofs.lemmas.Option.{slice_get_within}
use Rattle.sacn_network.proofs.Leaders.{Alike, alike_more, alike_put, alike_still, alike_told, dims, first_ends, first_is, first_stirs, glow, is_same, none_dims, other_is, rivals_alike, second_is, silenced_dims, unstirred_light}

-- ---- a set that is as it should be

record Exact (u : ℕ) (n : Ledger) : Type 0 where
  long : length n.contested ≡ WORDS
  bit : has_bit n.contested u ≡ is_contested u n.monitor

contest_long : (o : Option ℕ) (n : Ledger) → length (with_contest_in o n).contested ≡ length n.contested
unfolding with_contest
contest_long None n = refl
contest_long (Some v) n = marked_length n.contested v (is_contested v n.monitor)

loss_long : (o : Option ℕ) (n : Ledger) → length (after_loss o n).contested ≡ length n.contested
loss_long None n = refl
loss_long (Some place) n = contest_long (universe_of (slice_get n.monitor.streams place)) n

end_long : (t : ℕ) (n : Ledger) → length (after_end t n).contested ≡ length n.contested
unfolding after_end
end_long t n = loss_long (lost_place t n) (at_end t n)

silenced_long : (k t : ℕ) (n : Ledger) → length (silenced k t n).contested ≡ length n.contested
unfolding silenced
silenced_long zero t n = refl
silenced_long (suc k) t n =
    elim (is_some (lost_place t n)) as (λ more. length (cond more (silenced k t (after_end t n)) (after_end t n)).contested ≡ length n.contested) [
      | true ↦ silenced_long k t (after_end t n) ∙ end_long t n
      | false ↦ end_long t n
    ]

module _ (u : ℕ) (low : u < 2 ^ 16) where
  one_bit : (v : ℕ) (n : Ledger) → Exact u n → (u ≡ v) ⊎ (u ≢ v) → cond (u == v) (is_contested v n.monitor) (has_bit n.contested u) ≡ is_contested u n.monitor
  one_bit v n exact (inl same) = ap (λ (b : Bool). cond b (is_contested v n.monitor) (has_bit n.contested u)) (eq-eqb u v same) ∙ ap (λ (w : ℕ). is_contested w n.monitor) (sym same)
  one_bit v n exact (inr apart) = ap (λ (b : Bool). cond b (is_contested v n.monitor) (has_bit n.contested u)) (ne_eqb u v apart) ∙ exact.bit

  contest_exact : (o : Option ℕ) (n : Ledger) → Exact u n → Exact u (with_contest_in o n)
  unfolding with_contest
  contest_exact None n exact = exact
  contest_exact (Some v) n exact = record {
    long = marked_length n.contested v (is_contested v n.monitor) ∙ exact.long;
    bit = marks_one n.contested v (is_contested v n.monitor) u exact.long low ∙ one_bit v n exact (cases_eq u v);
  }

  contest_sets : (v : ℕ) (n : Ledger) → u ≡ v → length n.contested ≡ WORDS → Exact u (with_contest_in (Some v) n)
  unfolding with_contest
  contest_sets v n same long = record {
    long = marked_length n.contested v (is_contested v n.monitor) ∙ long;
    bit = marks_one n.contested v (is_contested v n.monitor) u long low
        ∙ ap (λ (b : Bool). cond b (is_contested v n.monitor) (has_bit n.contested u)) (eq-eqb u v same) ∙ ap (λ (w : ℕ). is_contested w n.monitor) (sym same);
  }

  loss_exact : (o : Option ℕ) (n : Ledger) → Exact u n → Exact u (after_loss o n)
  loss_exact None n exact = exact
  loss_exact (Some place) n exact = contest_exact (universe_of (slice_get n.monitor.streams place)) n exact

  -- other accounts with the same leaders
  exact_as : (n m : Ledger) → m.contested ≡ n.contested → Alike u m.monitor.moment n.monitor.moment m.monitor.streams n.monitor.streams → Exact u n → Exact u m
  exact_as n m same alike exact = record {
    long = ap length same ∙ exact.long;
    bit = ap (λ (words : List ℕ). has_bit words u) same ∙ exact.bit ∙ sym (ap (nat_le 2) (rivals_alike u m.monitor.moment n.monitor.moment m.monitor.streams n.monitor.streams alike));
  }

  -- ---- silence, while no light on the universe goes out

  abbrev Still : ℕ → Book → Type 0
  Still at b = (x : ℕ) → b.moment ≤ x → x ≤ at → Alike u x b.moment b.streams b.streams

  tick_alike : (at e : ℕ) (b : Book) → e ≤ at → b.moment ≤ at → Still at b → Alike u (after_tick e b).moment b.moment (after_tick e b).streams b.streams
  tick_alike at e b early later still top count =
      let m : ℕ = max b.moment e in
      alike_told u m (silent_place m b.streams) b.streams top count ∙ still m (omega arith) (omega (arith, early, later)) top count

  tick_still : (at e : ℕ) (b : Book) → e ≤ at → b.moment ≤ at → Still at b → Still at (after_tick e b)
  tick_still at e b early later still x after before top count =
      let m : ℕ = max b.moment e in
      alike_told u x (silent_place m b.streams) b.streams top count ∙ still x (omega (arith, after)) before top count ∙ sym (tick_alike at e b early later still top count)

  end_exact : (at : ℕ) (n : Ledger) → n.monitor.moment ≤ at → Still at n.monitor → Exact u n → Exact u (after_end at n)
  unfolding after_end
  end_exact at n later still exact =
      loss_exact (lost_place at n) (at_end at n) (exact_as n (at_end at n) refl (tick_alike at (next_end at n) n.monitor (omega arith) later still) exact)

  silence_exact : (k at : ℕ) (n : Ledger) → n.monitor.moment ≤ at → Still at n.monitor → Exact u n → Exact u (silenced k at n)
  unfolding silenced
  silence_exact zero at n later still exact = exact
  silence_exact (suc k) at n later still exact =
      let m : Ledger = after_end at n in
      let next : Exact u m = end_exact at n later still exact in
      let is : m.monitor ≡ after_tick (next_end at n) n.monitor = end_keeps at n in
      let low_moment : m.monitor.moment ≤ at = let moment = ap (λ (b : Book). b.moment) is in omega (arith, moment, later) in
      let still_then : Still at m.monitor = subst (Still at) (sym is) (tick_still at (next_end at n) n.monitor (omega arith) later still) in
      elim (is_some (lost_place at n)) as (λ more. Exact u (cond more (silenced k at m) m)) [
        | true ↦ silence_exact k at m low_moment still_then next
        | false ↦ next
      ]

  -- ---- lights

  outs_exact : (before : ℕ) (ss : List Stream) (n : Ledger) → Exact u n → Exact u (after_outs before ss n)
  unfolding after_outs
  outs_exact before [] n exact = exact
  outs_exact before (s ∷ ss) n exact =
      let o : Option ℕ = out_universe before n.monitor.moment (Some s) in
      outs_exact before ss (with_contest_in o n) (contest_exact o n exact)

  outs_set : (before : ℕ) (ss : List Stream) (n : Ledger) → length n.contested ≡ WORDS → dims u before n.monitor.moment ss ≡ true → Exact u (after_outs before ss n)
  unfolding after_outs
  outs_set before [] n long is = absurd cc
  outs_set before (s ∷ ss) n long is =
      let comes : Bool = comes_by n.monitor.moment (light_end before s.account.holding) in
      let o : Option ℕ = out_universe before n.monitor.moment (Some s) in
      elim ((s.universe == u) && comes) as (λ c. (s.universe == u) && comes ≡ c → Exact u (after_outs before ss (with_contest_in o n))) [
        | true ↦ λ here.
            let named : o ≡ Some s.universe = ap (λ (b : Bool). cond b (Some s.universe) None) (second_is (s.universe == u) comes here) in
            outs_exact before ss (with_contest_in o n) (subst (λ (x : Option ℕ). Exact u (with_contest_in x n)) (sym named)
            (contest_sets s.universe n (sym (is_same s.universe u (first_is (s.universe == u) comes here))) long))
        | false ↦ λ none.
            outs_set before ss (with_contest_in o n) (contest_long o n ∙ long)
            (ap (λ (b : Book). dims u before b.moment ss) (contest_keeps o n) ∙ other_is ((s.universe == u) && comes) (dims u before n.monitor.moment ss) none is)
      ] refl

  light_exact : (t : ℕ) (n : Ledger) → length n.monitor.streams ≤ MAX_STREAMS → comes_by t (light_end_of n.monitor) ≡ true → Exact u n → Exact u (after_light (light_end_of n.monitor) n)
  unfolding after_light
  light_exact t n room is exact =
      let at : ℕ = light_end_of n.monitor in
      let l : Ledger = silenced MOST_STEPS at n in
      let early = came t at is in
      let on = next_after n.monitor.moment n.monitor.streams in
      let moment : l.monitor.moment ≡ at = sym (ap (λ (b : Book). b.moment) (light_keeps at n)) ∙ (light_is_silent t n is room).moment in
      elim (dims u n.monitor.moment at n.monitor.streams) as (λ c. dims u n.monitor.moment at n.monitor.streams ≡ c → Exact u (after_outs n.monitor.moment l.monitor.streams l)) [
        | true ↦ λ dim.
            outs_set n.monitor.moment l.monitor.streams l (silenced_long MOST_STEPS at n ∙ exact.long)
            (ap (λ (x : ℕ). dims u n.monitor.moment x l.monitor.streams) moment ∙ silenced_dims u MOST_STEPS at n.monitor.moment at n ∙ dim)
        | false ↦ λ none.
            outs_exact n.monitor.moment l.monitor.streams l (silence_exact MOST_STEPS at n (omega (arith, on, early.1))
            (λ x after before. alike_still u n.monitor.moment x at after before early.1 n.monitor.streams none) exact)
      ] refl

  quiet_exact : (t : ℕ) (n : Ledger) → n.monitor.moment ≤ t → t < 2 ^ 64 - 1 → comes_by t (light_end_of n.monitor) ≡ false → Exact u n → Exact u (silenced MOST_STEPS t n)
  quiet_exact t n later comes none exact =
      silence_exact MOST_STEPS t n later
      (λ x after before. alike_still u n.monitor.moment x t after before comes n.monitor.streams (none_dims u n.monitor.moment t n.monitor.streams none)) exact

  ends_exact : (k t : ℕ) (n : Ledger) → n.monitor.moment ≤ t → t < 2 ^ 64 - 1 → length n.monitor.streams ≤ MAX_STREAMS → lit_in n ≤ k → Exact u n → Exact u (after_ends k t n)
  unfolding after_ends
  ends_exact zero t n later comes room few exact =
      elim (comes_by t (light_end_of n.monitor)) as (λ b. comes_by t (light_end_of n.monitor) ≡ b → Exact u (silenced MOST_STEPS t n)) [
        | true ↦ λ is. let less = less_to_go t n room is in absurd (omega (arith, less, few))
        | false ↦ λ is. quiet_exact t n later comes is exact
      ] refl
  ends_exact (suc k) t n later comes room few exact =
      let at : ℕ = light_end_of n.monitor in
      let m : Ledger = after_light at n in
      elim (comes_by t at) as (λ b. comes_by t at ≡ b → Exact u (cond b (after_ends k t m) (silenced MOST_STEPS t n))) [
        | true ↦ λ is.
            let early = came t at is in
            let silent = light_is_silent t n is room in
            let moment = silent.moment in
            let less = less_to_go t n room is in
            ends_exact k t m (omega (arith, moment, early.0)) comes silent.most (omega (arith, few, less)) (light_exact t n room is exact)
        | false ↦ λ is. quiet_exact t n later comes is exact
      ] refl

  -- ---- a packet

  stirred_exact : (o : Option ℕ) (n : Ledger) → Exact u n → Exact u (stirred o n)
  unfolding stirred
  stirred_exact None n exact = exact
  stirred_exact (Some v) n exact = contest_exact (Some v) (record n { heard = marked v true n.heard }) (record { long = exact.long; bit = exact.bit })

  stirred_sets : (v : ℕ) (n : Ledger) → u ≡ v → length n.contested ≡ WORDS → Exact u (stirred (Some v) n)
  unfolding stirred
  stirred_sets v n same long = contest_sets v (record n { heard = marked v true n.heard }) same long

  module _ (sender : Endpoint) (d : Data) (m : Ledger) (exact : Exact u m) where
    abbrev t : ℕ
    t = m.monitor.moment

    abbrev then_with : List Stream → Ledger
    then_with ss = record m { monitor = record m.monitor { streams = ss } }

    alike_exact : (ss : List Stream) → Alike u t t ss m.monitor.streams → Exact u (then_with ss)
    alike_exact ss alike = exact_as m (then_with ss) refl alike exact

    dark_glow : (y : Stream) → u ≢ y.universe → glow u t y ≡ None
    dark_glow y apart = ap (λ (b : Bool). cond b (light_at t y.account.holding) None) (ne_eqb y.universe u (λ same. apart (sym same)))

    appeared_by : (y : Stream) → (u ≡ y.universe) ⊎ (u ≢ y.universe) → Exact u (stirred (Some y.universe) (then_with (m.monitor.streams ++ y ∷ [])))
    appeared_by y (inl same) = stirred_sets y.universe (then_with (m.monitor.streams ++ y ∷ [])) same exact.long
    appeared_by y (inr apart) =
        stirred_exact (Some y.universe) (then_with (m.monitor.streams ++ y ∷ [])) (alike_exact (m.monitor.streams ++ y ∷ []) (alike_more u t m.monitor.streams y (dark_glow y apart)))

    appeared_exact : (y : Stream) → y.account.ended ≡ d.terminated → Exact u (after_noted (noted.Heard (length m.monitor.streams) (quiet (first_event d.terminated))) (then_with (m.monitor.streams ++ y ∷ [])))
    unfolding after_noted
    appeared_exact y ends =
        let news : News = quiet (first_event d.terminated) in
        let there : stirred_universe (slice_get (m.monitor.streams ++ y ∷ []) (length m.monitor.streams)) news ≡ Some y.universe =
        ap (λ (o : Option Stream). stirred_universe o news) (last_there m.monitor.streams y) ∙ first_stirs d.terminated y ends in
        subst (λ (o : Option ℕ). Exact u (stirred o (then_with (m.monitor.streams ++ y ∷ [])))) (sym there) (appeared_by y (cases_eq u y.universe))

    heard_by : (i : ℕ) (s y : Stream) → slice_get m.monitor.streams i ≡ Some s → y.universe ≡ s.universe → (u ≡ y.universe) ⊎ (u ≢ y.universe) → Exact u (stirred (Some y.universe) (then_with (set m.monitor.streams i y)))
    heard_by i s y there kept (inl same) = stirred_sets y.universe (then_with (set m.monitor.streams i y)) same exact.long
    heard_by i s y there kept (inr apart) =
        let others : glow u t y ≡ glow u t s = dark_glow y apart ∙ sym (dark_glow s (λ same. apart (same ∙ sym kept))) in
        stirred_exact (Some y.universe) (then_with (set m.monitor.streams i y)) (alike_exact (set m.monitor.streams i y) (alike_put u t i m.monitor.streams s y there others))

    heard_exact : (i : ℕ) (o : Option Stream) → slice_get m.monitor.streams i ≡ o → Exact u (after_noted (news_at t sender d i o) (then_with (changed (stream_after t sender d) i m.monitor.streams o)))
    unfolding after_noted
    heard_exact i None is = alike_exact m.monitor.streams (λ top count. refl)
    heard_exact i (Some s) is =
        let y : Stream = stream_after t sender d s in
        let news : News = news_of t sender d s.account in
        let there : stirred_universe (slice_get (set m.monitor.streams i y) i) news ≡ stirred_universe (Some y) news =
        ap (λ (o : Option Stream). stirred_universe o news) (set_there m.monitor.streams i y (slice_get_within m.monitor.streams i s is)) in
        subst (λ (o : Option ℕ). Exact u (stirred o (then_with (set m.monitor.streams i y)))) (sym there)
        (elim (stirs y news) as (λ b. stirs y news ≡ b → Exact u (stirred (cond b (Some y.universe) None) (then_with (set m.monitor.streams i y)))) [
          | true ↦ λ stirring. heard_by i s y is refl (cases_eq u y.universe)
          | false ↦ λ still.
              stirred_exact None (then_with (set m.monitor.streams i y)) (alike_exact (set m.monitor.streams i y)
              (alike_put u t i m.monitor.streams s y is (ap (λ (g : Option ℕ). cond (s.universe == u) g None) (unstirred_light t sender d s still))))
        ] refl)

    data_exact : (o : Option ℕ) → Exact u (after_noted (noted_data sender d m.monitor o) (record m { monitor = after_data sender d m.monitor o }))
    unfolding noted_data after_data after_noted
    data_exact None =
        elim (nat_lt (length m.monitor.streams) MAX_STREAMS) as (λ room. Exact u (after_noted (cond room (noted.Heard (length m.monitor.streams) (quiet (first_event d.terminated))) noted.Untracked)
        (record m { monitor = cond room (record m.monitor { streams = m.monitor.streams ++ first_stream t sender d ∷ [] }) (untracked m.monitor) }))) [
          | true ↦ appeared_exact (first_stream t sender d) (first_ends t sender d)
          | false ↦ exact_as m (record m { monitor = untracked m.monitor }) refl (λ top count. refl) exact
        ]
    data_exact (Some i) = heard_exact i (slice_get m.monitor.streams i) refl

  read_exact : (sender : Endpoint) (r : Result Packet PacketFault) (m : Ledger) → Exact u m → Exact u (after_noted (noted_packet sender m.monitor r) (record m { monitor = after_read sender m.monitor r }))
  unfolding after_noted
  read_exact sender (Ok (DataPacket d)) m exact = data_exact sender d m exact (place_of d.universe d.cid m.monitor.streams)
  read_exact sender (Ok (PagePacket p)) m exact = exact_as m (record m { monitor = after_read sender m.monitor (Ok (PagePacket p)) }) refl (λ top count. refl) exact
  read_exact sender (Ok SyncPacket) m exact = exact_as m (record m { monitor = after_read sender m.monitor (Ok SyncPacket) }) refl (λ top count. refl) exact
  read_exact sender (Err fault) m exact = exact_as m (record m { monitor = after_read sender m.monitor (Err fault) }) refl (λ top count. refl) exact

  waited_exact : (now : ℕ) (m : Ledger) → now ≤ m.monitor.moment → Exact u m → Exact u (record m { monitor = with_datagram now m.monitor })
  waited_exact now m by exact =
      exact_as m (record m { monitor = with_datagram now m.monitor }) refl
      (λ top count. ap (λ (x : ℕ). leading u x top count m.monitor.streams) (omega (arith, by))) exact

  -- ---- calls

  ticked_exact : (now : ℕ) (n : Ledger) → max n.monitor.moment now < 2 ^ 64 - 1 → length n.monitor.streams ≤ MAX_STREAMS → Exact u n → Exact u (ticked now n)
  ticked_exact now n comes room exact =
      let most = lit_most n.monitor.moment n.monitor.streams in
      ends_exact MOST_LIGHTS (max n.monitor.moment now) n (omega arith) comes room (omega (arith, most, room)) exact

  exact_after : (calls : List Call) → AreMoments calls → moment_in_use calls < 2 ^ 64 - 1 → Exact u (network_after calls)
  exact_after [] held comes = record { long = none_length; bit = has_none u }
  exact_after (Tick now ∷ earlier) held comes =
      let n : Ledger = network_after earlier in
      let stands = stands_after earlier held.1 in
      let moment = stands.moment in
      ticked_exact now n (omega (arith, moment, comes)) stands.most (exact_after earlier held.1 (omega (arith, comes)))
  exact_after (Take now sender octets ∷ earlier) held comes =
      let n : Ledger = network_after earlier in
      let m : Ledger = ticked now n in
      let stands = stands_after earlier held.1 in
      let moment = stands.moment in
      let silent = mid_silent earlier now n held.0 (held_in_use earlier held.1) stands in
      let at = silent.moment in
      read_exact sender (reading_packet octets) (record m { monitor = with_datagram now m.monitor })
      (waited_exact now m (omega (arith, at)) (ticked_exact now n (omega (arith, moment, comes)) stands.most (exact_after earlier held.1 (omega (arith, comes)))))

pub contested_as_lit : IsContestedAsLit
contested_as_lit calls universe held low comes = (exact_after universe low calls held comes).bit

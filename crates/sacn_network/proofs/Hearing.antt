-- The universes that were heard are those of the streams.
use Rattle.std.proofs.Common.{◌≡◌, ◌<◌, ◌^◌, inl, inr, ℕ, zero, suc, ltb, Bool, true, false, ◌||◌, ◌==◌, cond, is_some, List, [], ◌∷◌, ◌++◌, length, set, slice_get, Option, None, Some, Result, Ok, Err, refl, sym, ap, subst, ◌∙◌, eq-eqb, ne_eqb}
use Rattle.std.specs.List.{list_any}
use Rattle.std.proofs.lemmas.Bool.{cases_eq}
use Rattle.std.proofs.lemmas.List.Folds.{list_any-append}
use Rattle.std.proofs.lemmas.Option.{slice_get_within}
use Rattle.sacn_packets.specs.declared.root.fault.PacketFault.{PacketFault}
use Rattle.sacn_packets.specs.Data.{Data}
use Rattle.sacn_packets.specs.declared.framing.packet.Packet.{Packet}
use Rattle.sacn_packets.specs.declared.framing.packet.Packet.TheVariants.{DataPacket, PagePacket, SyncPacket}
use Rattle.sacn_packets.specs.PacketReading.{reading_packet}
use Rattle.sacn_monitor.specs.declared.account.Endpoint.{Endpoint}
use Rattle.sacn_monitor.specs.declared.limits.TheConstants.{MAX_STREAMS}
use Rattle.sacn_monitor.specs.declared.news.News.{News}
use Rattle.sacn_monitor.specs.declared.news.Noted.{Noted}
use Rattle.sacn_monitor.specs.declared.news.Noted.TheVariants as noted
use Rattle.sacn_monitor.specs.declared.stream.Stream.{Stream}
use Rattle.sacn_monitor.specs.Accounts.{first_account, first_event, news_of, quiet}
use Rattle.sacn_monitor.specs.Streams.{first_stream, stream_after}
use Rattle.sacn_monitor.specs.Books.{Book, after_data, after_read, after_tick, changed, news_at, noted_data, noted_packet, place_of, silent_place, told_at, untracked, with_datagram, with_told}
use Rattle.sacn_monitor.specs.Histories.{Call, Take, Tick}
use Rattle.sacn_network.specs.declared.ledger.Ledger.{Ledger}
use Rattle.sacn_network.specs.declared.ledger.TheConstants.{MOST_STEPS}
use Rattle.sacn_network.specs.declared.universe_set.TheConstants.{WORDS}
use Rattle.sacn_network.specs.Sets.{has_bit, marked}
use Rattle.sacn_network.specs.Calls.{IsHeardWhereASourceIs, network_after}
use Rattle.sacn_network.specs.Contests.{universe_of, with_contest, with_contest_in}
use Rattle.sacn_network.specs.Losses.{after_end, after_loss, at_end, lost_place, next_end, silenced}
use Rattle.sacn_network.specs.declared.light_ends.TheConstants.{MOST_LIGHTS}
use Rattle.sacn_network.specs.LightEnds.{after_ends, after_light, after_outs, comes_by, light_end_of, out_universe}
use Rattle.sacn_network.specs.Networks.{handed, note_of, ticked}
use Rattle.sacn_network.specs.Packets.{after_noted, stirred, stirred_universe, stirs}
use Rattle.sacn_network.proofs.Bits.{has_none, marked_length, marks_one, none_length}
use Rattle.sacn_network.proofs.Ticks.{end_keeps, light_keeps}
use Rattle.sacn_network.proofs.Waking.{last_there, noted_keeps, set_there}

-- a stream is of a universe
abbrev any : ℕ → List Stream → Bool
any u ss = list_any (λ s. s.universe == u) ss

record Hears (heard : List ℕ) (ss : List Stream) : Type 0 where
  long : length heard ≡ WORDS
  bits : (u : ℕ) → u < 2 ^ 16 → has_bit heard u ≡ any u ss

-- ---- streams that change keep their universes

abbrev universe_in : ℕ → Option Stream → Bool
universe_in u None = false
universe_in u (Some s) = s.universe == u

any_set : (u i : ℕ) (ss : List Stream) (s y : Stream) → slice_get ss i ≡ Some s → y.universe ≡ s.universe → any u (set ss i y) ≡ any u ss
any_set u i [] s y there same = refl
any_set u zero (x ∷ ss) s y there same = ap (λ (b : Bool). b || any u ss) (ap (λ (v : ℕ). v == u) same ∙ sym (ap (universe_in u) there))
any_set u (suc i) (x ∷ ss) s y there same = ap (λ (b : Bool). (x.universe == u) || b) (any_set u i ss s y there same)

true_or : (b : Bool) → (b || true) ≡ true
true_or true = refl
true_or false = refl

any_at : (i : ℕ) (ss : List Stream) (s : Stream) → slice_get ss i ≡ Some s → any s.universe ss ≡ true
any_at i [] s there = absurd cc
any_at zero (x ∷ ss) s there = ap (λ (b : Bool). b || any s.universe ss) (ap (universe_in s.universe) there ∙ eq-eqb s.universe s.universe refl)
any_at (suc i) (x ∷ ss) s there = ap (λ (b : Bool). (x.universe == s.universe) || b) (any_at i ss s there) ∙ true_or (x.universe == s.universe)

any_changed : (u i : ℕ) (f : Stream → Stream) → ((s : Stream) → (f s).universe ≡ s.universe) → (ss : List Stream) (o : Option Stream) → slice_get ss i ≡ o → any u (changed f i ss o) ≡ any u ss
any_changed u i f keeps ss None is = refl
any_changed u i f keeps ss (Some s) is = any_set u i ss s (f s) is (keeps s)

any_told : (u : ℕ) (o : Option ℕ) (ss : List Stream) → any u (told_at o ss) ≡ any u ss
any_told u None ss = refl
any_told u (Some i) ss = any_changed u i with_told (λ s. refl) ss (slice_get ss i) refl

-- ---- marks

hears_still : (heard : List ℕ) (old new : List Stream) → ((u : ℕ) → any u new ≡ any u old) → Hears heard old → Hears heard new
hears_still heard old new same hears = record { long = hears.long; bits = λ u low. hears.bits u low ∙ sym (same u) }

with_one : (b x : Bool) → cond b true x ≡ (b || x)
with_one true x = refl
with_one false x = refl

hears_one : (heard : List ℕ) (old new : List Stream) (universe : ℕ) → ((u : ℕ) → any u new ≡ ((u == universe) || any u old)) → Hears heard old → Hears (marked universe true heard) new
hears_one heard old new universe more hears = record {
  long = marked_length heard universe true ∙ hears.long;
  bits = λ u low. marks_one heard universe true u hears.long low ∙ with_one (u == universe) (has_bit heard u) ∙ ap (λ (b : Bool). (u == universe) || b) (hears.bits u low) ∙ sym (more u);
}

same_eq : (a b : ℕ) → (a == b) ≡ (b == a)
same_eq a b =
    elim (cases_eq a b) [
      | inl same ↦ eq-eqb a b same ∙ sym (eq-eqb b a (sym same))
      | inr apart ↦ ne_eqb a b apart ∙ sym (ne_eqb b a (λ same. apart (sym same)))
    ]

either : (a b : Bool) → (b || (a || false)) ≡ (a || b)
either true true = refl
either true false = refl
either false true = refl
either false false = refl

any_more : (u : ℕ) (ss : List Stream) (y : Stream) → any u (ss ++ y ∷ []) ≡ ((u == y.universe) || any u ss)
any_more u ss y =
    list_any-append (λ (s : Stream). s.universe == u) ss (y ∷ []) ∙ ap (λ (b : Bool). any u ss || (b || false)) (same_eq y.universe u) ∙ either (u == y.universe) (any u ss)

among : (u i : ℕ) (ss : List Stream) (s : Stream) → slice_get ss i ≡ Some s → any u ss ≡ ((u == s.universe) || any u ss)
among u i ss s there =
    elim (cases_eq u s.universe) [
      | inl same ↦ ap (λ (v : ℕ). any v ss) same ∙ any_at i ss s there ∙ sym (ap (λ (b : Bool). b || any u ss) (eq-eqb u s.universe same))
      | inr apart ↦ sym (ap (λ (b : Bool). b || any u ss) (ne_eqb u s.universe apart))
    ]

-- ---- a loss

contest_hears : (o : Option ℕ) (n : Ledger) → (with_contest_in o n).heard ≡ n.heard
unfolding with_contest
contest_hears None n = refl
contest_hears (Some universe) n = refl

loss_hears : (o : Option ℕ) (n : Ledger) → (after_loss o n).heard ≡ n.heard
loss_hears None n = refl
loss_hears (Some place) n = contest_hears (universe_of (slice_get n.monitor.streams place)) n

end_hears : (t : ℕ) (n : Ledger) → (after_end t n).heard ≡ n.heard
unfolding after_end
end_hears t n = loss_hears (lost_place t n) (at_end t n)

hears_as : (a b : List ℕ) (ss zs : List Stream) → b ≡ a → zs ≡ ss → Hears a ss → Hears b zs
hears_as a b ss zs heard streams hears = subst (λ (l : List ℕ). Hears l zs) (sym heard) (subst (λ (l : List Stream). Hears a l) (sym streams) hears)

abbrev Agrees : Ledger → Type 0
Agrees n = Hears n.heard n.monitor.streams

end_agrees : (t : ℕ) (n : Ledger) → Agrees n → Agrees (after_end t n)
end_agrees t n hears =
    let place : Option ℕ = silent_place (after_tick (next_end t n) n.monitor).moment n.monitor.streams in
    hears_as n.heard (after_end t n).heard (told_at place n.monitor.streams) (after_end t n).monitor.streams (end_hears t n) (ap (λ (b : Book). b.streams) (end_keeps t n))
    (hears_still n.heard n.monitor.streams (told_at place n.monitor.streams) (λ u. any_told u place n.monitor.streams) hears)

silenced_agrees : (steps t : ℕ) (n : Ledger) → Agrees n → Agrees (silenced steps t n)
unfolding silenced
silenced_agrees zero t n hears = hears
silenced_agrees (suc steps) t n hears =
    elim (is_some (lost_place t n)) as (λ more. Agrees (cond more (silenced steps t (after_end t n)) (after_end t n))) [
      | true ↦ silenced_agrees steps t (after_end t n) (end_agrees t n hears)
      | false ↦ end_agrees t n hears
    ]

-- ---- lights

outs_hear : (before : ℕ) (ss : List Stream) (n : Ledger) → (after_outs before ss n).heard ≡ n.heard
unfolding after_outs
outs_hear before [] n = refl
outs_hear before (s ∷ ss) n =
    let o : Option ℕ = out_universe before n.monitor.moment (Some s) in
    outs_hear before ss (with_contest_in o n) ∙ contest_hears o n

light_hears : (t : ℕ) (n : Ledger) → (after_light t n).heard ≡ (silenced MOST_STEPS t n).heard
unfolding after_light
light_hears t n = let m : Ledger = silenced MOST_STEPS t n in outs_hear n.monitor.moment m.monitor.streams m

light_agrees : (t : ℕ) (n : Ledger) → Agrees n → Agrees (after_light t n)
light_agrees t n hears =
    let m : Ledger = silenced MOST_STEPS t n in
    hears_as m.heard (after_light t n).heard m.monitor.streams (after_light t n).monitor.streams (light_hears t n) (ap (λ (b : Book). b.streams) (light_keeps t n)) (silenced_agrees MOST_STEPS t n hears)

ends_agree : (steps t : ℕ) (n : Ledger) → Agrees n → Agrees (after_ends steps t n)
unfolding after_ends
ends_agree zero t n hears = silenced_agrees MOST_STEPS t n hears
ends_agree (suc steps) t n hears =
    let at : ℕ = light_end_of n.monitor in
    let m : Ledger = after_light at n in
    elim (comes_by t at) as (λ b. Agrees (cond b (after_ends steps t m) (silenced MOST_STEPS t n))) [
      | true ↦ ends_agree steps t m (light_agrees at n hears)
      | false ↦ silenced_agrees MOST_STEPS t n hears
    ]

-- ---- a packet

abbrev heard_after : Option ℕ → List ℕ → List ℕ
heard_after None heard = heard
heard_after (Some universe) heard = marked universe true heard

stirred_heard : (o : Option ℕ) (n : Ledger) → (stirred o n).heard ≡ heard_after o n.heard
unfolding stirred with_contest
stirred_heard None n = refl
stirred_heard (Some universe) n = refl

abbrev noted_heard : Noted → List Stream → List ℕ → List ℕ
noted_heard (noted.Refused fault) ss heard = heard
noted_heard noted.Page ss heard = heard
noted_heard noted.Sync ss heard = heard
noted_heard noted.Untracked ss heard = heard
noted_heard (noted.Heard place news) ss heard = heard_after (stirred_universe (slice_get ss place) news) heard

noted_hears : (x : Noted) (n : Ledger) → (after_noted x n).heard ≡ noted_heard x n.monitor.streams n.heard
unfolding after_noted
noted_hears (noted.Refused fault) n = refl
noted_hears noted.Page n = refl
noted_hears noted.Sync n = refl
noted_hears noted.Untracked n = refl
noted_hears (noted.Heard place news) n = stirred_heard (stirred_universe (slice_get n.monitor.streams place) news) n

module _ (sender : Endpoint) (d : Data) (b : Book) (heard : List ℕ) (hears : Hears heard b.streams) where
  first_stirs : (terminated : Bool) (y : Stream) → y.account.ended ≡ terminated → stirred_universe (Some y) (quiet (first_event terminated)) ≡ Some y.universe
  first_stirs true y ends = ap (λ (e : Bool). cond (false || e || false) (Some y.universe) None) ends
  first_stirs false y ends = refl

  appeared : (y : Stream) → y.account.ended ≡ d.terminated → Hears (heard_after (stirred_universe (slice_get (b.streams ++ y ∷ []) (length b.streams)) (quiet (first_event d.terminated))) heard) (b.streams ++ y ∷ [])
  appeared y ends =
      let there : stirred_universe (slice_get (b.streams ++ y ∷ []) (length b.streams)) (quiet (first_event d.terminated)) ≡ Some y.universe =
      ap (λ (o : Option Stream). stirred_universe o (quiet (first_event d.terminated))) (last_there b.streams y) ∙ first_stirs d.terminated y ends in
      subst (λ (o : Option ℕ). Hears (heard_after o heard) (b.streams ++ y ∷ [])) (sym there) (hears_one heard b.streams (b.streams ++ y ∷ []) y.universe (λ u. any_more u b.streams y) hears)

  stirs_on : (stirring : Bool) (i : ℕ) (s y : Stream) → slice_get b.streams i ≡ Some s → y.universe ≡ s.universe → Hears (heard_after (cond stirring (Some y.universe) None) heard) (set b.streams i y)
  stirs_on true i s y there same =
      hears_one heard b.streams (set b.streams i y) y.universe
      (λ u. any_set u i b.streams s y there same ∙ among u i b.streams s there ∙ ap (λ (v : ℕ). (u == v) || any u b.streams) (sym same)) hears
  stirs_on false i s y there same = hears_still heard b.streams (set b.streams i y) (λ u. any_set u i b.streams s y there same) hears

  heard_on : (i : ℕ) (o : Option Stream) → slice_get b.streams i ≡ o
      → Hears (noted_heard (news_at b.moment sender d i o) (changed (stream_after b.moment sender d) i b.streams o) heard) (changed (stream_after b.moment sender d) i b.streams o)
  heard_on i None is = hears
  heard_on i (Some s) is =
      let y : Stream = stream_after b.moment sender d s in
      let news : News = news_of b.moment sender d s.account in
      let there : stirred_universe (slice_get (set b.streams i y) i) news ≡ stirred_universe (Some y) news = ap (λ (o : Option Stream). stirred_universe o news) (set_there b.streams i y (slice_get_within b.streams i s is)) in
      subst (λ (o : Option ℕ). Hears (heard_after o heard) (set b.streams i y)) (sym there) (stirs_on (stirs y news) i s y is refl)

  first_ends : (first_stream b.moment sender d).account.ended ≡ d.terminated
  unfolding first_account
  first_ends = refl

  data_hears : (o : Option ℕ) → Hears (noted_heard (noted_data sender d b o) (after_data sender d b o).streams heard) (after_data sender d b o).streams
  unfolding noted_data after_data
  data_hears None =
      elim (ltb (length b.streams) MAX_STREAMS) as (λ room. let c : Book = cond room (record b { streams = b.streams ++ first_stream b.moment sender d ∷ [] }) (untracked b) in
      Hears (noted_heard (cond room (noted.Heard (length b.streams) (quiet (first_event d.terminated))) noted.Untracked) c.streams heard) c.streams) [
        | true ↦ appeared (first_stream b.moment sender d) first_ends
        | false ↦ hears
      ]
  data_hears (Some i) = heard_on i (slice_get b.streams i) refl

read_hears : (sender : Endpoint) (b : Book) (r : Result Packet PacketFault) (heard : List ℕ) → Hears heard b.streams
    → Hears (noted_heard (noted_packet sender b r) (after_read sender b r).streams heard) (after_read sender b r).streams
read_hears sender b (Ok (DataPacket d)) heard hears = data_hears sender d b heard hears (place_of d.universe d.cid b.streams)
read_hears sender b (Ok (PagePacket p)) heard hears = hears
read_hears sender b (Ok SyncPacket) heard hears = hears
read_hears sender b (Err fault) heard hears = hears

-- ---- calls

agrees_after : (calls : List Call) → Agrees (network_after calls)
agrees_after [] = record { long = none_length; bits = λ u low. has_none u }
agrees_after (Tick now ∷ earlier) = ends_agree MOST_LIGHTS _ (network_after earlier) (agrees_after earlier)
agrees_after (Take now sender octets ∷ earlier) =
    let m : Ledger = ticked now (network_after earlier) in
    let reading : Result Packet PacketFault = reading_packet octets in
    let x : Noted = note_of now sender reading m in
    let h : Ledger = handed now sender reading m in
    hears_as (noted_heard x h.monitor.streams m.heard) (after_noted x h).heard h.monitor.streams (after_noted x h).monitor.streams (noted_hears x h) (ap (λ (b : Book). b.streams) (noted_keeps x h))
    (read_hears sender (with_datagram now m.monitor) reading m.heard (ends_agree MOST_LIGHTS _ (network_after earlier) (agrees_after earlier)))

pub heard_where_a_source_is : IsHeardWhereASourceIs
heard_where_a_source_is calls universe low = (agrees_after calls).bits universe low

-- The universes that are contested are those of which it was told last.
use Rattle.std.proofs.Common.{◌≡◌, ◌<◌, ◌^◌, ℕ, zero, suc, max, Bool, true, false, ◌==◌, cond, is_some, List, [], ◌∷◌, ◌++◌, length, slice_get, Option, None, Some, Result, refl, sym, ap, ◌∙◌, inl, inr, eq-eqb, ne_eqb}
use Rattle.std.proofs.lemmas.Bool.{cases_eq}
use Rattle.sacn_packets.specs.declared.root.fault.PacketFault.{PacketFault}
use Rattle.sacn_packets.specs.declared.framing.packet.Packet.{Packet}
use Rattle.sacn_packets.specs.PacketReading.{reading_packet}
use Rattle.sacn_monitor.specs.declared.account.Endpoint.{Endpoint}
use Rattle.sacn_monitor.specs.declared.news.News.{News}
use Rattle.sacn_monitor.specs.declared.news.Noted.{Noted}
use Rattle.sacn_monitor.specs.declared.news.Noted.TheVariants as noted
use Rattle.sacn_monitor.specs.declared.stream.Stream.{Stream}
use Rattle.sacn_monitor.specs.Histories.{Call, Take, Tick}
use Rattle.sacn_network.specs.declared.ledger.Ledger.{Ledger}
use Rattle.sacn_network.specs.declared.ledger.TheConstants.{MOST_STEPS}
use Rattle.sacn_network.specs.Telling.{Told}
use Rattle.sacn_network.specs.declared.occurrence.What.TheVariants.{Heard}
use Rattle.sacn_network.specs.declared.universe_set.TheConstants.{WORDS}
use Rattle.sacn_network.specs.Sets.{has_bit, is_otherwise, marked}
use Rattle.sacn_network.specs.Calls.{IsContestedAsTold, contested_by, contested_from, network_after, told_by}
use Rattle.sacn_network.specs.Contests.{contest_in, contest_of, contest_told, is_contested, universe_of, with_contest, with_contest_in}
use Rattle.sacn_network.specs.Losses.{after_end, after_loss, at_end, end_told, lost_place, loss_told, silence_told, silenced}
use Rattle.sacn_network.specs.declared.light_ends.TheConstants.{MOST_LIGHTS}
use Rattle.sacn_network.specs.LightEnds.{after_ends, after_light, after_outs, comes_by, ends_told, light_end_of, light_told, out_universe, outs_told}
use Rattle.sacn_network.specs.Networks.{handed, note_of, ticked, tick_told}
use Rattle.sacn_network.specs.Packets.{after_noted, news_told, noted_told, now_told, stirred, stirred_universe, tells_nothing}
use Rattle.sacn_network.proofs.Bits.{as_before, has_none, marked_length, marks_one, none_length}

told_on : (u : ℕ) (b : Bool) (xs ys : List Told) → contested_by u b (xs ++ ys) ≡ contested_by u (contested_by u b xs) ys
told_on u b [] ys = refl
told_on u b (x ∷ xs) ys = told_on u (contested_from u b x.occurrence.what) xs ys

-- after these occurrences a set is as they tell, where it was as it was told before
record Follows (old new : List ℕ) (more : List Told) : Type 0 where
  long : length old ≡ WORDS → length new ≡ WORDS
  bits : length old ≡ WORDS → (u : ℕ) → u < 2 ^ 16 → has_bit new u ≡ contested_by u (has_bit old u) more

still : (a : List ℕ) → Follows a a []
still a = record { long = λ l. l; bits = λ l u low. refl }

both : (a b c : List ℕ) (xs ys : List Told) → Follows a b xs → Follows b c ys → Follows a c (xs ++ ys)
both a b c xs ys first next = record {
  long = λ l. next.long (first.long l);
  bits = λ l u low. next.bits (first.long l) u low ∙ ap (λ (x : Bool). contested_by u x ys) (first.bits l u low) ∙ sym (told_on u (has_bit a u) xs ys);
}

-- ---- a contest

chosen : (u universe : ℕ) (is_in : Bool) (words : List ℕ) (is : has_bit words universe ≡ is_in) → cond (u == universe) is_in (has_bit words u) ≡ has_bit words u
chosen u universe is_in words is =
    elim (cases_eq u universe) [
      | inl same ↦ ap (λ (b : Bool). cond b is_in (has_bit words u)) (eq-eqb u universe same) ∙ sym is ∙ ap (has_bit words) (sym same)
      | inr apart ↦ ap (λ (b : Bool). cond b is_in (has_bit words u)) (ne_eqb u universe apart)
    ]

contest_follows_by : (changes : Bool) (universe : ℕ) (n : Ledger) → is_otherwise (is_contested universe n.monitor) (has_bit n.contested universe) ≡ changes
    → Follows n.contested (marked universe (is_contested universe n.monitor) n.contested) (cond changes (contest_of universe n.monitor ∷ []) [])
contest_follows_by true universe n is = record {
  long = λ l. marked_length n.contested universe (is_contested universe n.monitor) ∙ l;
  bits = λ l u low. marks_one n.contested universe (is_contested universe n.monitor) u l low;
}
contest_follows_by false universe n is = record {
  long = λ l. marked_length n.contested universe (is_contested universe n.monitor) ∙ l;
  bits = λ l u low.
      marks_one n.contested universe (is_contested universe n.monitor) u l low
      ∙ chosen u universe (is_contested universe n.monitor) n.contested (as_before (is_contested universe n.monitor) (has_bit n.contested universe) is);
}

contest_follows : (universe : ℕ) (n : Ledger) → Follows n.contested (with_contest universe n).contested (contest_told universe n)
unfolding contest_told with_contest
contest_follows universe n = contest_follows_by (is_otherwise (is_contested universe n.monitor) (has_bit n.contested universe)) universe n refl

in_follows : (o : Option ℕ) (n : Ledger) → Follows n.contested (with_contest_in o n).contested (contest_in o n)
in_follows None n = still n.contested
in_follows (Some universe) n = contest_follows universe n

-- ---- silence

loss_follows : (o : Option ℕ) (n : Ledger) → Follows n.contested (after_loss o n).contested (loss_told o n)
loss_follows None n = still n.contested
loss_follows (Some place) n = let rest = in_follows (universe_of (slice_get n.monitor.streams place)) n in record { long = rest.long; bits = rest.bits }

end_follows : (t : ℕ) (n : Ledger) → Follows n.contested (after_end t n).contested (end_told t n)
unfolding after_end end_told
end_follows t n = loss_follows (lost_place t n) (at_end t n)

silence_follows : (steps t : ℕ) (n : Ledger) → Follows n.contested (silenced steps t n).contested (silence_told steps t n)
unfolding silenced silence_told
silence_follows zero t n = still n.contested
silence_follows (suc steps) t n =
    let m : Ledger = after_end t n in
    elim (is_some (lost_place t n)) as (λ more. Follows n.contested (cond more (silenced steps t m) m).contested (end_told t n ++ cond more (silence_told steps t m) [])) [
      | true ↦ both n.contested m.contested (silenced steps t m).contested (end_told t n) (silence_told steps t m) (end_follows t n) (silence_follows steps t m)
      | false ↦ both n.contested m.contested m.contested (end_told t n) [] (end_follows t n) (still m.contested)
    ]

-- ---- lights

outs_follow : (before : ℕ) (ss : List Stream) (n : Ledger) → Follows n.contested (after_outs before ss n).contested (outs_told before ss n)
unfolding after_outs outs_told
outs_follow before [] n = still n.contested
outs_follow before (s ∷ ss) n =
    let o : Option ℕ = out_universe before n.monitor.moment (Some s) in
    let m : Ledger = with_contest_in o n in
    both n.contested m.contested (after_outs before ss m).contested (contest_in o n) (outs_told before ss m) (in_follows o n) (outs_follow before ss m)

light_follows : (t : ℕ) (n : Ledger) → Follows n.contested (after_light t n).contested (light_told t n)
unfolding after_light light_told
light_follows t n =
    let m : Ledger = silenced MOST_STEPS t n in
    both n.contested m.contested (after_outs n.monitor.moment m.monitor.streams m).contested (silence_told MOST_STEPS t n) (outs_told n.monitor.moment m.monitor.streams m)
    (silence_follows MOST_STEPS t n) (outs_follow n.monitor.moment m.monitor.streams m)

ends_follow : (steps t : ℕ) (n : Ledger) → Follows n.contested (after_ends steps t n).contested (ends_told steps t n)
unfolding after_ends ends_told
ends_follow zero t n = silence_follows MOST_STEPS t n
ends_follow (suc steps) t n =
    let at : ℕ = light_end_of n.monitor in
    let m : Ledger = after_light at n in
    elim (comes_by t at) as (λ b. Follows n.contested (cond b (after_ends steps t m) (silenced MOST_STEPS t n)).contested (cond b (light_told at n ++ ends_told steps t m) (silence_told MOST_STEPS t n))) [
      | true ↦ both n.contested m.contested (after_ends steps t m).contested (light_told at n) (ends_told steps t m) (light_follows at n) (ends_follow steps t m)
      | false ↦ silence_follows MOST_STEPS t n
    ]

-- ---- a datagram

stirred_follows : (o : Option ℕ) (n : Ledger) → Follows n.contested (stirred o n).contested (contest_in o n)
unfolding stirred with_contest contest_told
stirred_follows None n = still n.contested
stirred_follows (Some universe) n = contest_follows universe n

news_follow_by : (nothing : Bool) (place : ℕ) (news : News) (n : Ledger) → Follows n.contested n.contested (cond nothing [] (now_told (Heard place news) n))
news_follow_by true place news n = still n.contested
news_follow_by false place news n = record { long = λ l. l; bits = λ l u low. refl }

news_follow : (place : ℕ) (news : News) (n : Ledger) → Follows n.contested n.contested (news_told place news n)
unfolding news_told
news_follow place news n = news_follow_by (tells_nothing news) place news n

noted_follows : (sender : Endpoint) (x : Noted) (n : Ledger) → Follows n.contested (after_noted x n).contested (noted_told sender x n)
unfolding after_noted noted_told
noted_follows sender (noted.Refused fault) n = record { long = λ l. l; bits = λ l u low. refl }
noted_follows sender noted.Page n = still n.contested
noted_follows sender noted.Sync n = still n.contested
noted_follows sender noted.Untracked n = record { long = λ l. l; bits = λ l u low. refl }
noted_follows sender (noted.Heard place news) n =
    let o : Option ℕ = stirred_universe (slice_get n.monitor.streams place) news in
    both n.contested n.contested (stirred o n).contested (news_told place news n) (contest_in o n) (news_follow place news n) (stirred_follows o n)

-- ---- calls

from_none : (calls : List Call) → Follows (network_after []).contested (network_after calls).contested (told_by calls)
from_none [] = still (network_after []).contested
from_none (Tick now ∷ earlier) =
    let n : Ledger = network_after earlier in
    both (network_after []).contested n.contested (ticked now n).contested (told_by earlier) (tick_told now n) (from_none earlier) (ends_follow MOST_LIGHTS (max n.monitor.moment now) n)
from_none (Take now sender octets ∷ earlier) =
    let n : Ledger = network_after earlier in
    let m : Ledger = ticked now n in
    let reading : Result Packet PacketFault = reading_packet octets in
    let x : Noted = note_of now sender reading m in
    let h : Ledger = handed now sender reading m in
    let tick : Follows n.contested m.contested (tick_told now n) = ends_follow MOST_LIGHTS (max n.monitor.moment now) n in
    both (network_after []).contested n.contested (after_noted x h).contested (told_by earlier) (tick_told now n ++ noted_told sender x h) (from_none earlier)
    (both n.contested m.contested (after_noted x h).contested (tick_told now n) (noted_told sender x h) tick (noted_follows sender x h))

pub contested_as_told : IsContestedAsTold
contested_as_told calls universe low =
    (from_none calls).bits none_length universe low ∙ ap (λ (b : Bool). contested_by universe b (told_by calls)) (has_none universe)

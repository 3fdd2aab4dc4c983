-- What is due is a packet as reading finds it: its fields are in range.
use Rattle.std.proofs.Common.{◌≡◌, ℕ, zero, suc, ◌-◌, ◌*◌, ◌^◌, ◌<◌, ◌≤◌, Bool, true, false, cond, List, [], ◌∷◌, length, take, drop, map, Option, Some, None, refl, subst, arith, length-take, nat_lt, nat_le}
use Rattle.std.specs.Prelude.{get_or, if◌then◌else◌, filter, find, not}
use Rattle.std.specs.Option.{option_map}
use Rattle.std.specs.List.{AllByRecursion}
use Rattle.std.proofs.lemmas.Bool.{ltb-true}
use Rattle.std.proofs.lemmas.Option.{same_Some}
use Rattle.sacn_packets.specs.Data.{IsData}
use Rattle.sacn_packets.specs.Page.{IsPage}
use Rattle.sacn_discovery.specs.Pages.{page_count, page_of_list}
use Rattle.sacn_packets.specs.Universe.{IsUniverse}
use Rattle.sacn_console.specs.Lights.{Lights}
use Rattle.sacn_console.specs.Lines.{Page, Datagram, Paged, line_due, is_stopped}
use Rattle.sacn_console.specs.Core.{Core, IsLawful, at, due, due_by, line_found, page_by, page_due, standing, packet_with, packet_of, universes_of}
use Rattle.sacn_console.specs.declared.sender.Sender.{Sender}
use Rattle.sacn_console.specs.declared.line.UniverseLine.{UniverseLine}
use Rattle.sacn_console.specs.declared.line.Begun.{Begun}
use Rattle.sacn_console.proofs.Changes.{frame_len}
use Rattle.sacn_console.proofs.Dues.{page_counted}
use Rattle.sacn_console.specs.declared.limits.TheConstants.{DISCOVERY_INTERVAL}

-- ---- packets

line_in : (ls : List UniverseLine) (test : UniverseLine → Bool) (l : UniverseLine) → AllByRecursion IsUniverse (universes_of ls) → find test ls ≡ Some l → IsUniverse l.universe
line_in [] test l all e = absurd (cc)
line_in (x ∷ ls) test l all e =
    elim (test x) as (λ b. cond b (Some x) (find test ls) ≡ Some l → IsUniverse l.universe) [
      | true ↦ λ f. subst (λ (y : UniverseLine). IsUniverse y.universe) (same_Some x l f) all.0
      | false ↦ λ f. line_in ls test l all.1 f
    ] e

lawful_packet : (sender : Sender) (p : Lights) (t : ℕ) (l : UniverseLine) → length sender.cid ≡ 16 → length sender.name ≡ 64 → sender.priority ≤ 200 → IsUniverse l.universe → IsData (packet_of sender p t l)
unfolding packet_with
lawful_packet sender p t l cid name priority u = record {
  cid = cid;
  name = name;
  priority = priority;
  universe = u;
  slots = let e = frame_len p l.universe t in omega (arith, e);
}

-- ---- pages

small_all : (us : List ℕ) → AllByRecursion IsUniverse us → AllByRecursion (λ n. n < 2 ^ 16) us
small_all [] all = tt
small_all (u ∷ us) all = (let h = all.0.1 in omega (arith, h), small_all us all.1)

standing_of : (ls : List UniverseLine) → AllByRecursion IsUniverse (universes_of ls) → AllByRecursion IsUniverse (standing ls)
unfolding standing
standing_of [] all = tt
standing_of (l ∷ ls) all =
    elim (not (is_stopped l.state)) as (λ b. AllByRecursion IsUniverse (map (λ (x : UniverseLine). x.universe) (cond b (l ∷ filter (λ x. not (is_stopped x.state)) ls) (filter (λ x. not (is_stopped x.state)) ls)))) [
      | true ↦ (all.0, standing_of ls all.1)
      | false ↦ standing_of ls all.1
    ]

all_take : (P : ℕ → Type 0) (n : ℕ) (xs : List ℕ) → AllByRecursion P xs → AllByRecursion P (take n xs)
all_take P zero xs all = tt
all_take P (suc n) [] all = tt
all_take P (suc n) (x ∷ xs) all = (all.0, all_take P n xs all.1)

all_drop : (P : ℕ → Type 0) (n : ℕ) (xs : List ℕ) → AllByRecursion P xs → AllByRecursion P (drop n xs)
all_drop P zero xs all = all
all_drop P (suc n) [] all = tt
all_drop P (suc n) (x ∷ xs) all = all_drop P n xs all.1

lawful_page : (sender : Sender) (list : List ℕ) (k : ℕ) → length sender.cid ≡ 16 → length sender.name ≡ 64 → k < page_count (length list) → AllByRecursion (λ n. n < 2 ^ 16) list → IsPage (page_of_list list k sender.cid sender.name)
lawful_page sender list k cid name there small = record {
  cid = cid;
  name = name;
  page = omega (arith, there);
  count = let l = length-take 512 (drop (512 * k) list) in omega (arith, l);
  numbers = all_take (λ n. n < 2 ^ 16) 512 (drop (512 * k) list) (all_drop (λ n. n < 2 ^ 16) (512 * k) list small);
}

paged_inside : (a b : Page) → ◌≡◌ {A = Datagram} (Paged a) (Paged b) → a ≡ b
paged_inside a b e = cc

module _ (sender : Sender) (cid : length sender.cid ≡ 16) (name : length sender.name ≡ 64) where
  lawful_first : (all : List ℕ) → AllByRecursion (λ n. n < 2 ^ 16) all → IsLawful sender (Paged (record { list = all; page = 0 }))
  lawful_first all small = lawful_page sender all 0 cid name (page_counted (length all)) small

  lawful_by : (t : ℕ) (all listed : List ℕ) (b : Option Begun) (p : Page) → AllByRecursion (λ n. n < 2 ^ 16) all → AllByRecursion (λ n. n < 2 ^ 16) listed → page_by t all listed b ≡ Some p → IsLawful sender (Paged p)
  lawful_by t all listed None p small kept e = subst (λ (q : Page). IsLawful sender (Paged q)) (same_Some _ _ e) (lawful_first all small)
  lawful_by t all listed (Some b) p small kept e =
      elim (nat_lt b.next (page_count (length listed))) as (λ x. nat_lt b.next (page_count (length listed)) ≡ x → (if x then Some (record { list = listed; page = b.next }) else (if nat_le DISCOVERY_INTERVAL (t - b.moment) then Some (record { list = all; page = 0 }) else None)) ≡ Some p → IsLawful sender (Paged p)) [
        | true ↦ λ lt f. subst (λ (q : Page). IsLawful sender (Paged q)) (same_Some _ _ f) (lawful_page sender listed b.next cid name (ltb-true _ _ lt) kept)
        | false ↦ λ lt f. elim (nat_le DISCOVERY_INTERVAL (t - b.moment)) as (λ x. (if x then Some (record { list = all; page = 0 }) else None) ≡ Some p → IsLawful sender (Paged p)) [
          | true ↦ λ g. subst (λ (q : Page). IsLawful sender (Paged q)) (same_Some _ _ g) (lawful_first all small)
          | false ↦ λ g. absurd (cc)
        ] f
      ] refl e

  lawful_paged : (o : Option Page) (d : Datagram) → ((p : Page) → o ≡ Some p → IsLawful sender (Paged p)) → option_map Paged o ≡ Some d → IsLawful sender d
  lawful_paged None d h e = absurd (cc)
  lawful_paged (Some p) d h e = subst (IsLawful sender) (same_Some _ _ e) (h p refl)

-- ---- what is due

lawful_due : (c : Core) → length c.sender.cid ≡ 16 → length c.sender.name ≡ 64 → c.sender.priority ≤ 200 → AllByRecursion IsUniverse (universes_of c.lines) → AllByRecursion (λ n. n < 2 ^ 16) c.listed → (d : Datagram) → due c ≡ Some d → IsLawful c.sender d
unfolding due line_found page_due
lawful_due c cid name priority us listed d e =
    elim (find (line_due c.lights c.moment) c.lines) as (λ o. find (line_due c.lights c.moment) c.lines ≡ o → due_by c o ≡ Some d → IsLawful c.sender d) [
      | Some l ↦ λ found f. subst (IsLawful c.sender) (same_Some _ _ f) (lawful_packet c.sender c.lights c.moment l cid name priority (line_in c.lines _ l us found))
      | None ↦ λ found f. lawful_paged c.sender cid name (page_due c) d (λ p g. lawful_by c.sender cid name c.moment (standing c.lines) c.listed c.cycle p (small_all _ (standing_of c.lines us)) listed g) f
    ] refl e

pub lawful : (v c : Core) (now : ℕ) → v ≡ c → length v.sender.cid ≡ 16 → length v.sender.name ≡ 64 → v.sender.priority ≤ 200 → AllByRecursion IsUniverse (universes_of v.lines) → AllByRecursion (λ n. n < 2 ^ 16) v.listed → (d : Datagram) → due (at now c) ≡ Some d → IsLawful c.sender d
lawful v c now is cid name priority us listed d e =
    subst (λ (k : Core). due (at now k) ≡ Some d → IsLawful k.sender d) is (lawful_due (at now v) cid name priority us listed d) e

pub small_each : (xs : List ℕ) → ((i : ℕ) → get_or xs i 0 < 65536) → AllByRecursion (λ n. n < 2 ^ 16) xs
small_each [] all = tt
small_each (x ∷ xs) all = (let h = all 0 in omega (arith, h), small_each xs (λ i. all (suc i)))

-- What is due is a packet as reading finds it: its fields are in range.
use Rattle.std.proofs.Common.{◌≡◌, ℕ, zero, suc, ◌-◌, ◌*◌, ◌^◌, ◌<◌, Bool, true, false, cond, List, [], ◌∷◌, length, take, drop, map, Option, Some, None, refl, subst, arith, length-take, nat_lt, nat_le}
use Rattle.std.specs.Prelude.{if◌then◌else◌, filter, find, not}
use Rattle.std.specs.Option.{option_map}
use Rattle.std.specs.List.{AllByRecursion}
use Rattle.std.proofs.lemmas.Bool.{ltb-true}
use Rattle.std.proofs.lemmas.Option.{same_Some}
use Rattle.sacn_packets.specs.Data.{IsData}
use Rattle.sacn_packets.specs.Page.{IsPage}
use Rattle.sacn_discovery.specs.Pages.{page_count, page_of_list}
use Rattle.sacn_console.specs.Lines.{Page, Datagram, Paged, is_stopped}
use Rattle.sacn_console.specs.Core.{IsLawful, page_by, packet_with}
use Rattle.sacn_console.specs.declared.sender.Sender.{Sender}
use Rattle.sacn_console.specs.declared.line.Begun.{Begun}
use Rattle.sacn_console.specs.declared.limits.TheConstants.{DISCOVERY_INTERVAL}
use Rattle.sacn_console.proofs.Dues.{page_counted}
use Rattle.sacn_source.specs.declared.source_universe.SourceUniverse.{SourceUniverse}
use Rattle.sacn_source.specs.Rows.{row_due}
use Rattle.sacn_source.specs.Table.{RowOk, standing}
use Rattle.sacn_source.specs.Source.{Source, at, due, due_by, row_found, page_due, packet_of}

-- ---- packets

row_in : (rs : List SourceUniverse) (test : SourceUniverse → Bool) (r : SourceUniverse) → AllByRecursion RowOk rs → find test rs ≡ Some r → RowOk r
row_in [] test r all e = absurd (cc)
row_in (x ∷ rs) test r all e =
    elim (test x) as (λ b. cond b (Some x) (find test rs) ≡ Some r → RowOk r) [
      | true ↦ λ f. subst (λ (y : SourceUniverse). RowOk y) (same_Some x r f) all.0
      | false ↦ λ f. row_in rs test r all.1 f
    ] e

lawful_packet : (sender : Sender) (r : SourceUniverse) → length sender.cid ≡ 16 → length sender.name ≡ 64 → RowOk r → IsData (packet_of sender r)
unfolding packet_of packet_with
lawful_packet sender r cid name ok = record {
  cid = cid;
  name = name;
  priority = ok.priority;
  universe = ok.universe;
  slots = let e = ok.levels in omega (arith, e);
}

-- ---- pages

small_standing : (rs : List SourceUniverse) → AllByRecursion RowOk rs → AllByRecursion (λ n. n < 2 ^ 16) (standing rs)
unfolding standing
small_standing [] all = tt
small_standing (r ∷ rs) all =
    elim (not (is_stopped r.line.state)) as (λ b. AllByRecursion (λ n. n < 2 ^ 16) (map (λ (x : SourceUniverse). x.line.universe) (cond b (r ∷ filter (λ x. not (is_stopped x.line.state)) rs) (filter (λ x. not (is_stopped x.line.state)) rs)))) [
      | true ↦ (let h = all.0.universe.1 in omega (arith, h), small_standing rs all.1)
      | false ↦ small_standing rs all.1
    ]

all_take : (P : ℕ → Type 0) (n : ℕ) (xs : List ℕ) → AllByRecursion P xs → AllByRecursion P (take n xs)
all_take P zero xs all = tt
all_take P (suc n) [] all = tt
all_take P (suc n) (x ∷ xs) all = (all.0, all_take P n xs all.1)

all_drop : (P : ℕ → Type 0) (n : ℕ) (xs : List ℕ) → AllByRecursion P xs → AllByRecursion P (drop n xs)
all_drop P zero xs all = all
all_drop P (suc n) [] all = tt
all_drop P (suc n) (x ∷ xs) all = all_drop P n xs all.1

lawful_page : (sender : Sender) (list : List ℕ) (k : ℕ) → length sender.cid ≡ 16 → length sender.name ≡ 64 → k < page_count (length list) → AllByRecursion (λ n. n < 2 ^ 16) list → IsPage (page_of_list list k sender.cid sender.name)
lawful_page sender list k cid name there small = record {
  cid = cid;
  name = name;
  page = omega (arith, there);
  count = let l = length-take 512 (drop (512 * k) list) in omega (arith, l);
  numbers = all_take (λ n. n < 2 ^ 16) 512 (drop (512 * k) list) (all_drop (λ n. n < 2 ^ 16) (512 * k) list small);
}

module _ (sender : Sender) (cid : length sender.cid ≡ 16) (name : length sender.name ≡ 64) where
  lawful_first : (all : List ℕ) → AllByRecursion (λ n. n < 2 ^ 16) all → IsLawful sender (Paged (record { list = all; page = 0 }))
  lawful_first all small = lawful_page sender all 0 cid name (page_counted (length all)) small

  lawful_by : (t : ℕ) (all listed : List ℕ) (b : Option Begun) (p : Page) → AllByRecursion (λ n. n < 2 ^ 16) all → AllByRecursion (λ n. n < 2 ^ 16) listed → page_by t all listed b ≡ Some p → IsLawful sender (Paged p)
  lawful_by t all listed None p small kept e = subst (λ (q : Page). IsLawful sender (Paged q)) (same_Some _ _ e) (lawful_first all small)
  lawful_by t all listed (Some b) p small kept e =
      elim (nat_lt b.next (page_count (length listed))) as (λ x. nat_lt b.next (page_count (length listed)) ≡ x → (if x then Some (record { list = listed; page = b.next }) else (if nat_le DISCOVERY_INTERVAL (t - b.moment) then Some (record { list = all; page = 0 }) else None)) ≡ Some p → IsLawful sender (Paged p)) [
        | true ↦ λ lt f. subst (λ (q : Page). IsLawful sender (Paged q)) (same_Some _ _ f) (lawful_page sender listed b.next cid name (ltb-true _ _ lt) kept)
        | false ↦ λ lt f. elim (nat_le DISCOVERY_INTERVAL (t - b.moment)) as (λ x. (if x then Some (record { list = all; page = 0 }) else None) ≡ Some p → IsLawful sender (Paged p)) [
          | true ↦ λ g. subst (λ (q : Page). IsLawful sender (Paged q)) (same_Some _ _ g) (lawful_first all small)
          | false ↦ λ g. absurd (cc)
        ] f
      ] refl e

  lawful_paged : (o : Option Page) (d : Datagram) → ((p : Page) → o ≡ Some p → IsLawful sender (Paged p)) → option_map Paged o ≡ Some d → IsLawful sender d
  lawful_paged None d h e = absurd (cc)
  lawful_paged (Some p) d h e = subst (IsLawful sender) (same_Some _ _ e) (h p refl)

-- ---- what is due

lawful_due : (c : Source) → length c.sender.cid ≡ 16 → length c.sender.name ≡ 64 → AllByRecursion RowOk c.table.rows → AllByRecursion (λ n. n < 2 ^ 16) c.listed → (d : Datagram) → due c ≡ Some d → IsLawful c.sender d
unfolding due row_found page_due
lawful_due c cid name all listed d e =
    elim (find (row_due c.moment) c.table.rows) as (λ o. find (row_due c.moment) c.table.rows ≡ o → due_by c o ≡ Some d → IsLawful c.sender d) [
      | Some r ↦ λ found f. subst (IsLawful c.sender) (same_Some _ _ f) (lawful_packet c.sender r cid name (row_in c.table.rows _ r all found))
      | None ↦ λ found f. lawful_paged c.sender cid name (page_due c) d (λ p g. lawful_by c.sender cid name c.moment (standing c.table.rows) c.listed c.cycle p (small_standing _ all) listed g) f
    ] refl e

pub lawful : (v c : Source) (now : ℕ) → v ≡ c → length v.sender.cid ≡ 16 → length v.sender.name ≡ 64 → AllByRecursion RowOk v.table.rows → AllByRecursion (λ n. n < 2 ^ 16) v.listed → (d : Datagram) → due (at now c) ≡ Some d → IsLawful c.sender d
lawful v c now is cid name all listed d e =
    subst (λ (k : Source). due (at now k) ≡ Some d → IsLawful k.sender d) is (lawful_due (at now v) cid name all listed d) e

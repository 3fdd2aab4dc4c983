-- Discovery pages, counted.
use Rattle.std.proofs.Common.{◌≡◌, ℕ, ◌+◌, ◌-◌, max, Bool, true, false, ◌==◌, nat_lt, nat_le, if◌then◌else◌, List, [], ◌∷◌, length, find, Option, Some, None, Result, Ok, Err, refl, ap, sym, ◌∙◌, arith}
use Rattle.std.specs.Option.{option_map}
use Rattle.std.proofs.lemmas.Bool.Decides.{nat_tests}
use Rattle.sacn_discovery.specs.Pages.{page_count}
use Rattle.sacn_console.specs.declared.limits.TheConstants.{DISCOVERY_INTERVAL}
use Rattle.sacn_console.specs.Lines.{Page, Datagram, Packet, Paged, Deed}
use Rattle.sacn_console.specs.Core.{page_by}
use Rattle.sacn_console.specs.Due.{Life, standing_by, list_by, cycle_by, due_with, due_by_list, answer_by_list, universe_due}
use Rattle.sacn_console.specs.Runs.{Call, Order, Poll, with_order, with_datagram, deeds_after}
use Rattle.sacn_console.specs.PageCounts.{pages_given, cycle_start, page_counted, next_page, PagesAreCounted}
use Rattle.sacn_console.specs.declared.command.Command.{Command}
use Rattle.sacn_console.specs.declared.command.ConsoleFault.{ConsoleFault}
use Rattle.sacn_console.specs.declared.line.Begun.{Begun}
use Rattle.sacn_console.proofs.Plain.{some_same}

-- a cycle that began at a moment, with the page that comes next
abbrev begun_at : ℕ → ℕ → Begun
begun_at given moment = record { moment = moment; next = given }

-- the cycle is the latest one, and its next page has the number of those given
abbrev IsCounted : List Deed → Type 0
IsCounted ds = cycle_by ds ≡ option_map (begun_at (pages_given ds)) (cycle_start ds)

counted_by : (life : Life) (t : ℕ) (ds : List Deed) (o : Option ℕ) (n : ℕ) →
    page_by t (standing_by life.universes ds) (list_by life.universes ds) (option_map (begun_at n) o) ≡ page_counted t (standing_by life.universes ds) (list_by life.universes ds) o n
counted_by life t ds None n = refl
counted_by life t ds (Some m) n = refl

counted_page : (life : Life) (t : ℕ) (ds : List Deed) → IsCounted ds → next_page life t ds ≡ page_counted t (standing_by life.universes ds) (list_by life.universes ds) (cycle_start ds) (pages_given ds)
counted_page life t ds is = rw is (counted_by life t ds (cycle_start ds) (pages_given ds))

not_first : (n : ℕ) → 0 ≡ n → (n == 0) ≡ false → ⊥
not_first n is later = absurd (grind (arith, nat_tests))

number_of : (all listed : List ℕ) (n : ℕ) (x y : Bool) (p : Page) → (p.page == 0) ≡ false →
    (if x then Some (record { list = listed; page = n }) else (if y then Some (record { list = all; page = 0 }) else None)) ≡ Some p → p.page ≡ n
number_of all listed n true y p later e = sym (ap (λ (q : Page). q.page) (some_same (record { list = listed; page = n }) p e))
number_of all listed n false true p later e =
    let first : 0 ≡ p.page = ap (λ (q : Page). q.page) (some_same (record { list = all; page = 0 }) p e) in
    absurd (not_first p.page first later)
number_of all listed n false false p later e = absurd (cc)

-- a later page of a cycle has the number of those that were given
page_is : (t : ℕ) (all listed : List ℕ) (o : Option ℕ) (n : ℕ) (p : Page) → (p.page == 0) ≡ false → page_counted t all listed o n ≡ Some p → p.page ≡ n
page_is t all listed None n p later e =
    let first : 0 ≡ p.page = ap (λ (q : Page). q.page) (some_same (record { list = all; page = 0 }) p e) in
    absurd (not_first p.page first later)
page_is t all listed (Some m) n p later e = number_of all listed n (nat_lt n (page_count (length listed))) (nat_le DISCOVERY_INTERVAL (t - m)) p later e

later_by : (n page : ℕ) (o : Option ℕ) → page ≡ n → option_map (λ (b : Begun). record { moment = b.moment; next = page + 1 }) (option_map (begun_at n) o) ≡ option_map (begun_at (n + 1)) o
later_by n page None is = refl
later_by n page (Some m) is = ap (λ (k : ℕ). Some (record { moment = m; next = k + 1 })) is

paged_counted : (t : ℕ) (ds : List Deed) (p : Page) (b : Bool) → (p.page == 0) ≡ b → (b ≡ false → p.page ≡ pages_given ds) → IsCounted ds →
    (if b then Some (record { moment = t; next = 1 }) else option_map (λ (c : Begun). record { moment = c.moment; next = p.page + 1 }) (cycle_by ds))
    ≡ option_map (begun_at (if b then 1 else pages_given ds + 1)) (if b then Some t else cycle_start ds)
paged_counted t ds p true e h is = refl
paged_counted t ds p false e h is = rw is (later_by (pages_given ds) p.page (cycle_start ds) (h refl))

counted_with : (life : Life) (t m : ℕ) (ds : List Deed) (o : Option Datagram) → ((p : Page) → o ≡ Some (Paged p) → next_page life m ds ≡ Some p) → IsCounted ds → IsCounted (with_datagram t o ds)
counted_with life t m ds None e is = is
counted_with life t m ds (Some (Packet d)) e is = is
counted_with life t m ds (Some (Paged p)) e is =
    paged_counted t ds p (p.page == 0) refl (λ later. page_is m (standing_by life.universes ds) (list_by life.universes ds) (cycle_start ds) (pages_given ds) p later (sym (counted_page life m ds is) ∙ e p refl)) is

counted_order : (t : ℕ) (ds : List Deed) (k : Command) (r : Result (Unit {0}) ConsoleFault) → IsCounted ds → IsCounted (with_order t k r ds)
counted_order t ds k (Ok x) is = is
counted_order t ds k (Err x) is = is

same_page : (p q : Page) → Paged p ≡ Paged q → p ≡ q
same_page p q e = cc

paged_found : (o : Option Page) (p : Page) → option_map Paged o ≡ Some (Paged p) → o ≡ Some p
paged_found None p e = absurd (cc)
paged_found (Some q) p e = ap Some (same_page q p (some_same (Paged q) (Paged p) e))

page_by_due : (life : Life) (t : ℕ) (ds : List Deed) (o : Option ℕ) (p : Page) → due_with life t ds o ≡ Some (Paged p) → next_page life t ds ≡ Some p
page_by_due life t ds None p e = paged_found (next_page life t ds) p e
page_by_due life t ds (Some u) p e = absurd (cc)

page_due : (life : Life) (t : ℕ) (ds : List Deed) (p : Page) → due_by_list life t ds ≡ Some (Paged p) → next_page life t ds ≡ Some p
unfolding due_by_list
page_due life t ds p e = page_by_due life t ds (find (universe_due life t ds) life.universes) p e

counted_after : (life : Life) (calls : List Call) (t : ℕ) (ds : List Deed) → IsCounted ds → IsCounted (deeds_after life t ds calls)
counted_after life [] t ds is = is
counted_after life (Order now k ∷ calls) t ds is =
    counted_after life calls (max t now) (with_order (max t now) k (answer_by_list life k ds) ds) (counted_order (max t now) ds k (answer_by_list life k ds) is)
counted_after life (Poll now ∷ calls) t ds is =
    counted_after life calls (max t now) (with_datagram (max t now) (due_by_list life (max t now) ds) ds)
    (counted_with life (max t now) (max t now) ds (due_by_list life (max t now) ds) (λ p e. page_due life (max t now) ds p e) is)

pub pages_are_counted : PagesAreCounted
pages_are_counted life calls t = counted_page life t (deeds_after life 0 [] calls) (counted_after life calls 0 [] refl)

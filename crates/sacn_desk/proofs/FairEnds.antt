-- The polls of a reading end: each datagram that is given leaves less that may be due at it.
use Rattle.std.proofs.Common.{◌≡◌, ◌==◌, ◌≤◌, ◌<◌, ◌+◌, ◌-◌, ℕ, zero, suc, Bool, true, false, not, cond, nat_lt, nat_le, if◌then◌else◌, List, [], ◌∷◌, length, map, find, filter, refl, sym, ap, subst, ◌∙◌, arith, Option, Some, None}
use Rattle.std.specs.Option.{option_map}
use Rattle.std.proofs.lemmas.List.{length-map}
use Rattle.sacn_discovery.specs.Pages.{page_count}
use Rattle.sacn_packets.specs.Data.{Data}
use Rattle.sacn_console.specs.declared.line.UniverseLine.{UniverseLine}
use Rattle.sacn_console.specs.declared.line.Begun.{Begun}
use Rattle.sacn_console.specs.Lights.{Lights}
use Rattle.sacn_console.specs.Lines.{Page, Datagram, Packet, Paged, Gave, line_due, line_after, line_sent, is_stopped}
use Rattle.sacn_console.specs.Core.{Core, at, due, due_by, given, after, line_found, page_due, page_by, standing, packet_of, packet_with}
use Rattle.sacn_console.proofs.Dues.{page_counted}
use Rattle.sacn_desk.specs.DeskSends.{polled}
use Rattle.sacn_desk.specs.Fairness.{EachReadingEnds}
use Rattle.sacn_desk.proofs.Fair.{one_if, at_given, equal, some_is, sent_rests}

-- ---- lines

due_lines : Lights → ℕ → List UniverseLine → ℕ
due_lines p m [] = 0
due_lines p m (x ∷ xs) = one_if (line_due p m x) + due_lines p m xs

one_small : (b : Bool) → one_if b ≤ 1
one_small true = omega arith
one_small false = omega arith

few_lines : (p : Lights) (m : ℕ) (xs : List UniverseLine) → due_lines p m xs ≤ length xs
unfolding due_lines
few_lines p m [] = omega arith
few_lines p m (x ∷ xs) = omega (arith, one_small (line_due p m x), few_lines p m xs)

module _ (p : Lights) (m : ℕ) (d : Data) where
  abbrev sent : UniverseLine → UniverseLine
  sent x = line_after (Gave m (Packet d)) x

  no_more : (x : UniverseLine) → one_if (line_due p m (sent x)) ≤ one_if (line_due p m x)
  unfolding line_after
  no_more x = by_line (x.universe == d.universe)
    where
      by_line : (b : Bool) → one_if (line_due p m (if b then line_sent m d.slots x else x)) ≤ one_if (line_due p m x)
      by_line true = omega (arith, ap one_if (sent_rests p m d.slots x))
      by_line false = omega arith

  rests_now : (x : UniverseLine) → (x.universe == d.universe) ≡ true → one_if (line_due p m (sent x)) ≡ 0
  unfolding line_after
  rests_now x is = ap (λ b. one_if (line_due p m (if b then line_sent m d.slots x else x))) is ∙ ap one_if (sent_rests p m d.slots x)

  none_more : (xs : List UniverseLine) → due_lines p m (map sent xs) ≤ due_lines p m xs
  unfolding due_lines
  none_more [] = omega arith
  none_more (x ∷ xs) = omega (arith, no_more x, none_more xs)

  one_less : (l : UniverseLine) (xs : List UniverseLine) → (l.universe == d.universe) ≡ true → find (line_due p m) xs ≡ Some l → suc (due_lines p m (map sent xs)) ≤ due_lines p m xs
  unfolding due_lines
  one_less l [] is found = absurd (cc)
  one_less l (x ∷ xs) is found = by_first (line_due p m x) refl found (one_less l xs is)
    where
      by_first : (b : Bool) → line_due p m x ≡ b → cond b (Some x) (find (line_due p m) xs) ≡ Some l → (find (line_due p m) xs ≡ Some l → suc (due_lines p m (map sent xs)) ≤ due_lines p m xs)
          → suc (one_if (line_due p m (sent x)) + due_lines p m (map sent xs)) ≤ one_if (line_due p m x) + due_lines p m xs
      by_first true e same more =
          let on : (x.universe == d.universe) ≡ true = ap (λ (y : UniverseLine). y.universe == d.universe) (some_is x l same) ∙ is in
          omega (arith, rests_now x on, ap one_if e, none_more xs)
      by_first false e found more = omega (arith, no_more x, ap one_if e, more found)

-- ---- pages

pub more_pages : (a b : ℕ) → a ≤ b → page_count a ≤ page_count b
more_pages zero zero le = omega arith
more_pages zero (suc b) le = page_counted (suc b)
more_pages (suc a) zero le = absurd (omega (arith, le))
more_pages (suc a) (suc b) le = grind (arith, le)

pub few_standing : (xs : List UniverseLine) → length (standing xs) ≤ length xs
unfolding standing
few_standing [] = omega arith
few_standing (x ∷ xs) = by_state (not (is_stopped x.state)) (few_standing xs)
  where
    by_state : (b : Bool) → length (standing xs) ≤ length xs → length (map (λ (l : UniverseLine). l.universe) (cond b (x ∷ filter (λ (l : UniverseLine). not (is_stopped l.state)) xs) (filter (λ (l : UniverseLine). not (is_stopped l.state)) xs))) ≤ suc (length xs)
    by_state true le = omega (arith, le)
    by_state false le = omega (arith, le)

-- the pages that may come at m: those left of a cycle, and those of a new one, of at most k
abbrev pages_left : ℕ → ℕ → List ℕ → Option Begun → ℕ
pages_left k m listed None = k
pages_left k m listed (Some b) = (page_count (length listed) - b.next) + (if nat_le 10000 (m - b.moment) then k else 0)

few_pages : (k m : ℕ) (listed : List ℕ) (b : Option Begun) → pages_left k m listed b ≤ page_count (length listed) + k
few_pages k m listed None = omega arith
few_pages k m listed (Some b) = by_time (nat_le 10000 (m - b.moment))
  where
    minus : (a b k l : ℕ) → k ≤ l → (a - b) + k ≤ a + l
    minus a b k l le = omega (arith, le)

    by_time : (t : Bool) → (page_count (length listed) - b.next) + (if t then k else 0) ≤ page_count (length listed) + k
    by_time true = minus (page_count (length listed)) b.next k k (omega arith)
    by_time false = minus (page_count (length listed)) b.next 0 k (omega arith)

not_passed : (m : ℕ) → nat_le 10000 (m - m) ≡ false
not_passed m = grind arith

below : (a b : ℕ) → nat_lt a b ≡ true → a < b
below a b e = grind arith

-- a new cycle's first page leaves less than all of them
first_leaves : (k m : ℕ) (all : List ℕ) → page_count (length all) ≤ k → suc (pages_left k m all (Some (record { moment = m; next = 1 }))) ≤ k
first_leaves k m all le =
    rw (not_passed m) (less (page_count (length all)) k (page_counted (length all)) le)
  where
    less : (a k : ℕ) → 0 < a → a ≤ k → suc ((a - 1) + 0) ≤ k
    less a k some le = omega (arith, some, le)

-- ---- one poll

-- what may still be due at the core's moment, where k bounds the pages of a new cycle
abbrev left : ℕ → Core → ℕ
left k c = due_lines c.lights c.moment c.lines + pages_left k c.moment c.listed c.cycle

same_lines : (p : Lights) (m : ℕ) (q : Page) (xs : List UniverseLine) → due_lines p m (map (line_after (Gave m (Paged q))) xs) ≡ due_lines p m xs
unfolding due_lines line_after
same_lines p m q [] = refl
same_lines p m q (x ∷ xs) = ap (λ n. one_if (line_due p m x) + n) (same_lines p m q xs)

-- a cycle's next page, at any place of it
next_leaves : (k m : ℕ) (listed : List ℕ) (b : Begun) → b.next < page_count (length listed)
    → suc (pages_left k m (if b.next == 0 then listed else listed) (if b.next == 0 then Some (record { moment = m; next = 1 }) else Some (record { moment = b.moment; next = b.next + 1 }))) ≤ pages_left k m listed (Some b)
next_leaves k m listed b lt = by_next (b.next == 0) refl
  where
    less : (a n w : ℕ) → n < a → suc ((a - (n + 1)) + w) ≤ (a - n) + w
    less a n w lt = omega (arith, lt)

    first : (a n v w : ℕ) → n ≡ 0 → n < a → v ≡ 0 → suc ((a - 1) + v) ≤ (a - n) + w
    first a n v w is lt none = omega (arith, is, lt, none)

    by_next : (z : Bool) → (b.next == 0) ≡ z
        → suc (pages_left k m (if z then listed else listed) (if z then Some (record { moment = m; next = 1 }) else Some (record { moment = b.moment; next = b.next + 1 }))) ≤ pages_left k m listed (Some b)
    by_next true z = first (page_count (length listed)) b.next (if nat_le 10000 (m - m) then k else 0) (if nat_le 10000 (m - b.moment) then k else 0) (equal b.next 0 z) lt (ap (λ t. if t then k else 0) (not_passed m))
    by_next false z = less (page_count (length listed)) b.next (if nat_le 10000 (m - b.moment) then k else 0) lt

page_is : (q p : Page) → Some q ≡ Some p → q ≡ p
page_is q p e = some_is q p e

abbrev cycle_after : ℕ → Page → Option Begun → Option Begun
cycle_after m p b = if p.page == 0 then Some (record { moment = m; next = 1 }) else option_map (λ (b : Begun). let x : Begun = record { moment = b.moment; next = p.page + 1 } in x) b

abbrev listed_after : Page → List ℕ → List ℕ
listed_after p listed = if p.page == 0 then p.list else listed

module _ (k m : ℕ) (all listed : List ℕ) (le : page_count (length all) ≤ k) where
  more : (x y w : ℕ) → suc x ≤ y → suc x ≤ w + y
  more x y w le = omega (arith, le)

  page_leaves : (b : Option Begun) (p : Page) → page_by m all listed b ≡ Some p → suc (pages_left k m (listed_after p listed) (cycle_after m p b)) ≤ pages_left k m listed b
  page_leaves None p e =
      subst (λ (p : Page). suc (pages_left k m (listed_after p listed) (cycle_after m p None)) ≤ k) (page_is (record { list = all; page = 0 }) p e) (first_leaves k m all le)
  page_leaves (Some b) p e = by_next (nat_lt b.next (page_count (length listed))) refl e
    where
      by_time : (t : Bool) → (if t then Some (record { list = all; page = 0 }) else None) ≡ Some p → suc (pages_left k m (listed_after p listed) (cycle_after m p (Some b))) ≤ (page_count (length listed) - b.next) + (if t then k else 0)
      by_time true e =
          subst (λ (p : Page). suc (pages_left k m (listed_after p listed) (cycle_after m p (Some b))) ≤ (page_count (length listed) - b.next) + k) (page_is (record { list = all; page = 0 }) p e) (more (page_count (length all) - 1 + (if nat_le 10000 (m - m) then k else 0)) k (page_count (length listed) - b.next) (first_leaves k m all le))
      by_time false e = absurd (cc)

      by_next : (n : Bool) → nat_lt b.next (page_count (length listed)) ≡ n → (if n then Some (record { list = listed; page = b.next }) else (if nat_le 10000 (m - b.moment) then Some (record { list = all; page = 0 }) else None)) ≡ Some p
          → suc (pages_left k m (listed_after p listed) (cycle_after m p (Some b))) ≤ pages_left k m listed (Some b)
      by_next true lt e =
          subst (λ (p : Page). suc (pages_left k m (listed_after p listed) (cycle_after m p (Some b))) ≤ pages_left k m listed (Some b)) (page_is (record { list = listed; page = b.next }) p e) (next_leaves k m listed b (below b.next (page_count (length listed)) lt))
      by_next false done e = by_time (nat_le 10000 (m - b.moment)) e

most : (a b k : ℕ) → a ≤ b → b ≤ k → a ≤ k
most a b k le more = omega (arith, le, more)

self : (u : ℕ) → (u == u) ≡ true
self u = grind arith

-- what is given leaves less
poll_leaves : (k : ℕ) (c : Core) (d : Datagram) → page_count (length c.lines) ≤ k → due c ≡ Some d → suc (left k (given (due c) c)) ≤ left k c
unfolding due line_found after page_due packet_with
poll_leaves k c d le is = by_line (line_found c) refl is
  where
    by_page : (q : Option Page) → page_due c ≡ q → option_map Paged q ≡ Some d → suc (left k (given (option_map Paged q) c)) ≤ left k c
    by_page None e none = absurd (cc)
    by_page (Some q) e some = omega (
      arith,
      same_lines c.lights c.moment q c.lines,
      page_leaves k c.moment (standing c.lines) c.listed (most (page_count (length (standing c.lines))) (page_count (length c.lines)) k (more_pages (length (standing c.lines)) (length c.lines) (few_standing c.lines)) le) c.cycle q e,
    )

    by_line : (o : Option UniverseLine) → line_found c ≡ o → due_by c o ≡ Some d → suc (left k (given (due_by c o) c)) ≤ left k c
    by_line None e some = by_page (page_due c) refl some
    by_line (Some l) e some = omega (
      arith,
      one_less c.lights c.moment (packet_of c.sender c.lights c.moment l) l c.lines (self l.universe) e,
    )

-- ---- all polls of a reading

none_some : (d : Datagram) → None ≡ Some d → ⊥
none_some d e = absurd (cc)

pub lines_given : (d : Option Datagram) (c : Core) → length (given d c).lines ≡ length c.lines
unfolding after
lines_given None c = refl
lines_given (Some d) c = length-map c.lines (line_after (Gave c.moment d))

lines_polled : (now n : ℕ) (c : Core) → length (polled now n c).lines ≡ length c.lines
lines_polled now zero c = refl
lines_polled now (suc n) c = lines_given (due (at now (polled now n c))) (at now (polled now n c)) ∙ lines_polled now n c

-- while something is due, each poll so far left less
less_left : (k now n : ℕ) (c : Core) (d : Datagram) → page_count (length c.lines) ≤ k → due (at now (polled now n c)) ≡ Some d → n + left k (at now (polled now n c)) ≤ left k (at now c)
less_left k now zero c d le is = omega arith
less_left k now (suc n) c d le is = by_due (due old) refl (λ e. less_left k now n c e le)
  where
    old : Core
    old = at now (polled now n c)

    by_due : (o : Option Datagram) → due old ≡ o → ((e : Datagram) → due old ≡ Some e → n + left k old ≤ left k (at now c)) → suc n + left k (at now (polled now (suc n) c)) ≤ left k (at now c)
    by_due None none more =
        let stays : at now (polled now (suc n) c) ≡ old = at_given now (due old) (polled now n c) ∙ ap (λ (o : Option Datagram). given o old) none in
        absurd (none_some d (sym none ∙ sym (ap due stays) ∙ is))
    by_due (Some e) given_e more =
        let new : left k (at now (polled now (suc n) c)) ≡ left k (given (due old) old) = ap (left k) (at_given now (due old) (polled now n c)) in
        omega (arith, new, more e given_e, poll_leaves k old e (subst (λ m. page_count m ≤ k) (sym (lines_polled now n c)) le) given_e)

pub each_ends : EachReadingEnds
each_ends c now n most = by_due (due last) refl
  where
    k : ℕ
    k = page_count (length c.lines)

    last : Core
    last = at now (polled now n c)

    by_due : (o : Option Datagram) → due last ≡ o → due last ≡ None
    by_due None none = none
    by_due (Some d) is =
        let start = at now c in
        absurd (omega (
          arith,
          most,
          less_left k now n c d (omega arith) is,
          poll_leaves k last d (subst (λ m. page_count m ≤ k) (sym (lines_polled now n c)) (omega arith)) is,
          few_lines start.lights start.moment start.lines,
          few_pages k start.moment start.listed start.cycle,
        ))

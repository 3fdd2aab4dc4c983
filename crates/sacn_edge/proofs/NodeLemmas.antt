-- The lines of a node's turns, from what its loop keeps of each port.
use Rattle.std.proofs.Common.{◌≡◌, ◌≢◌, ℕ, zero, suc, ◌+◌, ◌<◌, Bool, true, false, not, cond, List, [], ◌∷◌, ◌++◌, take, length, map, count_by, refl, sym, ap, subst, ◌∙◌, arith, add_comm, append_assoc, Option, Some, None, slice_index}
use Rattle.std.specs.Prelude.{⊤}
use Rattle.std.specs.List.Sorted.{IsStrictlyIncreasing}
use Rattle.std.proofs.lemmas.Bool.{ne_eqb, eq-eqb}
use Rattle.std.proofs.lemmas.List.Sums.{sum_by-cons}
use Rattle.sacn_node.specs.Setup.{port_numbers}
use Rattle.sacn_node.specs.Cores.{Node, node_frame}
use Rattle.sacn_node.specs.declared.port_frame.PortFrame.{PortFrame}
use Rattle.sacn_edge.specs.Additions.{Adds, Extends}
use Rattle.sacn_edge.specs.Hearings.{Heard, Transcript, Hears}
use Rattle.sacn_edge.specs.NodeText.{Turn, FrameLine, line_text, last_frame, with_frame, with_ports, lines_after, node_after, text_of}
use Rattle.sacn_edge.specs.NodeRun.{Turned, StopsIn, readings, hearings}
use Rattle.sacn_node.specs.Showings.{is_shown, unseen, with_found, port_after}
use Rattle.sacn_node.proofs.Looks.{shown_last}
use Rattle.sacn_edge.specs.PortLines.{port_text, ports_text, FailsAmong}
use Rattle.sacn_edge.proofs.ToldLemmas.{Adds-append}
use Rattle.sacn_edge.proofs.PortLineLemmas.{append_nil}

-- ---- numbers that differ

abbrev pub Differs : ℕ → List ℕ → Type 0
Differs p [] = ⊤
Differs p (q ∷ qs) = (p ≢ q) × Differs p qs

abbrev pub Distinct : List ℕ → Type 0
Distinct [] = ⊤
Distinct (p ∷ ps) = Differs p ps × Distinct ps

abbrev pub numbers : List PortFrame → List ℕ
numbers ss = map (λ s. s.port) ss

above_differs : (p : ℕ) (ps : List ℕ) → ((k : ℕ) → k < length ps → p < slice_index ps k) → Differs p ps
above_differs p [] above = tt
above_differs p (q ∷ qs) above =
    let first : p < q = above 0 (omega arith) in
    (λ same. omega (arith, first, same), above_differs p qs (λ k lt. above (suc k) (omega arith)))

tail_rises : (p : ℕ) (ps : List ℕ) → IsStrictlyIncreasing (p ∷ ps) → IsStrictlyIncreasing ps
tail_rises p ps rise k lt =
    let next : suc k + 1 ≡ suc (k + 1) = omega arith in
    subst (λ (j : ℕ). slice_index (p ∷ ps) (suc k) < slice_index (p ∷ ps) j) next (rise (suc k) (omega arith))

rises_above : (p : ℕ) (ps : List ℕ) → IsStrictlyIncreasing (p ∷ ps) → (k : ℕ) → k < length ps → p < slice_index ps k
rises_above p [] rise k lt = absurd (omega (arith, lt))
rises_above p (q ∷ qs) rise zero lt = rise 0 (omega arith)
rises_above p (q ∷ qs) rise (suc k) lt =
    let first : p < q = rise 0 (omega arith) in
    let rest : q < slice_index qs k = rises_above q qs (tail_rises p (q ∷ qs) rise) k (omega arith) in
    omega (arith, first, rest)

pub rising_distinct : (ps : List ℕ) → IsStrictlyIncreasing ps → Distinct ps
rising_distinct [] rise = tt
rising_distinct (p ∷ ps) rise =
    (above_differs p ps (rises_above p ps rise), rising_distinct ps (tail_rises p ps rise))

-- ---- what is kept of each port is the frame of its latest line

abbrev pub Remembers : List FrameLine → List PortFrame → Type 0
Remembers ls [] = ⊤
Remembers ls (s ∷ ss) = (last_frame s.port ls ≡ s.last) × Remembers ls ss

pub nothing_seen : (ps : List ℕ) → Remembers [] (map unseen ps)
nothing_seen [] = tt
nothing_seen (p ∷ ps) = (refl, nothing_seen ps)

-- another port's latest line stays
other_frame : (p q m : ℕ) (f : Option (List ℕ)) (ls : List FrameLine) → p ≢ q → last_frame q (with_frame p m f ls) ≡ last_frame q ls
other_frame p q m None ls differs = refl
other_frame p q m (Some f) ls differs =
    elim (is_shown (last_frame p ls) f) as (λ b. last_frame q (cond b ls (record { port = p; moment = m; frame = f } ∷ ls)) ≡ last_frame q ls) [
      | true ↦ refl
      | false ↦ ap (λ b. cond b (Some f) (last_frame q ls)) (ne_eqb p q differs)
    ]

other_frames : (n : Node) (q : ℕ) (ps : List ℕ) (ls : List FrameLine) → Differs q ps → last_frame q (with_ports n ps ls) ≡ last_frame q ls
other_frames n q [] ls differs = refl
other_frames n q (p ∷ ps) ls differs =
    other_frames n q ps (with_frame p n.core.moment (node_frame p n) ls) differs.1
    ∙ other_frame p q n.core.moment (node_frame p n) ls (λ same. differs.0 (sym same))

-- a port's own latest line is of its frame
own_frame : (m : ℕ) (s : PortFrame) (f : Option (List ℕ)) (ls : List FrameLine) → last_frame s.port ls ≡ s.last → last_frame s.port (with_frame s.port m f ls) ≡ (with_found s f).last
own_frame m s None ls is = is
own_frame m s (Some f) ls is =
    elim (is_shown (last_frame s.port ls) f) as (λ b. is_shown (last_frame s.port ls) f ≡ b → last_frame s.port (cond b ls (record { port = s.port; moment = m; frame = f } ∷ ls)) ≡ Some f) [
      | true ↦ λ shown. shown_last (last_frame s.port ls) f shown
      | false ↦ λ shown. ap (λ b. cond b (Some f) (last_frame s.port ls)) (eq-eqb s.port s.port refl)
    ] refl

-- its line adds the text that it asks for
own_text : (m : ℕ) (s : PortFrame) (f : Option (List ℕ)) (ls : List FrameLine) → last_frame s.port ls ≡ s.last → text_of (with_frame s.port m f ls) ≡ text_of ls ++ port_text m (with_found s f)
own_text m s None ls is = sym (append_nil (text_of ls))
own_text m s (Some f) ls is =
    ap (λ last. text_of (cond (is_shown last f) ls (record { port = s.port; moment = m; frame = f } ∷ ls))) is
    ∙ (elim (is_shown s.last f) as (λ b. text_of (cond b ls (record { port = s.port; moment = m; frame = f } ∷ ls)) ≡ text_of ls ++ cond (not b) (line_text (record { port = s.port; moment = m; frame = f })) []) [
      | true ↦ sym (append_nil (text_of ls))
      | false ↦ refl
    ])

others_remember : (p m : ℕ) (f : Option (List ℕ)) (ls : List FrameLine) (ss : List PortFrame) → Differs p (numbers ss) → Remembers ls ss → Remembers (with_frame p m f ls) ss
others_remember p m f ls [] differs all = tt
others_remember p m f ls (s ∷ ss) differs all =
    (other_frame p s.port m f ls differs.0 ∙ all.0, others_remember p m f ls ss differs.1 all.1)

own_number : (s : PortFrame) (f : Option (List ℕ)) → (with_found s f).port ≡ s.port
own_number s None = refl
own_number s (Some f) = refl

pub numbers_after : (n : Node) (ss : List PortFrame) → numbers (map (port_after n) ss) ≡ numbers ss
numbers_after n [] = refl
numbers_after n (s ∷ ss) = λ i. own_number s (node_frame s.port n) i ∷ numbers_after n ss i

-- the lines of a turn add the texts of its ports, and are remembered
pub turn_text : (n : Node) (ss : List PortFrame) (ls : List FrameLine) → Distinct (numbers ss) → Remembers ls ss → text_of (with_ports n (numbers ss) ls) ≡ text_of ls ++ ports_text n.core.moment (map (port_after n) ss)
turn_text n [] ls distinct all = sym (append_nil (text_of ls))
turn_text n (s ∷ ss) ls distinct all =
    turn_text n ss (with_frame s.port n.core.moment (node_frame s.port n) ls) distinct.1 (others_remember s.port n.core.moment (node_frame s.port n) ls ss distinct.0 all.1)
    ∙ ap (λ t. t ++ ports_text n.core.moment (map (port_after n) ss)) (own_text n.core.moment s (node_frame s.port n) ls all.0)
    ∙ append_assoc (text_of ls) (port_text n.core.moment (port_after n s)) (ports_text n.core.moment (map (port_after n) ss))

pub turn_remembered : (n : Node) (ss : List PortFrame) (ls : List FrameLine) → Distinct (numbers ss) → Remembers ls ss → Remembers (with_ports n (numbers ss) ls) (map (port_after n) ss)
turn_remembered n [] ls distinct all = tt
turn_remembered n (s ∷ ss) ls distinct all =
    let next = with_frame s.port n.core.moment (node_frame s.port n) ls in
    let own : last_frame s.port (with_ports n (numbers ss) next) ≡ (port_after n s).last =
    other_frames n s.port (numbers ss) next distinct.0 ∙ own_frame n.core.moment s (node_frame s.port n) ls all.0 in (
      ap (λ p. last_frame p (with_ports n (numbers ss) next)) (own_number s (node_frame s.port n)) ∙ own,
      turn_remembered n ss next distinct.1 (others_remember s.port n.core.moment (node_frame s.port n) ls ss distinct.0 all.1),
    )

-- ---- a line that was not written whole

one_more : (p m : ℕ) (f : Option (List ℕ)) (ls : List FrameLine) → (more : List FrameLine) × (with_frame p m f ls ≡ more ++ ls)
one_more p m None ls = ([], refl)
one_more p m (Some f) ls =
    elim (is_shown (last_frame p ls) f) as (λ b. (more : List FrameLine) × (cond b ls (record { port = p; moment = m; frame = f } ∷ ls) ≡ more ++ ls)) [
      | true ↦ ([], refl)
      | false ↦ (record { port = p; moment = m; frame = f } ∷ [], refl)
    ]

some_more : (n : Node) (ps : List ℕ) (ls : List FrameLine) → (more : List FrameLine) × (with_ports n ps ls ≡ more ++ ls)
some_more n [] ls = ([], refl)
some_more n (p ∷ ps) ls =
    let one = one_more p n.core.moment (node_frame p n) ls in
    let rest = some_more n ps (with_frame p n.core.moment (node_frame p n) ls) in
    (rest.0 ++ one.0, rest.1 ∙ ap (λ l. rest.0 ++ l) one.1 ∙ sym (append_assoc rest.0 one.0 ls))

-- a text that isn't empty is that of a line
asked_line : (m : ℕ) (s : PortFrame) (f : Option (List ℕ)) (ls : List FrameLine) (k : ℕ) → last_frame s.port ls ≡ s.last → k < length (port_text m (with_found s f))
    → (l : FrameLine) × (with_frame s.port m f ls ≡ l ∷ ls) × (port_text m (with_found s f) ≡ line_text l)
asked_line m s None ls k is short = absurd (omega (arith, short))
asked_line m s (Some f) ls k is short =
    let l : FrameLine = record { port = s.port; moment = m; frame = f } in
    elim (is_shown s.last f) as (λ b. is_shown s.last f ≡ b → k < length (cond (not b) (line_text l) []) → (l : FrameLine) × (with_frame s.port m (Some f) ls ≡ l ∷ ls) × (cond (not b) (line_text record { port = s.port; moment = m; frame = f }) [] ≡ line_text l)) [
      | true ↦ λ shown none. absurd (omega (arith, none))
      | false ↦ λ shown some. (l, ap (λ last. cond (is_shown last f) ls (l ∷ ls)) is ∙ ap (λ b. cond b ls (l ∷ ls)) shown, refl)
    ] refl short

with_ports-append : (n : Node) (ps qs : List ℕ) (ls : List FrameLine) → with_ports n (ps ++ qs) ls ≡ with_ports n qs (with_ports n ps ls)
with_ports-append n [] qs ls = refl
with_ports-append n (p ∷ ps) qs ls = with_ports-append n ps qs (with_frame p n.core.moment (node_frame p n) ls)

numbers-append : (ss ts : List PortFrame) → numbers (ss ++ ts) ≡ numbers ss ++ numbers ts
numbers-append [] ts = refl
numbers-append (s ∷ ss) ts = ap (λ l. s.port ∷ l) (numbers-append ss ts)

front_distinct : (ss : List PortFrame) (s : PortFrame) (ts : List PortFrame) → Distinct (numbers (ss ++ s ∷ ts)) → Distinct (numbers ss) × Differs s.port (numbers ss)
front_distinct [] s ts distinct = (tt, tt)
front_distinct (q ∷ ss) s ts distinct =
    let rest = front_distinct ss s ts distinct.1 in
    let parts = front_differs q.port ss s ts distinct.0 in
    ((parts.0, rest.0), (λ same. parts.1 (sym same), rest.1))
  where
    front_differs : (p : ℕ) (ss : List PortFrame) (s : PortFrame) (ts : List PortFrame) → Differs p (numbers (ss ++ s ∷ ts)) → Differs p (numbers ss) × (p ≢ s.port)
    front_differs p [] s ts differs = (tt, differs.0)
    front_differs p (q ∷ ss) s ts differs =
        let rest = front_differs p ss s ts differs.1 in
        ((differs.0, rest.0), rest.1)

front_remembered : (ls : List FrameLine) (ss : List PortFrame) (s : PortFrame) (ts : List PortFrame) → Remembers ls (ss ++ s ∷ ts) → Remembers ls ss × (last_frame s.port ls ≡ s.last)
front_remembered ls [] s ts all = (tt, all.0)
front_remembered ls (q ∷ ss) s ts all =
    let rest = front_remembered ls ss s ts all.1 in
    ((all.0, rest.0), rest.1)

abbrev head_or : {X : Type 0} → X → List X → X
head_or d [] = d
head_or d (x ∷ xs) = x

abbrev tail_of : {X : Type 0} → List X → List X
tail_of [] = []
tail_of (x ∷ xs) = xs

-- where a list that was made is parted, so is what it was made of
parted_by : {X : Type 0} (f : X → X) (xs done : List X) (y : X) (rest : List X) → map f xs ≡ done ++ y ∷ rest
    → (first : List X) × (x : X) × (last : List X) × (xs ≡ first ++ x ∷ last) × (map f first ≡ done) × (f x ≡ y)
parted_by f [] [] y rest is = absurd (cc)
parted_by f [] (z ∷ zs) y rest is = absurd (cc)
parted_by f (x ∷ xs) [] y rest is = ([], x, xs, refl, refl, ap (head_or y) is)
parted_by f (x ∷ xs) (z ∷ zs) y rest is =
    let tail = parted_by f xs zs y rest (ap tail_of is) in
    (x ∷ tail.0, tail.1, tail.2, ap (λ l. x ∷ l) tail.3, (λ i. head_or z (is i) ∷ tail.4 i), tail.5)

-- where a port's text was cut in a turn, the line that it asked for was
pub stops : (n : Node) (ss : List PortFrame) (ls : List FrameLine) (a b c : List ℕ → Type 0) → Distinct (numbers ss) → Remembers ls ss → Adds a b (text_of ls) → FailsAmong n.core.moment (map (port_after n) ss) b c
    → (unwritten : List FrameLine) × (l : FrameLine) × (written : List FrameLine) × (k : ℕ)
    × (with_ports n (numbers ss) ls ≡ unwritten ++ l ∷ (written ++ ls))
    × (k < length (line_text l))
    × Adds a c (text_of (written ++ ls) ++ take k (line_text l))
stops n ss ls a b c distinct all sofar fails =
    let m = n.core.moment in
    let by = parted_by (port_after n) ss fails.0 fails.1 fails.2 fails.4 in
    let done = by.0 in
    let s = by.1 in
    let rest = by.2 in
    let k = fails.3 in
    let parted : ss ≡ done ++ s ∷ rest = by.3 in
    let short : k < length (port_text m (port_after n s)) = subst (λ p. k < length (port_text m p)) (sym by.5) fails.5 in
    let adds : Adds b c (ports_text m (map (port_after n) done) ++ take k (port_text m (port_after n s))) =
    subst (λ ps. Adds b c (ports_text m ps ++ take k (port_text m (port_after n s)))) (sym by.4) (subst (λ p. Adds b c (ports_text m fails.0 ++ take k (port_text m p))) (sym by.5) fails.6) in
    let front = front_distinct done s rest (subst (λ l. Distinct (numbers l)) parted distinct) in
    let kept = front_remembered ls done s rest (subst (Remembers ls) parted all) in
    let before = with_ports n (numbers done) ls in
    let more = some_more n (numbers done) ls in
    let asked = asked_line m s (node_frame s.port n) before k (other_frames n s.port (numbers done) ls front.1 ∙ kept.1) short in
    let after = some_more n (numbers rest) (with_frame s.port m (node_frame s.port n) before) in
    let l = asked.0 in
    let told = ports_text m (map (port_after n) done) in
    let text : text_of (more.0 ++ ls) ≡ text_of ls ++ told = ap text_of (sym more.1) ∙ turn_text n done ls front.0 kept.0 in (
      after.0,
      l,
      more.0,
      k,
      ap (λ l. with_ports n (numbers l) ls) parted
          ∙ ap (λ ps. with_ports n ps ls) (numbers-append done (s ∷ rest))
          ∙ with_ports-append n (numbers done) (s.port ∷ numbers rest) ls
          ∙ after.1
          ∙ ap (λ x. after.0 ++ x) (asked.1 ∙ ap (λ x. l ∷ x) more.1),
      subst (λ (t : List ℕ). k < length t) asked.2 short,
      subst (Adds a c) (sym (append_assoc (text_of ls) told (take k (port_text m (port_after n s)))) ∙ ap (λ t. t ++ take k (port_text m (port_after n s))) (sym text) ∙ ap (λ t. text_of (more.0 ++ ls) ++ take k t) asked.2)
          (Adds-append (text_of ls) (told ++ take k (port_text m (port_after n s))) sofar adds),
    )

-- ---- what is told over several turns

pub Extends-append : {X : Type 0} (a b c : Option (List X)) (xs ys : List X) → Extends a b xs → Extends b c ys → Extends a c (xs ++ ys)
Extends-append a b None xs ys p q = tt
Extends-append a None (Some z) xs ys p q = absurd q
Extends-append None (Some y) (Some z) xs ys p q = absurd p
Extends-append (Some x) (Some y) (Some z) xs ys p q = q ∙ ap (λ t. t ++ ys) p ∙ append_assoc x xs ys

pub Hears-append : (a b c : Option Transcript) (xs ys : List Heard) → Hears a b xs → Hears b c ys → Hears a c (xs ++ ys)
Hears-append a b None xs ys p q = tt
Hears-append a None (Some z) xs ys p q = absurd q
Hears-append None (Some y) (Some z) xs ys p q = absurd p
Hears-append (Some x) (Some y) (Some z) xs ys p q =
    (q.0 ∙ ap (λ t. t ++ ys) p.0 ∙ append_assoc x.heard xs ys, q.1 ∙ p.1)

pub nothing_told : (c : Option (List ℕ)) (l : Option Transcript) → Turned c c l l []
nothing_told c l = record { clock = no_readings c; link = no_hearings l }
  where
    no_readings : (c : Option (List ℕ)) → Extends c c []
    no_readings None = tt
    no_readings (Some xs) = sym (append_nil xs)

    no_hearings : (l : Option Transcript) → Hears l l []
    no_hearings None = tt
    no_hearings (Some x) = (sym (append_nil x.heard), refl)

-- one turn more
pub turned_more : (c0 c1 c2 : Option (List ℕ)) (l0 l1 l2 : Option Transcript) (ts : List Turn) (t : Turn) → Turned c0 c1 l0 l1 ts → Extends c1 c2 (t.now ∷ []) → Hears l1 l2 (t.heard ∷ []) → Turned c0 c2 l0 l2 (t ∷ ts)
turned_more c0 c1 c2 l0 l1 l2 ts t sofar reads hears = record {
  clock = Extends-append c0 c1 c2 (readings ts) (t.now ∷ []) sofar.clock reads;
  link = Hears-append l0 l1 l2 (hearings ts) (t.heard ∷ []) sofar.link hears;
}

-- one turn more in a count
pub counted : {X : Type 0} (p : X → Bool) (xs : List X) (x : X) (old new : ℕ) → old ≡ count_by p xs → new ≡ old + cond (p x) 1 0 → new ≡ count_by p (x ∷ xs)
counted p xs x old new was grows =
    grows ∙ ap (λ n. n + cond (p x) 1 0) was ∙ add_comm (count_by p xs) (cond (p x) 1 0) ∙ sym (sum_by-cons (λ y. cond (p y) 1 0) x xs)

-- one turn more of a node, where ss is what is kept of its ports before it
module _ (first n : Node) (ss : List PortFrame) (t : Turn) (ts : List Turn) (is : n ≡ node_after first (t ∷ ts)) (own : numbers ss ≡ port_numbers first.ports) (distinct : Distinct (port_numbers first.ports)) (all : Remembers (lines_after first ts) ss) where
  lines_are : with_ports n (numbers ss) (lines_after first ts) ≡ lines_after first (t ∷ ts)
  lines_are = ap (λ m. with_ports m (numbers ss) (lines_after first ts)) is ∙ ap (λ ps. with_ports (node_after first (t ∷ ts)) ps (lines_after first ts)) own

  apart : Distinct (numbers ss)
  apart = subst Distinct (sym own) distinct

  pub more_text : (a b c : List ℕ → Type 0) → Adds a b (text_of (lines_after first ts)) → Adds b c (ports_text n.core.moment (map (port_after n) ss)) → Adds a c (text_of (lines_after first (t ∷ ts)))
  more_text a b c sofar adds =
      subst (Adds a c) (sym (turn_text n ss (lines_after first ts) apart all) ∙ ap text_of lines_are)
      (Adds-append (text_of (lines_after first ts)) (ports_text n.core.moment (map (port_after n) ss)) sofar adds)

  pub more_remembered : Remembers (lines_after first (t ∷ ts)) (map (port_after n) ss)
  more_remembered = subst (λ ls. Remembers ls (map (port_after n) ss)) lines_are (turn_remembered n ss (lines_after first ts) apart all)

  pub more_numbers : numbers (map (port_after n) ss) ≡ port_numbers first.ports
  more_numbers = numbers_after n ss ∙ own

  pub stops_in : (a b c : List ℕ → Type 0) → Adds a b (text_of (lines_after first ts)) → FailsAmong n.core.moment (map (port_after n) ss) b c → StopsIn first t ts a c
  stops_in a b c sofar fails =
      let s = stops n ss (lines_after first ts) a b c apart all sofar fails in
      (s.0, s.1, s.2, s.3, sym lines_are ∙ s.4, s.5, s.6)

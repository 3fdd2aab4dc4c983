-- A console's packets have the numbers of their places.
use Rattle.std.proofs.Common.{◌≡◌, ℕ, ◌+◌, ◌%◌, Bool, true, false, not, cond, List, [], ◌∷◌, ◌++◌, length, take, Option, Some, None, refl, sym, ap, ◌∙◌, arith}
use Rattle.std.specs.Prelude.{option_map, filter, find, count_by, slice_get, ◌==◌, ◌&&◌, if◌then◌else◌}
use Rattle.std.specs.List.{AllByRecursion}
use Rattle.std.proofs.lemmas.Bool.{and_from, eq-eqb}
use Rattle.std.proofs.lemmas.Option.{same_Some}
use Rattle.std.proofs.lemmas.List.{take_at, get_or_push}
use Rattle.sacn_packets.specs.Data.{Data}
use Rattle.sacn_sources.specs.Packets.{packet_of, kind_of}
use Rattle.sacn_sources.specs.declared.kind.Kind.TheVariants.{Live, Termination, Preview, Other}
use Rattle.sacn_console.specs.declared.line.UniverseLine.{UniverseLine}
use Rattle.sacn_console.specs.Lines as line
use Rattle.sacn_console.specs.Core as console
use Rattle.sacn_world.specs.Streams.{Sent, nothing, at, is_of, is_live, priority, levels, stream_of, place_of, rank, number_at}
use Rattle.sacn_world.specs.RowsOfPlaces.{packet_at}
use Rattle.sacn_world.specs.Streams.{kind_by}
use Rattle.sacn_world.specs.declared.console.Console.{Console}
use Rattle.sacn_world.specs.Worlds.{sent_by, is_of_life, LineOk}
use Rattle.sacn_world.proofs.Lists.{found}
use Rattle.sacn_world.proofs.Sources.{same-itself}
use Rattle.sacn_world.proofs.Growth.{stream_push}
use Rattle.sacn_world.proofs.Sending.{count_here, place_is, next_place}

pub count_filter : {X : Type 0} (p q : X → Bool) (xs : List X) → count_by p (filter q xs) ≡ count_by (λ x. q x && p x) xs
count_filter p q [] = refl
count_filter p q (x ∷ xs) =
    elim (q x) as (λ b. q x ≡ b → count_by p (cond b (x ∷ filter q xs) (filter q xs)) ≡ count_by (λ y. q y && p y) (x ∷ xs)) [
      | true ↦ λ e.
          count_here p x (filter q xs) (p x) refl
          ∙ ap (λ n. cond (p x) 1 0 + n) (count_filter p q xs)
          ∙ sym (count_here (λ y. q y && p y) x xs (p x) (ap (λ b. b && p x) e))
      | false ↦ λ e.
          count_filter p q xs
          ∙ omega (arith, count_here (λ y. q y && p y) x xs false (ap (λ b. b && p x) e))
    ] refl

length_filter : {X : Type 0} (q : X → Bool) (xs : List X) → length (filter q xs) ≡ count_by q xs
length_filter q [] = refl
length_filter q (x ∷ xs) =
    elim (q x) as (λ b. q x ≡ b → length (cond b (x ∷ filter q xs) (filter q xs)) ≡ count_by q (x ∷ xs)) [
      | true ↦ λ e. let r = length_filter q xs in let c = count_here q x xs true e in omega (arith, r, c)
      | false ↦ λ e. let r = length_filter q xs in let c = count_here q x xs false e in omega (arith, r, c)
    ] refl

-- the number of a packet as it is sent: the first of its life, and how many of its life stand before it
number_sent : (st : List Sent) (x : Sent) → number_at (st ++ x ∷ []) (length st) ≡ (x.first + count_by (λ y. y.life == x.life) st) % 256
unfolding number_at rank
number_sent st x =
    let e : at (st ++ x ∷ []) (length st) ≡ x = get_or_push st x nothing (length st) refl in
    let t : take (length st) (st ++ x ∷ []) ≡ st = take_at st (x ∷ []) (length st) refl in
    ap (λ (z : Sent). (z.first + count_by (λ y. y.life == z.life) (take (length st) (st ++ x ∷ []))) % 256) e
    ∙ ap (λ (ys : List Sent). (x.first + count_by (λ y. y.life == x.life) ys) % 256) t

number_next : (s : List ℕ) (u : ℕ) (sent : List Sent) (x : Sent) → is_of s u x ≡ true → number_at (stream_of s u (sent ++ x ∷ [])) (place_of s u (length sent) (sent ++ x ∷ [])) ≡ (x.first + count_by (is_of_life s u x.life) sent) % 256
unfolding stream_of
number_next s u sent x of =
    let st = stream_of s u sent in
    let push : stream_of s u (sent ++ x ∷ []) ≡ st ++ x ∷ [] = stream_push s u sent x ∙ ap (λ b. st ++ cond b (x ∷ []) []) of in
    let q : place_of s u (length sent) (sent ++ x ∷ []) ≡ length st = next_place s u sent x ∙ sym (length_filter (is_of s u) sent) in
    ap (λ ys. number_at ys (place_of s u (length sent) (sent ++ x ∷ []))) push ∙ ap (number_at (st ++ x ∷ [])) q
    ∙ number_sent st x ∙ ap (λ n. (x.first + n) % 256) (count_filter (λ y. y.life == x.life) (is_of s u) sent)

pub get_pushed : {X : Type 0} (xs : List X) (x : X) → slice_get (xs ++ x ∷ []) (length xs) ≡ Some x
get_pushed [] x = refl
get_pushed (y ∷ ys) x = get_pushed ys x

-- ---- what is due is the packet of a line

packet_inside : (a b : Data) → line.Packet a ≡ line.Packet b → a ≡ b
packet_inside a b e = cc

no_packet : (o : Option line.Page) (d : Data) → option_map line.Paged o ≡ Some (line.Packet d) → ⊥
no_packet None d e = cc
no_packet (Some p) d e = cc

pub due_line : (c : console.Core) (d : Data) → console.due c ≡ Some (line.Packet d) → (l : UniverseLine) × (find (line.line_due c.lights c.moment) c.lines ≡ Some l) × (console.packet_of c.sender c.lights c.moment l ≡ d)
unfolding console.due console.line_found
due_line c d e =
    elim (find (line.line_due c.lights c.moment) c.lines) as (λ o. console.due_by c o ≡ Some (line.Packet d) → (l : UniverseLine) × (o ≡ Some l) × (console.packet_of c.sender c.lights c.moment l ≡ d)) [
      | Some l ↦ λ f. (l, refl, packet_inside _ _ (same_Some _ _ f))
      | None ↦ λ f. absurd (no_packet (console.page_due c) d f)
    ] e

-- each number is one of the octet numbers of a packet of the life, and each line's number is that of its next place
module _ (sent : List Sent) (c : Console) (m : ℕ) (d : Data) (sender : c.core.sender.cid ≡ c.show.cid) (lines : AllByRecursion (LineOk sent c) c.core.lines) (is_due : console.due (console.at m c.core) ≡ Some (line.Packet d)) where
  due : (l : UniverseLine) × (find (line.line_due (console.at m c.core).lights (console.at m c.core).moment) c.core.lines ≡ Some l) × (console.packet_of c.core.sender (console.at m c.core).lights (console.at m c.core).moment l ≡ d)
  due = due_line (console.at m c.core) d is_due

  abbrev x : Sent
  x = sent_by c (line.Packet d)

  universe_is : due.0.universe ≡ d.universe
  unfolding console.packet_with
  universe_is = ap (λ (y : Data). y.universe) due.2

  cid_is : d.cid ≡ c.show.cid
  unfolding console.packet_with
  cid_is = sym (ap (λ (y : Data). y.cid) due.2) ∙ sender

  number_is : d.number ≡ (c.first + count_by (is_of_life c.show.cid d.universe c.life) sent) % 256
  unfolding console.packet_with
  number_is =
      let ok = (found (LineOk sent c) (line.line_due (console.at m c.core).lights (console.at m c.core).moment) c.core.lines due.0 lines due.1).0 in
      sym (ap (λ (y : Data). y.number) due.2) ∙ ok ∙ ap (λ u. (c.first + count_by (is_of_life c.show.cid u c.life) sent) % 256) universe_is

  plain : (d.preview ≡ false) × (d.start ≡ 0)
  unfolding console.packet_with
  plain = (sym (ap (λ (y : Data). y.preview) due.2), sym (ap (λ (y : Data). y.start) due.2))

  kind_is : kind_of d ≡ kind_by (not d.terminated)
  kind_is =
      ap (λ b. if d.terminated then Termination else (if b then Preview else (if d.start == 0 then Live else Other))) plain.0
      ∙ ap (λ (b : Bool). if d.terminated then Termination else (if b then Live else Other)) (eq-eqb d.start 0 plain.1)
      ∙ elim d.terminated as (λ b. (if b then Termination else Live) ≡ kind_by (not b)) [ true ↦ refl | false ↦ refl ]

  is_own : is_of c.show.cid d.universe x ≡ true
  is_own = and_from _ _ (same-itself c.show.cid) (eq-eqb d.universe d.universe refl)

  -- the packet on the wire is the entry at its place
  pub numbered : packet_of d ≡ packet_at c.show.cid (stream_of c.show.cid d.universe (sent ++ x ∷ [])) (place_of c.show.cid d.universe (length sent) (sent ++ x ∷ []))
  unfolding is_live priority levels
  numbered =
      let st = stream_of c.show.cid d.universe (sent ++ x ∷ []) in
      let q = place_of c.show.cid d.universe (length sent) (sent ++ x ∷ []) in
      let here : at st q ≡ x = place_is c.show.cid d.universe (sent ++ x ∷ []) (length sent) x (get_pushed sent x) is_own in
      let number : d.number ≡ number_at st q = number_is ∙ sym (number_next c.show.cid d.universe sent x is_own) in
      λ i. record {
        source = cid_is i;
        sequence_number = number i;
        kind = (kind_is ∙ ap (λ (y : Sent). kind_by (is_live y)) (sym here)) i;
        priority = ap priority (sym here) i;
        levels = ap levels (sym here) i;
      }

-- How many packets of a stream were sent is known from the latest of them.
use Rattle.std.proofs.Common.{◌≡◌, ℕ, zero, suc, ◌+◌, Bool, true, false, cond, List, [], ◌∷◌, map, take, Option, Some, None, refl, sym, ap, ◌∙◌, arith, slice_get}
use Rattle.std.specs.Prelude.{option_map, count_by, if◌then◌else◌}
use Rattle.std.proofs.lemmas.Bool.{and_parts, eqb-true}
use Rattle.std.proofs.lemmas.List.{take-map}
use Rattle.std.proofs.lemmas.Option.{same_Some, none-some as none_some}
use Rattle.sacn_packets.specs.declared.framing.packet.Packet.{Packet}
use Rattle.sacn_packets.specs.declared.framing.packet.Packet.TheVariants.{DataPacket, PagePacket, SyncPacket}
use Rattle.sacn_world.specs.declared.console.Console.{Console}
use Rattle.sacn_world.specs.Streams.{is_of, place_of}
use Rattle.sacn_world.specs.Watches.{Watch}
use Rattle.sacn_world.specs.Wire.{SentDatagram, InStream, seen_sent, stream_in, is_in, is_filed, place_in, AreFiled}
use Rattle.sacn_world.specs.Invariants.{Kept}
use Rattle.sacn_world.proofs.Sources.{same_source}
use Rattle.sacn_world.proofs.Ran.{take_more}
use Rattle.sacn_world.proofs.Consoles.{count_push}
use Rattle.sacn_world.proofs.Posting.{filed_is, count_filed}

-- ---- one datagram more

pub count_more : {X : Type 0} (p : X → Bool) (xs : List X) (k : ℕ) (x : X) (b : Bool) → slice_get xs k ≡ Some x → p x ≡ b → count_by p (take (k + 1) xs) ≡ count_by p (take k xs) + cond b 1 0
count_more p xs k x b e is = ap (count_by p) (take_more xs k x e) ∙ count_push p (take k xs) x b is

-- a datagram with a place in the stream stands in it, right after those that it counts
filed_by : (s : List ℕ) (u : ℕ) (f : SentDatagram) (q : ℕ) (b : Bool) → is_filed s u f ≡ b → (if b then option_map (λ (i : InStream). i.place) f.stream else None) ≡ Some q → (is_filed s u f ≡ true) × (option_map (λ (i : InStream). i.place) f.stream ≡ Some q)
filed_by s u f q true is e = (is, e)
filed_by s u f q false is e = absurd (none_some q e)

in_stream : (s : List ℕ) (u : ℕ) (f : SentDatagram) (q : ℕ) (o : Option InStream) → f.stream ≡ o → (same' : (s ≡ f.source) × (is_in u o ≡ true)) → option_map (λ (i : InStream). i.place) o ≡ Some q → (i : InStream) × (f.stream ≡ Some i) × (i.universe ≡ u) × (i.place ≡ q)
in_stream s u f q None is same' e = absurd (none_some q e)
in_stream s u f q (Some i) is same' e = (i, is, eqb-true _ _ same'.1, same_Some i.place q e)

pub last_filed : (fs : List SentDatagram) → AreFiled fs → (s : List ℕ) (u k : ℕ) (f : SentDatagram) (q : ℕ) → slice_get fs k ≡ Some f → place_in s u f ≡ Some q → count_by (is_filed s u) (take (k + 1) fs) ≡ q + 1
last_filed fs filed s u k f q e there =
    let a = filed_by s u f q (is_filed s u f) refl there in
    let parts = and_parts _ _ a.0 in
    let own = same_source s f.source parts.0 in
    let i = in_stream s u f q f.stream refl (own, parts.1) a.1 in
    let n : i.0.place ≡ count_by (is_filed s u) (take k fs) = filed k f i.0 e i.1 ∙ (λ j. count_by (is_filed (sym own j) (i.2 j)) (take k fs)) in
    count_more (is_filed s u) fs k f true e a.0 ∙ omega (arith, n, i.3)

not_filed_by : (s : List ℕ) (u : ℕ) (f : SentDatagram) (o : Option InStream) → f.stream ≡ o → (b : Bool) → is_filed s u f ≡ b → is_in u o ≡ true → (if b then option_map (λ (i : InStream). i.place) o else None) ≡ None → b ≡ false
not_filed_by s u f o is false e inside none = refl
not_filed_by s u f None is true e inside none = cc
not_filed_by s u f (Some i) is true e inside none = cc

pub none_filed : (fs : List SentDatagram) (s : List ℕ) (u k : ℕ) (f : SentDatagram) → slice_get fs k ≡ Some f → place_in s u f ≡ None → count_by (is_filed s u) (take (k + 1) fs) ≡ count_by (is_filed s u) (take k fs)
none_filed fs s u k f e none =
    let no : is_filed s u f ≡ false = elim (is_filed s u f) as (λ b. is_filed s u f ≡ b → (if b then option_map (λ (i : InStream). i.place) f.stream else None) ≡ None → b ≡ false) [
      | true ↦ λ is n. not_filed_by s u f f.stream refl true is (and_parts _ _ is).1 n
      | false ↦ λ is n. refl
    ] refl none in
    count_more (is_filed s u) fs k f false e no ∙ omega arith

-- ---- what a world keeps is filed

get_take : {X : Type 0} (n k : ℕ) (xs : List X) (x : X) → slice_get (take n xs) k ≡ Some x → slice_get xs k ≡ Some x
get_take zero k xs x e = absurd (none_some x e)
get_take (suc n) k [] x e = e
get_take (suc n) zero (y ∷ ys) x e = e
get_take (suc n) (suc k) (y ∷ ys) x e = get_take n k ys x e

filed_as : (fs : List SentDatagram) (s : List ℕ) (k : ℕ) (p : Packet) (i : InStream) → ((u : ℕ) → count_by (is_filed s u) (take k fs) ≡ place_of s u k (map seen_sent fs)) → stream_in (map seen_sent fs) k s p ≡ Some i → i.place ≡ count_by (is_filed s i.universe) (take k fs)
filed_as fs s k (DataPacket d) i counts e =
    let is = same_Some _ i e in
    sym (ap (λ (z : InStream). z.place) is) ∙ sym (counts d.universe) ∙ ap (λ (z : InStream). count_by (is_filed s z.universe) (take k fs)) is
filed_as fs s k (PagePacket p) i counts e = absurd (none_some i e)
filed_as fs s k SyncPacket i counts e = absurd (none_some i e)

pub are_filed : (cs : List Console) (fs : List SentDatagram) (ws : List Watch) → Kept cs fs ws → AreFiled fs
unfolding place_of
are_filed cs fs ws keeps k f i e is =
    let sent = map seen_sent fs in
    let d = keeps.datagrams k f e in
    let counts : (u : ℕ) → count_by (is_filed f.source u) (take k fs) ≡ place_of f.source u k sent =
    λ u. count_filed f.source u (take k fs) (λ j g eg. filed_is f.source u g sent j (seen_sent g).packet refl (keeps.datagrams j g (get_take k j fs g eg)).stream) ∙ ap (count_by (is_of f.source u)) (sym (take-map seen_sent k fs)) in
    filed_as fs f.source k (seen_sent f).packet i counts (sym d.stream ∙ is)

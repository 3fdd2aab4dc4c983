-- Texts written one after the other.
use Rattle.std.proofs.Common.{◌≡◌, ℕ, ◌+◌, ◌≤◌, List, [], ◌++◌, length, take, drop, refl, sym, ap, ◌∙◌, append_assoc, arith}
use Rattle.std.proofs.lemmas.List.{length-append, length-drop, take_at, drop_at, drop-drop, take_all, drop_all, append-nil}
use borrow.Rule.Slice.PartMut.{put_mid, mid_of}
use Rattle.sacn_packets.specs.Writing.{put_at}

-- new is old with a text of n octets over its front
pub record IsWritten (old new : List ℕ) (n : ℕ) (text : List ℕ) : Type 0 where
  pub len : length text ≡ n
  pub room : n ≤ length old
  pub is : new ≡ text ++ drop n old

pub nothing_written : (old : List ℕ) → IsWritten old old 0 []
nothing_written old = record { len = refl; room = omega arith; is = refl }

pub put_more : (old new : List ℕ) (n : ℕ) (text more : List ℕ) → IsWritten old new n text → n + length more ≤ length old → IsWritten old (put_at new n more) (n + length more) (text ++ more)
put_more old new n text more w room =
    let front : take n new ≡ text = ap (λ (xs : List ℕ). take n xs) w.is ∙ take_at text (drop n old) n w.len in
    let after : drop n new ≡ drop n old = ap (λ (xs : List ℕ). drop n xs) w.is ∙ drop_at text (drop n old) n w.len in
    let rest : drop (n + length more) new ≡ drop (n + length more) old =
    sym (drop-drop (length more) n new) ∙ ap (λ (xs : List ℕ). drop (length more) xs) after ∙ drop-drop (length more) n old in
    record {
      len = omega (arith, length-append text more, w.len);
      room = room;
      is = rw (front, rest) refl;
    }

-- one text more, by a call of put
pub put_next : (old new next : List ℕ) (n m : ℕ) (text given more : List ℕ) → IsWritten old new n text → next ≡ put_at new n given → given ≡ more → n + length more ≡ m → m ≤ length old → IsWritten old next m (text ++ more)
put_next old new next n m text given more w e same len room =
    let one : IsWritten old (put_at new n more) (n + length more) (text ++ more) = put_more old new n text more w (omega (arith, len)) in
    record { len = one.len ∙ len; room = room; is = e ∙ ap (λ (xs : List ℕ). put_at new n xs) same ∙ one.is ∙ ap (λ (k : ℕ). (text ++ more) ++ drop k old) len }

-- a text more, by a call that was lent all from place n on
pub tail_written : (old new tail : List ℕ) (n k room : ℕ) (text more : List ℕ) → IsWritten old new n text → n + room ≡ length old → length more ≡ k → k ≤ room
    → tail ≡ more ++ drop k (mid_of n room new) → IsWritten old (put_mid n room new tail) (n + k) (text ++ more)
tail_written old new tail n k room text more w size len fits e =
    let front : take n new ≡ text = ap (λ (xs : List ℕ). take n xs) w.is ∙ take_at text (drop n old) n w.len in
    let after : drop n new ≡ drop n old = ap (λ (xs : List ℕ). drop n xs) w.is ∙ drop_at text (drop n old) n w.len in
    let all : length (drop n old) ≤ room = omega (arith, length-drop n old) in
    let lent : mid_of n room new ≡ drop n old = ap (λ (xs : List ℕ). take room xs) after ∙ take_all room (drop n old) all in
    let rest : drop k (mid_of n room new) ≡ drop (n + k) old = ap (λ (xs : List ℕ). drop k xs) lent ∙ drop-drop k n old in
    let nothing : drop room (drop n new) ≡ [] = ap (λ (xs : List ℕ). drop room xs) after ∙ drop_all room (drop n old) all in
    let is : put_mid n room new tail ≡ text ++ ((more ++ drop (n + k) old) ++ []) =
    ap (λ (xs : List ℕ). xs ++ (tail ++ drop room (drop n new))) front ∙ ap (λ (xs : List ℕ). text ++ (tail ++ xs)) nothing ∙ ap (λ (xs : List ℕ). text ++ (xs ++ [])) (e ∙ ap (λ (xs : List ℕ). more ++ xs) rest) in
    record {
      len = omega (arith, length-append text more, w.len, len);
      room = omega arith;
      is = is ∙ ap (λ (xs : List ℕ). text ++ xs) (append-nil (more ++ drop (n + k) old)) ∙ sym (append_assoc text more (drop (n + k) old));
    }

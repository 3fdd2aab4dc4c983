-- A buffer that is filled by one read after another.
use Rattle.std.proofs.Common.{◌≡◌, ℕ, ◌+◌, ◌-◌, ◌≤◌, ◌<◌, List, [], ◌++◌, Option, None, Some, length, take, slice_range, sym, ap, ◌∙◌, subst, le_refl, drop_at, length-take-le, length-append, length-take, arith, append-nil}
use Rattle.std.proofs.lemmas.Slice.{take-put_mid_below}
use Rattle.std.specs.Prelude.{IfSome}
use Rattle.std.specs.Io.KnownBytes.{Consumes, IsAtEnd}
use Rattle.std.proofs.KnownBytes.{Consumes-trans}
use borrow.Rule.Slice.PartMut.{put_mid, post_of}
use lib.Seq.{take-add, take-append-le}

take_split : (a b : ℕ) (old new : List ℕ) → a ≤ b → take a new ≡ take a old → take a old ++ slice_range new a b ≡ take b new
take_split a b old new h front =
    let same : a + (b - a) ≡ b = omega arith in
    ap (λ l. l ++ slice_range new a b) (sym front) ∙ sym (take-add a (b - a) new) ∙ ap (λ n. take n new) same

slice_range-put_mid : (a k n : ℕ) (xs ys : List ℕ) → a ≤ length xs → n ≤ length ys → slice_range (put_mid a k xs ys) a (a + n) ≡ take n ys
slice_range-put_mid a k n xs ys within fits =
    let same : (a + n) - a ≡ n = omega arith in
    let after = post_of a k xs in
    ap (take ((a + n) - a)) (drop_at (take a xs) (ys ++ after) a (length-take-le a xs within)) ∙ ap (λ m. take m (ys ++ after)) same ∙ take-append-le n ys after fits

-- one read more
pub filled_more : (a b c : Option (List ℕ)) (at n k : ℕ) (buffer read : List ℕ) → at ≤ length buffer → n ≤ length read
    → Consumes a b (take at buffer) → Consumes b c (take n read) → Consumes a c (take (at + n) (put_mid at k buffer read))
filled_more a b c at n k buffer read within fits before more =
    let part = slice_range-put_mid at k n buffer read within fits in
    let joined = take_split at (at + n) buffer (put_mid at k buffer read) (omega arith) (take-put_mid_below _ _ _ _ _ (le_refl _) within) in
    subst (Consumes a c) (ap (λ l. take at buffer ++ l) (sym part) ∙ joined) (Consumes-trans _ _ _ _ _ before more)

-- a read that failed
pub filled_still : (a b c : Option (List ℕ)) (at k : ℕ) (buffer read : List ℕ) → at ≤ length buffer
    → Consumes a b (take at buffer) → Consumes b c [] → Consumes a c (take at (put_mid at k buffer read))
filled_still a b c at k buffer read within before kept =
    subst (Consumes a c) (sym (take-put_mid_below _ _ _ _ _ (le_refl _) within)) (subst (Consumes a c) (append-nil (take at buffer)) (Consumes-trans _ _ _ _ _ before kept))

-- the reader is at its end, and the buffer isn't full
pub too_short : (a b c : Option (List ℕ)) (at : ℕ) (buffer : List ℕ) → at < length buffer → Consumes a b (take at buffer) → Consumes b c [] → IsAtEnd c → IfSome a (λ octets. length octets < length buffer)
too_short None b c at buffer within before kept end = tt
too_short (Some xs) None c at buffer within before kept end = absurd before
too_short (Some xs) (Some ys) None at buffer within before kept end = absurd kept
too_short (Some xs) (Some ys) (Some zs) at buffer within before kept end =
    let none : length ys ≡ 0 = ap length (kept ∙ end) in
    omega (arith, ap length before, length-append (take at buffer) ys, length-take at buffer, none, within)

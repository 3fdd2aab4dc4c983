-- Where elements stand in joined lists.
use Rattle.std.proofs.Common.{◌≡◌, ℕ, zero, suc, List, [], ◌∷◌, ◌++◌, length, Some, arith, slice_get}

abbrev pub Stands : {X : Type 0} → X → List X → Type 0
Stands x xs = (k : ℕ) × (slice_get xs k ≡ Some x)

pub stands_left : {X : Type 0} (xs ys : List X) (k : ℕ) (x : X) → slice_get xs k ≡ Some x → slice_get (xs ++ ys) k ≡ Some x
stands_left [] ys k x e = absurd (cc)
stands_left (y ∷ xs) ys zero x e = e
stands_left (y ∷ xs) ys (suc k) x e = stands_left xs ys k x e

pub stands_right : {X : Type 0} (xs ys : List X) (k : ℕ) (x : X) → slice_get ys k ≡ Some x → Stands x (xs ++ ys)
stands_right [] ys k x e = (k, e)
stands_right (y ∷ xs) ys k x e = let r = stands_right xs ys k x e in (suc r.0, r.1)

-- at one place of two lists, behind zs many elements of each
pub both_right : {X Y : Type 0} (xs : List X) (zs : List Y) (ys : List X) (bs : List Y) (k : ℕ) (x : X) (y : Y) → length zs ≡ length xs
    → slice_get ys k ≡ Some x → slice_get bs k ≡ Some y → (j : ℕ) × (slice_get (xs ++ ys) j ≡ Some x) × (slice_get (zs ++ bs) j ≡ Some y)
both_right [] [] ys bs k x y n e f = (k, e, f)
both_right [] (b ∷ zs) ys bs k x y n e f = absurd (omega (arith, n))
both_right (z ∷ xs) [] ys bs k x y n e f = absurd (omega (arith, n))
both_right (z ∷ xs) (b ∷ zs) ys bs k x y n e f = let r = both_right xs zs ys bs k x y (omega (arith, n)) e f in (suc r.0, r.1, r.2)

-- Numbers, options and pages, plainly.
use Rattle.std.proofs.Common.{◌≡◌, ℕ, ◌==◌, true, Option, Some, None, refl, arith, sym}
use Rattle.std.specs.Option.{option_map}
use Rattle.sacn_console.specs.Lines.{Page, Datagram, Paged}

pub same_number : (a b : ℕ) → (a == b) ≡ true → a ≡ b
same_number a b h = grind arith

pub some_same : {X : Type 0} (a b : X) → Some a ≡ Some b → a ≡ b
some_same a b e = cc

pub option_paged : (o : Option Page) (g : Datagram) → option_map Paged o ≡ Some g → (p : Page) × (o ≡ Some p) × (g ≡ Paged p)
option_paged None g e = absurd (cc)
option_paged (Some p) g e = (p, refl, sym (some_same _ _ e))

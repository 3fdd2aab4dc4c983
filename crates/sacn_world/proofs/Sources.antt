-- Sources are told apart by their octets.
use Rattle.std.proofs.Common.{◌≡◌, ℕ, true, List, refl, ap}
use Rattle.std.specs.declared.cmp.Ordering.{Ordering}
use Rattle.std.specs.declared.cmp.Ordering.TheVariants.{Less, Equal, Greater}
use Rattle.std.specs.Ordering.{is_eq, nat_cmp}
use Rattle.std.specs.Cmp.{tied_itself}
use Rattle.std.specs.Cmp.Lexicographic.{slice_cmp, nat_list_cmp_total}
use Rattle.std.specs.FinMap.{nat_cmp-IsAntisymmetric, slice_cmp-IsAntisymmetric}
use Rattle.sacn_sources.specs.Order.{order, same}

equal : (o : Ordering) → is_eq o ≡ true → o ≡ Equal
equal Less e = cc
equal Equal e = refl
equal Greater e = cc

pub same_source : (a b : List ℕ) → same a b ≡ true → a ≡ b
unfolding order
same_source a b e = slice_cmp-IsAntisymmetric nat_cmp-IsAntisymmetric a b (equal (slice_cmp nat_cmp a b) e)

pub order-itself : (a : List ℕ) → order a a ≡ Equal
unfolding order
order-itself a = tied_itself nat_list_cmp_total a

pub same-itself : (a : List ℕ) → same a a ≡ true
same-itself a = ap is_eq (order-itself a)

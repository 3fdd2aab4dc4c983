-- Two CIDs are the same where their octets are.
use Rattle.std.proofs.Common.{◌≡◌, ℕ, List, sym}
use Rattle.std.specs.Str.{bytes_eq}
use Rattle.std.proofs.lemmas.Map.Text.{is_eq-slice_cmp}
use Rattle.sacn_sources.specs.Order.{order, same}

pub same_octets : (a b : List ℕ) → bytes_eq a b ≡ same a b
unfolding order
same_octets a b = sym (is_eq-slice_cmp a b)

-- The levels of a universe.
use Rattle.std.proofs.Common.{◌≡◌, ℕ, ◌-◌, List, ◌++◌, length, replicate, refl}
use Rattle.sacn_source.specs.Rows.{slots_of}

pub shown : (levels given others : List ℕ) (n : ℕ) → given ≡ levels → others ≡ replicate n 0 → n ≡ 512 - length levels → given ++ others ≡ slots_of levels
unfolding slots_of
shown levels given others n e f g = rw (e, f, g) refl

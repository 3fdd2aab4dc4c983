-- Sets of universes, a bit each.
use Rattle.std.specs.Prelude.{◌≡◌, ℕ, zero, suc, ◌/◌, ◌%◌, ◌^◌, ◌<◌, Bool, not, false, ◌==◌, List, [], ◌∷◌, ◌++◌, length, get_or, set, replicate, bit_xor, if◌then◌else◌}
use Rattle.std.specs.Int.{bit_at}
use Rattle.sacn_network.specs.declared.universe_set.TheConstants.{WORDS}

-- none
unfoldable pub no_universes : List ℕ
no_universes = replicate WORDS 0

-- the bit of a universe in words of 64
abbrev pub has_bit : List ℕ → ℕ → Bool
has_bit words universe = bit_at (get_or words (universe / 64) 0) (universe % 64) == 1

-- a set with that bit turned
abbrev pub turned : ℕ → List ℕ → List ℕ
turned universe words = set words (universe / 64) (bit_xor (get_or words (universe / 64) 0) (2 ^ (universe % 64)))

-- an answer is another one
abbrev pub is_otherwise : Bool → Bool → Bool
is_otherwise now before = if now then not before else before

-- a set with a universe in it, or without it
unfoldable pub marked : ℕ → Bool → List ℕ → List ℕ
marked universe is_in words = if is_otherwise is_in (has_bit words universe) then turned universe words else words

-- the universes below a number that are in it, ascending
unfoldable pub universes_below : ℕ → List ℕ → List ℕ
universes_below zero words = []
universes_below (suc universe) words = if has_bit words universe then universes_below universe words ++ (universe ∷ []) else universes_below universe words

-- all of them
abbrev pub universes_in : List ℕ → List ℕ
universes_in words = universes_below (2 ^ 16) words

-- Then that universe is in it, or isn't, and each other one is where it was before.
abbrev pub MarksOneUniverse : Type 0
MarksOneUniverse = (words : List ℕ) (universe : ℕ) (is_in : Bool) (other : ℕ) → length words ≡ WORDS → other < 2 ^ 16 → has_bit (marked universe is_in words) other ≡ (if other == universe then is_in else has_bit words other)

-- No universe is in a set of none.
abbrev pub HasNone : Type 0
HasNone = (universe : ℕ) → has_bit no_universes universe ≡ false

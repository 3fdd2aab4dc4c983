-- The pieces of a line's words: what stands between the signs, and the signs (profile).
use Rattle.std.specs.Prelude.{◌==◌, ◌||◌, ℕ, Bool, List, [], ◌∷◌, ◌++◌, if◌then◌else◌}
use Rattle.sacn_files.specs.Words.{words_at_end}

-- a plus, a minus or a percent sign
abbrev pub is_sign : ℕ → Bool
is_sign b = (b == 43) || (b == 45) || (b == 37)

-- the pieces of a text that comes after a part of a piece: a sign is a piece of its own
abbrev pub pieces_after : List ℕ → List ℕ → List (List ℕ)
pieces_after part [] = words_at_end part
pieces_after part (b ∷ bs) = if is_sign b then words_at_end part ++ (b ∷ []) ∷ pieces_after [] bs else pieces_after (part ++ b ∷ []) bs

abbrev pub pieces_in : List ℕ → List (List ℕ)
pieces_in word = pieces_after [] word

-- the pieces of each word in turn
abbrev pub pieces_of : List (List ℕ) → List (List ℕ)
pieces_of [] = []
pieces_of (w ∷ ws) = pieces_in w ++ pieces_of ws

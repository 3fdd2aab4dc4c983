-- The packet of an interface that speaks the protocol of the DMX USB Pro.
use Rattle.std.specs.Prelude.{ℕ, List, [], ◌∷◌, ◌++◌}

-- start, label 6, the length 513 from its low octet on, the frame, end
abbrev pub widget_text : List ℕ → List ℕ
widget_text frame = 0x7e ∷ 6 ∷ 1 ∷ 2 ∷ frame ++ 0xe7 ∷ []

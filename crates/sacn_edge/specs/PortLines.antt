-- What a node's loop writes after a look at its ports.
use Rattle.std.specs.Prelude.{◌≡◌, ℕ, ◌<◌, List, [], ◌∷◌, ◌++◌, length, take, Option, None, Some, if◌then◌else◌}
use Rattle.sacn_node.specs.declared.port_frame.PortFrame.{PortFrame}
use Rattle.sacn_edge.specs.Additions.{Adds}
use Rattle.sacn_edge.specs.NodeText.{line_text}

-- the line of a frame, where there is one
abbrev pub frame_text : ℕ → ℕ → Option (List ℕ) → List ℕ
frame_text port moment None = []
frame_text port moment (Some frame) = line_text (record { port = port; moment = moment; frame = frame })

-- a port's line, where its frame is another one than at the look before
abbrev pub port_text : ℕ → PortFrame → List ℕ
port_text moment p = if p.is_new then frame_text p.port moment p.last else []

abbrev pub ports_text : ℕ → List PortFrame → List ℕ
ports_text moment [] = []
ports_text moment (p ∷ ps) = port_text moment p ++ ports_text moment ps

-- the texts of some ports were written, and of that of the next port a proper part
abbrev pub FailsAmong : ℕ → List PortFrame → (List ℕ → Type 0) → (List ℕ → Type 0) → Type 0
FailsAmong moment ps old new =
    (done : List PortFrame) × (p : PortFrame) × (rest : List PortFrame) × (k : ℕ)
    × (ps ≡ done ++ p ∷ rest)
    × (k < length (port_text moment p))
    × Adds old new (ports_text moment done ++ take k (port_text moment p))

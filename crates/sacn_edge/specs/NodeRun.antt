-- What a run of a node reads, counts and leaves. Lists of turns and lines have the latest first.
use Rattle.std.specs.Prelude.{◌≡◌, ℕ, ◌<◌, List, [], ◌∷◌, ◌++◌, length, take, count_by, Option}
use Rattle.sacn_node.specs.Cores.{Node}
use Rattle.sacn_edge.specs.declared.report.NodeReport.{NodeReport}
use Rattle.sacn_edge.specs.Additions.{Adds, Extends}
use Rattle.sacn_edge.specs.Hearings.{Heard, Transcript, Hears, is_datagram, is_failure}
use Rattle.sacn_edge.specs.NodeText.{Turn, FrameLine, line_text, lines_after, text_of}

-- the readings and what was heard, in the order of the turns
abbrev pub readings : List Turn → List ℕ
readings [] = []
readings (t ∷ ts) = readings ts ++ t.now ∷ []

abbrev pub hearings : List Turn → List Heard
hearings [] = []
hearings (t ∷ ts) = hearings ts ++ t.heard ∷ []

-- the clock and the link tell these turns, where they tell
pub record Turned (clock_old clock_new : Option (List ℕ)) (link_old link_new : Option Transcript) (ts : List Turn) : Type 0 where
  pub clock : Extends clock_old clock_new (readings ts)
  pub link : Hears link_old link_new (hearings ts)

-- the datagrams received, and the receives that failed
abbrev pub report_of : List Turn → NodeReport
report_of ts = record {
  received = count_by (λ (t : Turn). is_datagram t.heard) ts;
  failed = count_by (λ (t : Turn). is_failure t.heard) ts;
}

-- a line of the turn t was not written whole: what is written has each line before it, and a proper part of it
abbrev pub StopsIn : Node → Turn → List Turn → (List ℕ → Type 0) → (List ℕ → Type 0) → Type 0
StopsIn first t ts old new =
    (unwritten : List FrameLine) × (l : FrameLine) × (written : List FrameLine) × (k : ℕ)
    × (lines_after first (t ∷ ts) ≡ unwritten ++ l ∷ (written ++ lines_after first ts))
    × (k < length (line_text l))
    × Adds old new (text_of (written ++ lines_after first ts) ++ take k (line_text l))

-- How many places one after another of one life came last to a node, on one of its universes.
use Rattle.std.specs.Prelude.{◌≡◌, ℕ, ◌+◌, ◌-◌, ◌<◌, ◌≤◌, ◌⊎◌, Bool, true, false, ◌==◌, ◌&&◌, if◌then◌else◌, List, length, Option, Some, None}
use Rattle.sacn_sources.specs.declared.answer.Taken.{Taken}
use Rattle.sacn_sources.specs.declared.answer.Taken.TheVariants.{Held, Observed, EndedNow, OutOfSequence, SourcesExceeded, UnknownIgnored}
use Rattle.sacn_world.specs.Streams.{Sent, at, is_live, life_at, number_at, late}
use Rattle.sacn_world.specs.Holdings.{Hold, hold_of}

-- q comes right after the place before, in one life
abbrev pub comes_next : List Sent → Option ℕ → ℕ → Bool
comes_next st None q = false
comes_next st (Some p) q = (p + 1 == q) && (life_at st p == life_at st q)

abbrev pub count_by_answer : Bool → Bool → Taken → ℕ → ℕ
count_by_answer false next a c = 0
count_by_answer true next SourcesExceeded c = 0
count_by_answer true next Held c = if next then c + 1 else 1
count_by_answer true next Observed c = if next then c + 1 else 1
count_by_answer true next EndedNow c = if next then c + 1 else 1
count_by_answer true next OutOfSequence c = if next then c + 1 else 1
count_by_answer true next UnknownIgnored c = if next then c + 1 else 1

-- the count after a delivery of q that was answered a, where c was the count and p the place delivered before
abbrev pub count_after : List Sent → Option ℕ → ℕ → Taken → ℕ → ℕ
count_after st p q a c = count_by_answer (is_live (at st q)) (comes_next st p q) a c

-- the c places up to q are of one life, and what is held of the source is q, or a place that all c are late after
pub record Streak (st : List Sent) (s : List ℕ) (c q : ℕ) (hs : List Hold) : Type 0 where
  pub within : q < length st
  pub reach : c ≤ q + 1
  pub alike : (j : ℕ) → j < c → life_at st (q - j) ≡ life_at st q
  pub behind : (h : Hold) → hold_of s hs ≡ Some h → (h.place ≡ q) ⊎ ((j : ℕ) → j < c → late (number_at st h.place) (number_at st (q - j)) ≡ true)

-- the count c of a stream whose place delivered last is that one
abbrev pub CountOk : List Sent → List ℕ → Option ℕ → ℕ → List Hold → Type 0
CountOk st s last c hs = (c ≡ 0) ⊎ ((p : ℕ) × (last ≡ Some p) × Streak st s c p hs)

-- What the steps of a node have in common with the plain rule, for all ports and after every history.
use Rattle.std.specs.Prelude.{◌≡◌, ℕ, ◌==◌, List}
use Rattle.std.specs.List.{list_any}
use Rattle.std.specs.Option.{option_map}
use Rattle.std.specs.FinMap.{get}
use Rattle.sacn_sources.specs.Laws.{row_with}
use Rattle.sacn_node.specs.Setup.{Port, universes}
use Rattle.sacn_packets.specs.Universe.{Rising}
use Rattle.sacn_node.specs.Cores.{core_row}
use Rattle.sacn_node.specs.Calls.{Call, answer_to, after_calls, moment_in_use, IsGreatestMoment}
use Rattle.sacn_node.specs.PlainRule.{has_universe, holding, plain_rule}

-- each answer is that of the plain rule
abbrev pub AnswersByThePlainRule : Type 0
AnswersByThePlainRule = (ports : List Port) (call : Call) (earlier : List Call) → answer_to call (after_calls ports earlier) ≡ plain_rule ports call earlier

-- the node holds a source on a universe exactly where the plain rule does, with the same number, levels and moment
abbrev pub HoldsByThePlainRule : Type 0
HoldsByThePlainRule = (ports : List Port) (calls : List Call) (u : ℕ) (cid : List ℕ) →
    core_row u cid (after_calls ports calls).core ≡ option_map (row_with cid) (get (holding ports calls u) cid)

-- the ports stay those of the setup
abbrev pub KeepsItsPorts : Type 0
KeepsItsPorts = (ports : List Port) (calls : List Call) → (after_calls ports calls).ports ≡ ports

-- the moment in use is the greatest that was handed in, 0 at first
abbrev pub UsesTheGreatestMoment : Type 0
UsesTheGreatestMoment = (ports : List Port) (calls : List Call) →
    ((after_calls ports calls).core.moment ≡ moment_in_use calls) × IsGreatestMoment calls (moment_in_use calls)

-- the universes are those that some range of a port names, each once, and they rise
abbrev pub HasTheUniversesOfItsRanges : Type 0
HasTheUniversesOfItsRanges = (ports : List Port) → Rising (universes ports)
    × ((u : ℕ) → has_universe ports u ≡ list_any (λ p. list_any (λ r. r.universe == u) p.ranges) ports)

use Rattle.std.proofs.Common.{sym, ap, ◌∙◌, subst, ℕ}
use Rattle.sacn_packets.specs.Universe.{IsUniverse}
use Rattle.sacn_replay.specs.Maps.{mapped}
use Rattle.sacn_replay.proofs.Rewriting.{mapped_range}
use Rattle.sacn_replay.proofs.universes.UniverseMap.of.Goals as goal

pub returns-clause-range : goal.returns-clause-range
returns-clause-range c =
    λ is. subst (λ (n : ℕ). IsUniverse n) (sym (c.mapped.ensures ∙ ap (λ ps. mapped ps c.args.universe) c.as_slice.ensures.value)) (mapped_range c.self.inside.mappings.items c.args.universe c.self.invariant is)

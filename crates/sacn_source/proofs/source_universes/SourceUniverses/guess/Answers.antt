use Rattle.std.proofs.Common.{◌≡◌, ◌<◌, length, rules}
use Rattle.sacn_source.proofs.Places.{read_there}
use Rattle.sacn_source.proofs.source_universes.SourceUniverses.guess.Goals as goal

pub returns : goal.returns
returns c =
    let within : c.from-place.result < length c.self.inside.rows.items = search rules in
    let same : c.index-row.result.now.line.universe ≡ c.args.universe = search rules in
    read_there _ c.args.self.now c.args.universe c.from-place.result c.index-row.result.now c.self.view_is c.self.invariant.1 within (search rules) same

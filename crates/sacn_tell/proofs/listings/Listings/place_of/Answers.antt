use Rattle.std.proofs.Common.{◌∙◌, ap, rules}
use Rattle.std.specs.Option.{is_some}
use Rattle.std.specs.Str.{bytes_eq}
use Rattle.sacn_tell.proofs.FirstPlaces.{found_any}
use Rattle.sacn_tell.proofs.listings.Listings.place_of.Goals as goal

pub returns-clause-place : goal.returns-clause-place
returns-clause-place c = search rules

pub returns-clause-known : goal.returns-clause-known
returns-clause-known c = ap is_some (returns-clause-place c) ∙ found_any (λ source. bytes_eq source c.args.cid.now) c.args.self.now.sources.items

use Rattle.std.proofs.Common.{◌==◌, Option, Vec, Global, ℕ, ap}
use Rattle.std.specs.List.{before_first}
use Rattle.std.specs.Option.{option_map}
use Rattle.sacn_discovery.specs.Collection.{after_expire}
use Rattle.sacn_tell.specs.ListBooks.{list_book}
use Rattle.sacn_tell.proofs.KeptAlready.{list_left_out}
use Rattle.sacn_tell.proofs.listings.Listings.compare.Goals as goal

pub returns-in-None-clause-book : goal.returns-in-None-clause-book
returns-in-None-clause-book c =
    list_left_out (before_first (λ octet. octet == 0) c.args.page.now.name) (list_book c.args.self.now) (list_book c.new_list.new.self) (after_expire c.args.now c.args.self.now.collector) c.cid-cid.result c.args.page.now.cid _ c.cid-cid.ensures c.new_list.ensures.book c.in_ok-universes.ensures.list (ap (λ (o : Option (Vec ℕ Global)). option_map (λ v. v.items) o) c.in-None.is)

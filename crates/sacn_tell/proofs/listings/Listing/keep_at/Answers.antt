use Rattle.sacn_tell.proofs.ListBooks.{list_put}
use Rattle.sacn_tell.proofs.listings.Listing.keep_at.Goals as goal

pub returns-clause-lists : goal.returns-clause-lists
returns-clause-lists c =
    list_put c.keep.result c.args.name.now c.args.universes.items c.args.known.now c.args.place c.index-known-place.result c.keep.new.self c.if-place-known.false c.index-known-place.is c.keep.ensures.list

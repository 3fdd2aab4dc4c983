use Rattle.std.proofs.Common.{◌++◌, is_some, take}
use Rattle.std.specs.List.{flat_map, list_any}
use Rattle.sacn_tell.specs.declared.tables.TheConstants.{LIST_HEAD}
use Rattle.sacn_tell.specs.Tables.{head_where, list_told}
use Rattle.sacn_tell.specs.Tellings.{Tells}
use Rattle.sacn_tell.proofs.tables.tell_listings.Given as goal

-- the rows so far
abbrev pub invariant-loop-listing : goal.invariant-loop-listing
invariant-loop-listing g l = Tells {O = g.row.O.Denot} g.O.Write.contents l.fn.teller l.teller (head_where (list_any (λ r. is_some r.universes) l.listings) l.fn.teller.form LIST_HEAD.now ++ flat_map (list_told l.fn.teller.form l.streams) (take l.listing-index l.listings))

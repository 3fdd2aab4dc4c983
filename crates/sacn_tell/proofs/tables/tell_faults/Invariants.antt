use Rattle.std.proofs.Common.{◌++◌, take}
use Rattle.std.specs.List.{flat_map}
use Rattle.sacn_tell.specs.declared.tables.TheConstants.{REFUSED_HEAD}
use Rattle.sacn_tell.specs.Tables.{has_refusals, head_where, refused_for, refused_told}
use Rattle.sacn_tell.specs.Tellings.{Tells}
use Rattle.sacn_tell.proofs.tables.tell_faults.Given as goal

-- the rows so far
abbrev pub invariant-loop-fault : goal.invariant-loop-fault
invariant-loop-fault g l = Tells {O = g.row.O.Denot} g.O.Write.contents l.fn.teller l.teller (head_where (has_refusals l.tally l.faults) l.fn.teller.form REFUSED_HEAD.now ++ flat_map (λ fault. refused_told l.fn.teller.form fault (refused_for l.tally fault)) (take l.fault-index l.faults))

use Rattle.std.proofs.Common.{arith, refl, ap, ◌∙◌}
use Rattle.std.specs.List.{insert}
use Rattle.sacn_source.specs.Table.{Table}
use Rattle.sacn_source.proofs.Orders.{room_more, room_none, room_there}
use Rattle.sacn_source.proofs.Places.{ok_admitted, gap_read}
use Rattle.sacn_source.proofs.source_universes.SourceUniverses.admit.Goals as goal

pub returns-then-not-has_room-clause-answer : goal.returns-then-not-has_room-clause-answer
returns-then-not-has_room-clause-answer c = rw (room_none c.args.self.now c.has_room.result c.has_room.ensures c.if-not-has_room.true) refl

pub returns-then-not-has_room-clause-table : goal.returns-then-not-has_room-clause-table
returns-then-not-has_room-clause-table c = rw (room_none c.args.self.now c.has_room.result c.has_room.ensures c.if-not-has_room.true) refl

pub returns-clause-answer : goal.returns-clause-answer
returns-clause-answer c = rw (room_more c.args.self.now c.has_room.result c.has_room.ensures c.if-not-has_room.false) refl

pub returns-clause-table : goal.returns-clause-table
returns-clause-table c =
    rw (room_more c.args.self.now c.has_room.result c.has_room.ensures c.if-not-has_room.false)
    (gap_read _ c.args.self.now c.args.row _ c.self.view_is (c.in-Ok.ensures.items ∙ ap (λ (t : Table). insert t.rows c.args.gap c.args.row) c.self.view_is ∙ c.requires.gap))

pub invariant_of-self : goal.invariant_of-self
invariant_of-self c = (
  omega (arith, c.self.invariant.0, c.in-Ok.ensures.capacity),
  ok_admitted _ c.args.self.now c.args.row _ c.self.view_is c.self.invariant.1 c.requires.row (room_there c.args.self.now c.has_room.result c.has_room.ensures c.if-not-has_room.false) (c.in-Ok.ensures.items ∙ ap (λ (t : Table). insert t.rows c.args.gap c.args.row) c.self.view_is ∙ c.requires.gap),
)

use Rattle.std.proofs.Common.{Bor, arith, ◌<◌, List, ℕ, length, map, sym}
use Rattle.sacn_orders.proofs.Selecting.{goes_on, joins, parts_in_turn}
use Rattle.sacn_orders.proofs.grammar.parts_in.Goals as goal
use Rattle.sacn_orders.proofs.grammar.parts_in.Goals.{then-is_joining+in_ok-selection, else-is_joining}

pub loop-i-init : goal.loop-i-init
loop-i-init c = record { within = omega arith; left = rw c.new-selection.ensures (parts_in_turn (map (λ (w : Bor (List ℕ)). w.now) c.args.pieces.now)) }

pub loop-i-preserved : goal.loop-i-preserved
loop-i-preserved c =
    let lt : c.loop-i.i < length c.args.pieces.now = omega arith in
    elim c.if-is_joining.branch [
      | then-is_joining+in_ok-selection w ↦ record {
        within = rw w.start-is (omega arith);
        left = rw (w.selection-is, w.start-is, w.is_added-is, w.is_plus-is_added.ensures) (joins c.args.pieces.now c.loop-i.start c.loop-i.i _ _ c.loop-i.selection _ c.loop-i.is_added lt (sym w.if-is_joining.ensures) (sym w.in_ok-selection.ensures) c.loop-i.invariant.left);
      }
      | else-is_joining w ↦ record {
        within = rw w.start-is (omega arith);
        left = rw (w.selection-is, w.start-is, w.is_added-is) (goes_on c.args.pieces.now c.loop-i.start c.loop-i.i _ _ c.loop-i.selection c.loop-i.is_added c.loop-i.invariant.within lt (sym w.if-is_joining.ensures) c.loop-i.invariant.left);
      }
    ]

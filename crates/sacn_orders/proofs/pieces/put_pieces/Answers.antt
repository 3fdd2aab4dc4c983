use Rattle.std.proofs.Common.{rules, arith, ◌≡◌, ◌∙◌, sym, Bool, true, false, get_or, length, ◌<◌}
use Rattle.std.proofs.lemmas.Str.{IsCharBoundary-start, IsCharBoundary-after_ascii}
use Rattle.sacn_orders.specs.Pieces.{is_sign}
use Rattle.sacn_orders.proofs.PieceLemmas.{at_other, at_sign, sign_is_ascii}
use Rattle.sacn_orders.proofs.pieces.put_pieces.Goals as goal
use Rattle.sacn_orders.proofs.pieces.put_pieces.Goals.{then-is_sign+in_ok-push_piece+in_ok-push_piece-2, else-is_sign}

pub loop-i-init : goal.loop-i-init
loop-i-init c = record {
  within = omega arith;
  cut = IsCharBoundary-start c.args.word.now c.utf8.word;
  left = search rules;
}

sign_here : (c : goal.Joined-is_sign) (b : Bool) → c.is_sign.result ≡ b → is_sign (get_or c.args.word.now c.loop-i.i 0) ≡ b
sign_here c b e = rw (← c.as_bytes-octets.ensures.value) (sym c.is_sign.ensures ∙ e)

pub push_piece-requires-then-is_sign-clause-end : goal.push_piece-requires-then-is_sign-clause-end
push_piece-requires-then-is_sign-clause-end c =
    let lt : c.loop-i.i < length c.args.word.now = omega (arith, c.as_bytes-octets.ensures.len) in
    let sign : is_sign (get_or c.args.word.now c.loop-i.i 0) ≡ true = rw (← c.as_bytes-octets.ensures.value) (sym c.is_sign.ensures ∙ c.if-is_sign.true) in
    IsCharBoundary-after_ascii c.args.word.now c.loop-i.i c.utf8.word lt (sign_is_ascii _ sign)

pub loop-i-preserved : goal.loop-i-preserved
loop-i-preserved c =
    let lt : c.loop-i.i < length c.args.word.now = omega (arith, c.as_bytes-octets.ensures.len) in
    elim c.if-is_sign.branch [
      | then-is_sign+in_ok-push_piece+in_ok-push_piece-2 w ↦
          let sign = sign_here c true w.if-is_sign.true in
          record {
            within = rw w.start-is (omega arith);
            cut = rw w.start-is (IsCharBoundary-after_ascii c.args.word.now c.loop-i.i c.utf8.word lt (sign_is_ascii _ sign));
            left = rw (w.start-is, w.found-is) (at_sign c.args.word.now c.loop-i.start c.loop-i.i 0 _ _ _ _ lt sign c.loop-i.invariant.left w.in_ok-push_piece.ensures w.in_ok-push_piece-2.ensures);
          }
      | else-is_sign w ↦
          let other = sign_here c false w.if-is_sign.false in
          record {
            within = rw w.start-is (omega arith);
            cut = rw w.start-is c.loop-i.invariant.cut;
            left = rw (w.start-is, w.found-is) (at_other c.args.word.now c.loop-i.start c.loop-i.i 0 _ _ c.loop-i.invariant.within lt other c.loop-i.invariant.left);
          }
    ]

use Rattle.std.proofs.Common.{◌++◌, ◌∙◌, ap, refl, arith}
use Rattle.sacn_record.specs.Packets.{big16}
use Rattle.sacn_record.specs.Writing.{shorts}
use Rattle.sacn_record.proofs.Joined.{put_one}
use Rattle.sacn_record.proofs.put.put_shorts.Goals as goal

pub loop-number-preserved : goal.loop-number-preserved
unfolding big16
loop-number-preserved g c =
    (put_one shorts big16 (λ n ns. refl) _ c.loop-number.out.items c.put.new.out.items c.args.numbers.now c.loop-number.number-index (omega arith) c.loop-number.invariant.0 (c.put.ensures.items ∙ ap (λ xs. c.loop-number.out.items ++ xs) c.to_be_bytes.ensures), omega (arith, c.put.ensures.len, c.loop-number.invariant.1))

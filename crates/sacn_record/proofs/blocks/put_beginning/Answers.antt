use Rattle.std.proofs.Common.{◌≡◌, ◌+◌, ◌++◌, length, refl, ap, ◌∙◌, arith}
use Rattle.sacn_record.specs.Blocks.{section_body}
use Rattle.sacn_record.proofs.Whole.{beginning_put, section_body_length}
use Rattle.sacn_record.proofs.blocks.put_beginning.Goals as goal

pub returns : goal.returns
returns c =
    let program = c.args.program.now in
    let pad = c.padding-pad.result.now in
    let size : 36 + length program + length pad ≡ length (section_body program) + 12 = omega (arith, section_body_length program, c.padding-pad.ensures.few) in
    beginning_put program c.args.out.now.items c.put_words.new.out.items c.put.new.out.items c.put-2.new.out.items c.put-3.new.out.items c.put-4.new.out.items c.put_words-2.new.out.items c.put_words-3.new.out.items c.put_words-4.new.out.items pad (36 + length program + length pad) (length program)
    size refl c.padding-pad.ensures.zeros c.requires.empty c.put_words.ensures.items (c.put.ensures.items ∙ ap (λ xs. c.put_words.new.out.items ++ xs) c.to_le_bytes.ensures) (c.put-2.ensures.items ∙ ap (λ xs. c.put.new.out.items ++ xs) c.to_le_bytes-2.ensures)
    (c.put-3.ensures.items ∙ ap (λ xs. c.put-2.new.out.items ++ xs) c.as_bytes.ensures.value) c.put-4.ensures.items c.put_words-2.ensures.items c.put_words-3.ensures.items c.put_words-4.ensures.items

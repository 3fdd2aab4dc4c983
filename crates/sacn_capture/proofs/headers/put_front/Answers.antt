use Rattle.std.proofs.Common.{drop, ◌∙◌, arith, length-take}
use Rattle.std.proofs.lemmas.List.{take_at}
use Rattle.sacn_capture.proofs.headers.put_front.Goals as goal

pub returns-clause-front : goal.returns-clause-front
returns-clause-front c =
    take_at c.copy_from_slice.new.self (drop 8 c.args.octets.now) 8 (omega (arith, c.copy_from_slice.ensures.len, length-take 8 c.args.octets.now, c.requires)) ∙ c.copy_from_slice.ensures.after

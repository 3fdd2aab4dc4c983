use Rattle.sacn_edge.specs.Additions.{Adds}
use Rattle.sacn_text.specs.declared.marked_writer.MarkedWriter.{MarkedWriter}
use Rattle.sacn_text.proofs.Prints.{Told, has, simulates, simulated_all}
use Rattle.sacn_text.proofs.print.print_looks.Goals as goal

pub returns-clause-ok : goal.returns-clause-ok
returns-clause-ok g c =
    let contents = g.W.Write.contents in
    let below = λ (m : MarkedWriter g.row.W.Denot). m.writer in
    let first = c.new-out.result in
    let last = c.sim_text-ended.new.out in
    simulated_all {A = λ xs. Adds (Told contents below first) (Told contents below last) xs} (has contents below first last c.args.writer c.new-out.ensures.writer) c.sim_text-ended.result c.sim_text-ended.new.out.failed c.args.world.now c.args.schedule.now c.sim_text-ended.ensures.ok

pub returns-clause-err : goal.returns-clause-err
returns-clause-err g c =
    let contents = g.W.Write.contents in
    let below = λ (m : MarkedWriter g.row.W.Denot). m.writer in
    let first = c.new-out.result in
    let last = c.sim_text-ended.new.out in
    simulates {A = λ xs. Adds (Told contents below first) (Told contents below last) xs} (has contents below first last c.args.writer c.new-out.ensures.writer) c.sim_text-ended.result c.sim_text-ended.new.out.failed c.args.world.now c.args.schedule.now c.sim_text-ended.ensures.err

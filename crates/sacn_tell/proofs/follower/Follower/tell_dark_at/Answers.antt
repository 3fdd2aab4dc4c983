use Rattle.std.proofs.Common.{◌∙◌}
use Rattle.sacn_network.specs.Networks.{tick_told}
use Rattle.sacn_tell.specs.Shows.{staged}
use Rattle.sacn_tell.specs.Silences.{scene_of}
use Rattle.sacn_tell.proofs.Turning.{dark_scene, dark_written, settled, settled_options}
use Rattle.sacn_tell.proofs.follower.Follower.tell_dark_at.Goals as goal

pub returns-in_err-settle-clause-options : goal.returns-in_err-settle-clause-options
returns-in_err-settle-clause-options g c =
    settled_options {O = g.row.O.Denot} g.O.Write.contents (tick_told c.args.at c.args.self.now.network) c.args.self.now.writer c.tick.new.observer c.settle.new.self c.tick.ensures.told c.settle.ensures.options

pub returns-clause-options : goal.returns-clause-options
returns-clause-options g c =
    c.show_dark.ensures.options
    ∙ settled_options {O = g.row.O.Denot} g.O.Write.contents (tick_told c.args.at c.args.self.now.network) c.args.self.now.writer c.tick.new.observer c.settle.new.self c.tick.ensures.told c.settle.ensures.options

pub returns-clause-told : goal.returns-clause-told
returns-clause-told g c =
    let contents = g.O.Write.contents in
    let writer = c.args.self.now.writer in
    let told = tick_told c.args.at c.args.self.now.network in
    dark_written {O = g.row.O.Denot} contents c.show_dark.result c.args.at (scene_of c.args.self.now) c.tick.new.self writer c.settle.new.self c.show_dark.new.self.writer c.tick.ensures.network
    (settled_options {O = g.row.O.Denot} contents told writer c.tick.new.observer c.settle.new.self c.tick.ensures.told c.settle.ensures.options)
    (settled {O = g.row.O.Denot} contents told writer c.tick.new.observer c.settle.new.self c.tick.ensures.told c.in_ok-settle.ensures.none c.settle.ensures.teller) c.show_dark.ensures.told

pub returns-clause-scene : goal.returns-clause-scene
returns-clause-scene g c =
    dark_scene c.show_dark.result c.args.at (scene_of c.args.self.now) c.show_dark.new.self.network (staged c.show_dark.new.self.stage) (c.show_dark.ensures.network ∙ c.tick.ensures.network) c.show_dark.ensures.stage

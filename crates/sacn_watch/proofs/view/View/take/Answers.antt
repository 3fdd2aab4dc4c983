use Rattle.std.proofs.Common.{◌∙◌}
use Rattle.sacn_tell.proofs.Ticking.{is_taken}
use Rattle.sacn_watch.proofs.view.View.take.Goals as goal

pub returns-in-Ok-DataPacket-clause-taken : goal.returns-in-Ok-DataPacket-clause-taken
returns-in-Ok-DataPacket-clause-taken c =
    λ octets read. is_taken c.args.now c.args.sender octets c.args.reading.now c.args.self.now.network c.take_levels.new.self.network read (c.take_levels.ensures.network ∙ c.take.ensures.network)

pub returns-in-Ok-PagePacket-clause-taken : goal.returns-in-Ok-PagePacket-clause-taken
returns-in-Ok-PagePacket-clause-taken c =
    λ octets read. is_taken c.args.now c.args.sender octets c.args.reading.now c.args.self.now.network c.take.new.self read c.take.ensures.network

pub returns-in-Ok-SyncPacket-clause-taken : goal.returns-in-Ok-SyncPacket-clause-taken
returns-in-Ok-SyncPacket-clause-taken c =
    λ octets read. is_taken c.args.now c.args.sender octets c.args.reading.now c.args.self.now.network c.take.new.self read c.take.ensures.network

pub returns-in-Err-clause-taken : goal.returns-in-Err-clause-taken
returns-in-Err-clause-taken c =
    λ octets read. is_taken c.args.now c.args.sender octets c.args.reading.now c.args.self.now.network c.take.new.self read c.take.ensures.network

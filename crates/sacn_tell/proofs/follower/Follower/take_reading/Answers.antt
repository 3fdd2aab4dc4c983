use Rattle.std.proofs.Common.{ℕ, max, arith, subst}
use Rattle.sacn_network.specs.Networks.{take_told}
use Rattle.sacn_tell.specs.Datagrams.{TellsTurn}
use Rattle.sacn_tell.proofs.Turning.{settled, settled_options, turn_is_told, turn_taken}
use Rattle.sacn_tell.proofs.follower.Follower.take_reading.Goals as goal

pub returns-clause-told : goal.returns-clause-told
returns-clause-told g c =
    let O = g.row.O.Denot in
    let contents = g.O.Write.contents in
    let mid = c.tell_dark.new.self in
    let until = c.in_ok-until.until in
    let told = take_told until c.args.sender c.args.reading.now mid.network in
    subst (λ (t : ℕ). TellsTurn {O = O} contents t c.args.sender c.args.reading.now c.args.self.now c.show_turn.new.self) c.in_ok-until.ensures.moment
    (turn_is_told {O = O} contents until c.args.sender c.args.reading.now c.args.self.now mid c.tell_page.new.self c.show_turn.new.self c.settle.new.self c.take-noted.new.self c.take-noted.result
    c.tell_dark.ensures.options c.tell_dark.ensures.listings c.in_ok-until.ensures.told c.in_ok-until.ensures.lit (λ m by below. c.take-noted.ensures.silent m (omega (arith, by)) below)
    (settled_options {O = O} contents told mid.writer c.take-noted.new.observer c.settle.new.self c.take-noted.ensures.told c.settle.ensures.options)
    (settled {O = O} contents told mid.writer c.take-noted.new.observer c.settle.new.self c.take-noted.ensures.told c.in_ok-settle.ensures.none c.settle.ensures.teller)
    c.take-noted.ensures.noted c.take-noted.ensures.network c.tell_page.ensures.options c.tell_page.ensures.network c.tell_page.ensures.stage c.in_ok-tell_page.ensures.told
    c.in_ok-show_turn.ensures.told c.show_turn.ensures.network c.in_ok-show_turn.ensures.stage)

pub returns-clause-taken : goal.returns-clause-taken
returns-clause-taken g c octets read =
    turn_taken {O = g.row.O.Denot} g.O.Write.contents (max c.args.self.now.network.monitor.moment c.args.now) c.args.sender octets c.args.reading.now c.args.self.now c.show_turn.new.self read (returns-clause-told g c)

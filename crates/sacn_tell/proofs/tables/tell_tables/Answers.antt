use Rattle.std.proofs.Common.{◌++◌}
use Rattle.sacn_tell.specs.declared.options.Form.{Form}
use Rattle.sacn_tell.specs.Tables.{lists_told, refusals_told, streams_told, universes_told}
use Rattle.sacn_tell.specs.Tellings.{with_line_end}
use Rattle.sacn_tell.specs.Totals.{counts_row}
use Rattle.sacn_tell.specs.Twice.{twice_told}
use Rattle.sacn_tell.proofs.Telling.{then}
use Rattle.sacn_tell.proofs.tables.tell_tables.Goals as goal

pub returns : goal.returns
returns g c =
    let O = g.row.O.Denot in
    let contents = g.O.Write.contents in
    let r = c.tell_counts.result in
    let end = c.tell_counts.new.teller in
    let wanted = c.args.options.now.universes.now in
    let streams = c.args.streams.now in
    let listings = c.args.listings.now in
    let report = c.args.report.now in
    let counts = λ (form : Form). with_line_end (counts_row form report) in
    let refusals = λ (form : Form). refusals_told form report.tally ++ counts form in
    let lists = λ (form : Form). lists_told form streams listings ++ refusals form in
    let universes = λ (form : Form). universes_told form wanted report.length streams ++ lists form in
    let sources = λ (form : Form). streams_told form wanted report.length streams ++ universes form in
    let again = λ (form : Form). twice_told form wanted streams ++ sources form in
    then {O = O} contents r c.args.teller.now c.tell_unread.new.teller end _ again c.in_ok-tell_unread.ensures
    (then {O = O} contents r c.tell_unread.new.teller c.tell_twice.new.teller end _ sources c.in_ok-tell_twice.ensures
    (then {O = O} contents r c.tell_twice.new.teller c.tell_streams.new.teller end _ universes c.in_ok-tell_streams.ensures
    (then {O = O} contents r c.tell_streams.new.teller c.tell_universes.new.teller end _ lists c.in_ok-tell_universes.ensures
    (then {O = O} contents r c.tell_universes.new.teller c.tell_listings.new.teller end _ refusals c.in_ok-tell_listings.ensures
    (then {O = O} contents r c.tell_listings.new.teller c.tell_refused.new.teller end _ counts c.in_ok-tell_refused.ensures c.tell_counts.ensures)))))

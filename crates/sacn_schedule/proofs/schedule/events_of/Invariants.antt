use Rattle.std.proofs.Common.{◌≡◌, map}
use Rattle.sacn_files.specs.Lines.{entries_of, after_entries}
use Rattle.sacn_files.proofs.LineLemmas.{said_in}
use Rattle.sacn_schedule.specs.Events.{happening}
use Rattle.sacn_schedule.specs.Schedules.{event_in, schedule_in}
use Rattle.sacn_schedule.proofs.schedule.events_of.Given as goal

-- the events so far, then those of the lines that are left, are all
abbrev pub invariant-loop-i : goal.invariant-loop-i
invariant-loop-i l = schedule_in l.text ≡ after_entries (map happening l.events.items) (entries_of event_in (said_in l.lines.items l.i))

-- What is written of each thing that happens on a network, where its universe is asked for.
use Rattle.std.specs.Prelude.{◌≡◌, ℕ, List, [], slice_get, Option, None, Some, if◌then◌else◌}
use Rattle.std.specs.List.{flat_map}
use Rattle.sacn_monitor.specs.declared.news.News.{News}
use Rattle.sacn_monitor.specs.declared.stream.Stream.{Stream}
use Rattle.sacn_monitor.specs.Books.{Book}
use Rattle.sacn_network.specs.declared.occurrence.What.{What}
use Rattle.sacn_network.specs.declared.occurrence.What.TheVariants.{Contest, Heard, Lost, Refused, Untracked}
use Rattle.sacn_network.specs.Telling.{Told}
use Rattle.sacn_tell.specs.declared.line_writer.LineWriter.{LineWriter}
use Rattle.sacn_tell.specs.declared.options.Form.{Form}
use Rattle.sacn_tell.specs.Choice.{is_wanted}
use Rattle.sacn_tell.specs.Lines.{rivals_line}
use Rattle.sacn_tell.specs.PacketLines.{loss_line, refused_line, untracked_line}
use Rattle.sacn_tell.specs.Tellings.{Tells, news_told, with_line_end}

-- where a universe is asked for
abbrev pub where_wanted : List ℕ → ℕ → List ℕ → List ℕ
where_wanted wanted universe text = if is_wanted wanted universe then text else []

-- that a stream is lost
abbrev pub lost_text : Form → List ℕ → ℕ → Option Stream → List ℕ
lost_text form wanted at None = []
lost_text form wanted at (Some s) = where_wanted wanted s.universe (with_line_end (loss_line form at s))

-- all that a packet of a stream told
abbrev pub heard_text : Form → List ℕ → ℕ → News → Option Stream → List ℕ
heard_text form wanted at news None = []
heard_text form wanted at news (Some s) = where_wanted wanted s.universe (news_told form at s news)

-- what happened at a moment, when the accounts were these
abbrev pub what_text : Form → List ℕ → ℕ → Book → What → List ℕ
what_text form wanted at b (Lost place) = lost_text form wanted at (slice_get b.streams place)
what_text form wanted at b (Heard place news) = heard_text form wanted at news (slice_get b.streams place)
what_text form wanted at b (Refused sender fault) = with_line_end (refused_line form at sender fault)
what_text form wanted at b (Untracked sender) = with_line_end (untracked_line form at sender)
what_text form wanted at b (Contest c) = where_wanted wanted c.universe (with_line_end (rivals_line form at c.universe c.sources c.priority))

abbrev pub told_text : Form → List ℕ → Told → List ℕ
told_text form wanted told = what_text form wanted told.occurrence.at told.book told.occurrence.what

-- one thing after the other
abbrev pub told_lines : Form → List ℕ → List Told → List ℕ
told_lines form wanted told = flat_map (told_text form wanted) told

-- a writer was told something: it wrote this behind all before it, unless it keeps a failure; behind one nothing is written
pub record Writes {O : Type 0} (contents : O → Option (List ℕ)) (old : LineWriter O) (told : Told) (new : LineWriter O) : Type 0 where
  pub options : new.options ≡ old.options
  pub failed : new.failure ≡ None → old.failure ≡ None
  pub text : new.failure ≡ None → Tells contents old.teller new.teller (told_text old.teller.form old.options.universes.now told)

-- What a teller told: what its writer has, and then the line that isn't written yet.
use Rattle.std.specs.Prelude.{◌≡◌, ℕ, nat_lt, Bool, not, List, [], ◌++◌, Option, None, Some, string_bytes, codes, if◌then◌else◌}
use Rattle.std.specs.Io.KnownBytes.{Appends, append_known}
use Rattle.sacn_monitor.specs.declared.news.Change.{Change}
use Rattle.sacn_monitor.specs.declared.news.StreamEvent.{StreamEvent}
use Rattle.sacn_monitor.specs.declared.news.News.{News}
use Rattle.sacn_monitor.specs.declared.stream.Stream.{Stream}
use Rattle.sacn_network.specs.Packets.{goes_on}
use Rattle.sacn_tell.specs.declared.options.Form.{Form}
use Rattle.sacn_tell.specs.declared.options.Form.TheVariants.{Text, Json}
use Rattle.sacn_tell.specs.declared.teller.Teller.{Teller}
use Rattle.sacn_tell.specs.PacketLines.{anew_line, event_line, moved_line, omission_line, priority_line, renamed_line, skipped_line}

-- the octets of its writer, where these are known, and of its line
abbrev pub told_octets : {O : Type 0} → (O → Option (List ℕ)) → Teller O → Option (List ℕ)
told_octets contents teller = append_known (contents teller.out.now) (string_bytes teller.line)

-- a call told these octets behind all before them, to the same writer; where no line was begun, none is
pub record Tells {O : Type 0} (contents : O → Option (List ℕ)) (old new : Teller O) (more : List ℕ) : Type 0 where
  pub text : Appends (told_octets contents old) (told_octets contents new) more
  pub form : new.form ≡ old.form
  pub out : new.out.ghost_name ≡ old.out.ghost_name
  pub line : string_bytes old.line ≡ [] → string_bytes new.line ≡ []

-- a line and its end
abbrev pub with_line_end : List ℕ → List ℕ
with_line_end line = line ++ codes "\n"

-- a line where something happened
abbrev pub where_so : Bool → List ℕ → List ℕ
where_so happened line = if happened then with_line_end line else []

-- the line of an event; none where the source goes on
unfoldable pub event_told : Form → ℕ → Stream → StreamEvent → List ℕ
event_told form now s event = where_so (not (goes_on event)) (event_line form now s event)

abbrev pub priority_told : Form → ℕ → Stream → Option Change → List ℕ
priority_told form now s None = []
priority_told form now s (Some change) = with_line_end (priority_line form now s change)

abbrev pub omission_told : Form → ℕ → Stream → Option ℕ → List ℕ
omission_told form now s None = []
omission_told form now s (Some number) = with_line_end (omission_line form now s number)

-- all that a packet told, a line for each thing that happened
abbrev pub news_told : Form → ℕ → Stream → News → List ℕ
news_told form now s news =
    event_told form now s news.event
    ++ (where_so news.moved (moved_line form now s)
    ++ (where_so news.renamed (renamed_line form now s)
    ++ (priority_told form now s news.priority
    ++ (where_so news.began_anew (anew_line form now s)
    ++ (omission_told form now s news.leaves_out
    ++ where_so (nat_lt 0 news.skipped) (skipped_line form now s news.skipped))))))

-- what a node writes of a frame, behind the line of its cause; nothing in JSON, where that line has the slots
abbrev pub shown_in : Form → List ℕ → List ℕ
shown_in Text line = line
shown_in Json line = []

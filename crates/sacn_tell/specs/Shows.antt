-- Which frames of a node are told, and what is kept of it then.
use Rattle.std.specs.Prelude.{ℕ, List, [], ◌++◌, map, Option, None, Some, if◌then◌else◌}
use Rattle.std.specs.List.{flat_map}
use Rattle.sacn_node.specs.declared.port_frame.PortFrame.{PortFrame}
use Rattle.sacn_node.specs.Calls.{step, Tick, with_reading}
use Rattle.sacn_node.specs.Cores.{Node, new_node}
use Rattle.sacn_node.specs.Readings.{Reading}
use Rattle.sacn_node.specs.Setup.{Port, port_numbers}
use Rattle.sacn_node.specs.Showings.{port_after, ports_of, unseen}
use Rattle.sacn_edge.specs.PortLines.{frame_text}
use Rattle.sacn_tell.specs.declared.options.Form.{Form}
use Rattle.sacn_tell.specs.declared.stage.Stage.{Stage}
use Rattle.sacn_tell.specs.Causes.{Reason, AtStart}
use Rattle.sacn_tell.specs.Lines.{frame_line}
use Rattle.sacn_tell.specs.Staging.{may_change_frames}
use Rattle.sacn_tell.specs.Tellings.{with_line_end, shown_in}

-- the frame of a port with its cause, and its line as a node writes it at this moment
abbrev pub frame_told : Form → ℕ → Reason → ℕ → PortFrame → Option (List ℕ) → List ℕ
frame_told form now reason moment p None = []
frame_told form now reason moment p (Some frame) = with_line_end (frame_line form now p reason) ++ shown_in form (frame_text p.port moment (Some frame))

-- that of a port where a look found another one than the look before
abbrev pub port_told : Form → ℕ → Reason → ℕ → PortFrame → List ℕ
port_told form now reason moment p = frame_told form now reason moment p (if p.is_new then p.last else None)

-- those of all ports
abbrev pub ports_told : Form → ℕ → Reason → ℕ → List PortFrame → List ℕ
ports_told form now reason moment ports = flat_map (port_told form now reason moment) ports

-- those of a node, after a look at these ports
abbrev pub frames_told : Form → ℕ → Reason → Node → List PortFrame → List ℕ
frames_told form now reason n ports = ports_told form now reason n.core.moment (map (port_after n) ports)

-- a node, and its ports as the latest look left them
pub record Staged : Type 0 where
  pub node : Node
  pub ports : List PortFrame

abbrev pub staged : Option Stage → Option Staged
staged None = None
staged (Some s) = Some (record { node = s.core; ports = ports_of s.showing })

-- a node whose frames were told
abbrev pub all_shown : Node → List PortFrame → Staged
all_shown n ports = record { node = n; ports = map (port_after n) ports }

-- ---- where a source is lost at a moment: the frames of the node without it, and why it is so

abbrev pub loss_shown : Form → ℕ → Reason → Option Staged → List ℕ
loss_shown form at reason None = []
loss_shown form at reason (Some s) = frames_told form at reason (step (Tick at) s.node) s.ports

abbrev pub after_loss : ℕ → Option Staged → Option Staged
after_loss at None = None
after_loss at (Some s) = Some (all_shown (step (Tick at) s.node) s.ports)

-- ---- after a datagram, by what it was read as: the frames of the node that has taken it, where it may have changed one

abbrev pub turn_shown : Form → ℕ → Reading → Reason → Option Staged → List ℕ
turn_shown form now reading reason None = []
turn_shown form now reading reason (Some s) =
    if may_change_frames now reading s.node.core then frames_told form now reason (with_reading now reading s.node) s.ports else []

-- the node after it, and its frames, where they were told
abbrev pub turned : ℕ → Reading → Staged → Staged
turned now reading s =
    let n = with_reading now reading s.node in
    if may_change_frames now reading s.node.core then all_shown n s.ports else record { node = n; ports = s.ports }

abbrev pub after_turn : ℕ → Reading → Option Staged → Option Staged
after_turn now reading None = None
after_turn now reading (Some s) = Some (turned now reading s)

-- ---- a node at its start, and the frames that it tells then

abbrev pub started_node : List Port → Node
started_node ports = step (Tick 0) (new_node ports)

abbrev pub start_told : Form → List Port → List ℕ
start_told form ports = frames_told form 0 AtStart (started_node ports) (map unseen (port_numbers ports))

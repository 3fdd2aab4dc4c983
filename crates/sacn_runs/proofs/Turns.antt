-- The visits of a loop's turns make the lines that it writes.
use Rattle.std.proofs.Common.{◌≡◌, ℕ, List, [], ◌∷◌, map, Ok, Err, refl, sym, ap, ◌∙◌}
use Rattle.sacn_packets.specs.PacketReading.{reading_packet}
use Rattle.sacn_node.specs.Setup.{Port, port_numbers}
use Rattle.sacn_node.specs.Cores.{Core, Node, core_at, node_frame}
use Rattle.sacn_node.specs.Readings.{Reading, after_reading}
use Rattle.sacn_node.specs.Calls.{core_step, step}
use Rattle.sacn_edge.specs.Hearings.{Heard, Silence, Octets, Fault}
use Rattle.sacn_edge.specs.NodeText.{Turn, FrameLine, call_at, node_after, with_frame, with_ports, lines_after}
use Rattle.sacn_edge.proofs.Settling.{turn_settled}
use Rattle.sacn_runs.specs.NodeVisits.{Asked, packet_read, packet_heard, turn_visits, loop_visits}
use Rattle.sacn_runs.proofs.Visits.{Showing, node_with, core_after_visit, asked, show_all, show_all-append}

read_so : (now : ℕ) (r : Reading) (c : Core) → core_after_visit now (packet_read r) c ≡ after_reading r now c
read_so now (Ok p) c = refl
read_so now (Err fault) c = refl

pub heard_so : (now : ℕ) (heard : Heard) (c : Core) → core_after_visit now (packet_heard heard) c ≡ core_step (call_at now heard) c
heard_so now Silence c = refl
heard_so now (Octets octets) c = read_so now (reading_packet octets) c
heard_so now Fault c = refl

-- asking for frames leaves a core as it is, where all that is lost is dropped
pub asked_so : (ports : List Port) (now : ℕ) (numbers : List ℕ) (c : Core) (ls : List FrameLine) → core_at now c ≡ c → show_all ports (map (λ number. Asked now number) numbers) (record { core = c; lines = ls }) ≡ record { core = c; lines = with_ports (node_with ports c) numbers ls }
asked_so ports now [] c ls settled = refl
asked_so ports now (p ∷ ps) c ls settled =
    ap (λ (d : Core). show_all ports (map (λ number. Asked now number) ps) (asked ports p d ls)) settled
    ∙ asked_so ports now ps c (with_frame p c.moment (node_frame p (node_with ports c)) ls) settled

turn_so : (ports : List Port) (numbers : List ℕ) (t : Turn) (c : Core) (ls : List FrameLine) → let d = core_step (call_at t.now t.heard) c in show_all ports (turn_visits numbers t) (record { core = c; lines = ls }) ≡ record { core = d; lines = with_ports (node_with ports d) numbers ls }
turn_so ports numbers t c ls =
    ap (λ (d : Core). show_all ports (map (λ number. Asked t.now number) numbers) (record { core = d; lines = ls })) (heard_so t.now t.heard c)
    ∙ asked_so ports t.now numbers (core_step (call_at t.now t.heard) c) ls (turn_settled t.now t.heard c)

pub node_kept : (ports : List Port) (c : Core) (ts : List Turn) → node_after (node_with ports c) ts ≡ node_with ports (node_after (node_with ports c) ts).core
node_kept ports c [] = refl
node_kept ports c (t ∷ ts) = ap (step (call_at t.now t.heard)) (node_kept ports c ts)

pub loop_so : (ports : List Port) (c : Core) (ts : List Turn) → show_all ports (loop_visits (port_numbers ports) ts) (record { core = c; lines = [] }) ≡ record { core = (node_after (node_with ports c) ts).core; lines = lines_after (node_with ports c) ts }
loop_so ports c [] = refl
loop_so ports c (t ∷ ts) =
    let first = node_with ports c in
    let n = node_after first ts in
    let d = core_step (call_at t.now t.heard) n.core in
    let numbers = port_numbers ports in
    show_all-append ports (loop_visits numbers ts) (turn_visits numbers t) (record { core = c; lines = [] })
    ∙ ap (show_all ports (turn_visits numbers t)) (loop_so ports c ts)
    ∙ turn_so ports numbers t n.core (lines_after first ts)
    ∙ ap (λ (x : Node). let s : Showing = record { core = d; lines = with_ports (step (call_at t.now t.heard) x) numbers (lines_after first ts) } in s) (sym (node_kept ports c ts))

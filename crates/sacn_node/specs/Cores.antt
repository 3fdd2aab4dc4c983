-- What a node core keeps, by eight-bit numbers: the rows of each of its universes, and its moment in use.
use Rattle.std.specs.Prelude.{ℕ, max, ◌==◌, refl, if◌then◌else◌, List, [], ◌∷◌, map, find, Option, Some, None}
use Rattle.std.specs.List.{sum_by}
use Rattle.std.specs.Coded.{Coded, code_by, coded×, coded_ℕ, coded_list}
use Rattle.sacn_sources.specs.Rows.{Row, Packet, row_code, rows_kept, rows_lost, taken, take_row, row_of, slots_of}
use Rattle.sacn_node.specs.declared.answer.NodeTaken.{NodeTaken}
use Rattle.sacn_node.specs.declared.answer.NodeTaken.TheVariants.{FromTable, OtherUniverse}
use Rattle.sacn_node.specs.Setup.{Port, universes}
use Rattle.sacn_node.specs.Ports.{port_of, frame_on}

-- the table of one universe
pub record Table : Type 0 where
  pub universe : ℕ
  pub rows : List Row

-- the tables, by ascending universe, and the greatest moment that was handed in
pub record Core : Type 0 where
  pub moment : ℕ
  pub tables : List Table

-- a node: its ports by ascending number, and what its core keeps
pub record Node : Type 0 where
  pub ports : List Port
  pub core : Core

abbrev pub table_code : Coded Table
table_code = code_by (ℕ × List Row) (coded× coded_ℕ (coded_list row_code)) (λ g. (g.universe, g.rows)) (λ p. record { universe = p.0; rows = p.1 }) (λ _. refl)

abbrev pub core_code : Coded Core
core_code = code_by (ℕ × List Table) (coded× coded_ℕ (coded_list table_code)) (λ n. (n.moment, n.tables))
    (λ p. record { moment = p.0; tables = p.1 }) (λ _. refl)

-- ---- a new node: nothing was sent yet, on each of the universes that its ranges name

abbrev pub new_table : ℕ → Table
new_table u = record { universe = u; rows = [] }

abbrev pub new_core : List ℕ → Core
new_core us = record { moment = 0; tables = map new_table us }

abbrev pub new_node : List Port → Node
new_node ports = record { ports = ports; core = new_core (universes ports) }

-- ---- a table after a packet, and after expiry

abbrev pub with_taken : Packet → ℕ → Table → Table
with_taken x t g = record { universe = g.universe; rows = take_row x t (rows_kept t g.rows) }

abbrev pub with_kept : ℕ → Table → Table
with_kept t g = record { universe = g.universe; rows = rows_kept t g.rows }

abbrev pub rows_kept_all : ℕ → List Table → List Table
rows_kept_all t gs = map (with_kept t) gs

-- how many rows of all tables are lost at t
abbrev pub rows_lost_all : ℕ → List Table → ℕ
rows_lost_all t gs = sum_by (λ g. rows_lost t g.rows) gs

abbrev pub table_of : ℕ → List Table → Option Table
table_of u gs = find (λ g. g.universe == u) gs

abbrev pub core_reply_on : Packet → Option Table → NodeTaken
core_reply_on x None = OtherUniverse
core_reply_on x (Some g) = FromTable (taken x g.rows)

abbrev pub change_rows : ℕ → (List Row → List Row) → List Table → List Table
change_rows u f [] = []
change_rows u f (g ∷ gs) = if g.universe == u then record { universe = g.universe; rows = f g.rows } ∷ gs else g ∷ change_rows u f gs

-- a packet of universe u comes at moment m
abbrev pub core_reply : ℕ → Packet → ℕ → Core → NodeTaken
core_reply u x m n = core_reply_on x (table_of u (rows_kept_all (max n.moment m) n.tables))

abbrev pub core_after : ℕ → Packet → ℕ → Core → Core
core_after u x m n =
    record {
      moment = max n.moment m;
      tables = change_rows u (take_row x (max n.moment m)) (rows_kept_all (max n.moment m) n.tables);
    }

-- expiry alone
abbrev pub core_at : ℕ → Core → Core
core_at m n = record { moment = max n.moment m; tables = rows_kept_all (max n.moment m) n.tables }

abbrev pub core_lost : ℕ → Core → ℕ
core_lost m n = rows_lost_all (max n.moment m) n.tables

-- ---- what is read of a core

-- the merged slots of a universe, those of no source where the node does not have it
abbrev pub slots_on : Option Table → List ℕ
slots_on None = slots_of []
slots_on (Some g) = slots_of g.rows

abbrev pub core_slots : Core → ℕ → List ℕ
core_slots n u = slots_on (table_of u n.tables)

abbrev pub row_on : List ℕ → Option Table → Option Row
row_on s None = None
row_on s (Some g) = row_of s g.rows

-- the source of this CID on a universe
abbrev pub core_row : ℕ → List ℕ → Core → Option Row
core_row u s n = row_on s (table_of u n.tables)

-- the frame of a port, none where the node does not have it
abbrev pub node_frame : ℕ → Node → Option (List ℕ)
node_frame number n = frame_on (core_slots n.core) (port_of number n.ports)

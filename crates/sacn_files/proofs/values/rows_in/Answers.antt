use Rattle.toml.specs.View.{view}
use Rattle.sacn_files.specs.Values.{is_table}
use Rattle.sacn_files.proofs.TableLemmas.{list_all-map}
use Rattle.sacn_files.proofs.values.rows_in.Goals as goal

pub returns-then-are_tables : goal.returns-then-are_tables
returns-then-are_tables c = rw (c.in-Some.is, list_all-map is_table view c.in-Some.rows.now, ← c.are_tables.ensures, c.if-are_tables.true)

pub returns-else-are_tables : goal.returns-else-are_tables
returns-else-are_tables c = rw (c.in-Some.is, list_all-map is_table view c.in-Some.rows.now, ← c.are_tables.ensures, c.if-are_tables.false)

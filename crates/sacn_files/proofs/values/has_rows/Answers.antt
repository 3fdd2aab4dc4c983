use Rattle.toml.specs.View.{view}
use Rattle.sacn_files.specs.Values.{is_table}
use Rattle.sacn_files.proofs.TableLemmas.{list_all-map}
use Rattle.sacn_files.proofs.values.has_rows.Goals as goal

pub returns-in-Some-array_values : goal.returns-in-Some-array_values
returns-in-Some-array_values c =
    rw (← c.in-Some.ensures, ← c.in-Some-array_values.ensures, list_all-map is_table view c.in-Some-array_values.rows.now) c.are_tables.ensures

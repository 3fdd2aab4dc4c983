use Rattle.toml.specs.View.{view}
use Rattle.sacn_files.proofs.TableLemmas.{values_in-view, array_values-as_array}
use Rattle.sacn_files.proofs.values.array_values.Goals as goal

pub returns-in-Some : goal.returns-in-Some
returns-in-Some c =
    rw (c.as_slice.ensures.value, array_values-as_array (view c.args.value.now), ← c.in-Some.ensures, values_in-view c.in-Some.array.now.items)

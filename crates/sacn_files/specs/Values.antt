-- The values of a file's tables (profile).
use Rattle.std.specs.Prelude.{◌&&◌, ℕ, pos, nat_le, Bool, true, false, List, [], ◌∷◌, Option, None, Some, if◌then◌else◌, option_and_then}
use Rattle.std.specs.List.{list_all}
use Rattle.toml.specs.Data.{Data, Items, no_items, item, Members, no_members, member, integer, array, table, get_member}

-- the keys of a table, and the values of an array
abbrev pub keys_in : Members → List (List ℕ)
keys_in no_members = []
keys_in (member k d ms) = k ∷ keys_in ms

abbrev pub values_in : Items → List Data
values_in no_items = []
values_in (item d ds) = d ∷ values_in ds

abbrev pub is_table : Data → Bool
is_table (table ms) = true
is_table _ = false

-- the members of a table, or none
abbrev pub members_or_none : Data → Members
members_or_none (table ms) = ms
members_or_none _ = no_members

abbrev pub array_values : Data → Option (List Data)
array_values (array ds) = Some (values_in ds)
array_values _ = None

-- the tables of an array of tables: none where some member is no table
abbrev pub rows_in : Option (List Data) → List Data
rows_in None = []
rows_in (Some ds) = if list_all is_table ds then ds else []

-- the tables of the array of tables at a key, if one is there
abbrev pub rows_at : List ℕ → Members → List Data
rows_at key ms = rows_in (option_and_then array_values (get_member key ms))

-- nothing stands at a key, or an array of tables
abbrev pub is_rows : Option (List Data) → Bool
is_rows None = false
is_rows (Some ds) = list_all is_table ds

abbrev pub absent_or : (Data → Bool) → Option Data → Bool
absent_or test None = true
absent_or test (Some d) = test d

abbrev pub has_rows : List ℕ → Members → Bool
has_rows key ms = absent_or (λ d. is_rows (array_values d)) (get_member key ms)

-- a whole number in a range
abbrev pub number_in : ℕ → ℕ → Data → Option ℕ
number_in low high (integer (pos n)) = if nat_le low n && nat_le n high then Some n else None
number_in low high _ = None

-- what is read at a key of a row
abbrev pub read_at : {X : Type 0} → (Data → Option X) → List ℕ → Data → Option X
read_at read key d = option_and_then read (get_member key (members_or_none d))

-- what is read at a key, or what stands for nothing there
abbrev pub value_or : {X : Type 0} → X → (Data → Option X) → Option Data → Option X
value_or default read None = Some default
value_or default read (Some d) = read d

abbrev pub number_at : ℕ → ℕ → List ℕ → Data → Option ℕ
number_at low high key d = read_at (number_in low high) key d

abbrev pub array_at : List ℕ → Data → Option (List Data)
array_at key d = read_at array_values key d

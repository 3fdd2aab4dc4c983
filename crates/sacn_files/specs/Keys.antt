-- The keys that tables of a file may have, and those that they must have (profile).
use Rattle.std.specs.Prelude.{ℕ, Bool, ◌||◌, List, map, is_some}
use Rattle.std.specs.List.{list_all, list_any}
use Rattle.std.specs.Str.{bytes_eq}
use Rattle.toml.specs.Data.{Data, Members, get_member}
use Rattle.sacn_files.specs.Values.{keys_in, members_or_none, rows_at}
use Rattle.sacn_files.specs.declared.keys.Keys.{Keys}

-- the keys that a table must have, and those that it may have beside them
pub record KeyTable : Type 0 where
  pub required : List (List ℕ)
  pub optional : List (List ℕ)

-- what the code's value lists
abbrev pub key_table : Keys → KeyTable
key_table keys = record { required = map (λ k. k.now) keys.required.now; optional = map (λ k. k.now) keys.optional.now }

abbrev pub is_listed : List (List ℕ) → List ℕ → Bool
is_listed names key = list_any (λ n. bytes_eq n key) names

-- a key that such a table may have
abbrev pub is_known : KeyTable → List ℕ → Bool
is_known keys key = is_listed keys.required key || is_listed keys.optional key

-- a table has no other key
abbrev pub has_known_keys : KeyTable → Members → Bool
has_known_keys keys ms = list_all (is_known keys) (keys_in ms)

-- it has each key that it must have
abbrev pub has_keys : KeyTable → Members → Bool
has_keys keys ms = list_all (λ k. is_some (get_member k ms)) keys.required

-- the same of each row
abbrev pub rows_are_known : KeyTable → List Data → Bool
rows_are_known keys rows = list_all (λ d. has_known_keys keys (members_or_none d)) rows

abbrev pub rows_have_keys : KeyTable → List Data → Bool
rows_have_keys keys rows = list_all (λ d. has_keys keys (members_or_none d)) rows

-- the same of the rows that stand at a key of each row
abbrev pub inner_rows_are_known : List ℕ → KeyTable → List Data → Bool
inner_rows_are_known key keys rows = list_all (λ d. rows_are_known keys (rows_at key (members_or_none d))) rows

abbrev pub inner_rows_have_keys : List ℕ → KeyTable → List Data → Bool
inner_rows_have_keys key keys rows = list_all (λ d. rows_have_keys keys (rows_at key (members_or_none d))) rows

-- A table's entries beside the members that it stands for.
use Rattle.std.proofs.Common.{◌≡◌, Bool, ◌&&◌, ◌||◌, List, [], ◌∷◌, map, string_bytes, refl, ap, option_map}
use Rattle.std.specs.List.{list_all, list_any}
use Rattle.std.specs.Map.{keys_of}
use Rattle.toml.specs.Data.{Data, string, integer, float, boolean, datetime, array, table, as_array}
use Rattle.toml.specs.View.{view, members_view, items_view}
use Rattle.toml.proofs.Views.{Entry}
use Rattle.toml.specs.declared.value.Value.{Value}
use Rattle.sacn_files.specs.Values.{keys_in, values_in, array_values}
use Rattle.sacn_files.specs.Keys.{KeyTable, is_known, has_known_keys}

pub keys_in-view : (es : List Entry) → keys_in (members_view es) ≡ map string_bytes (keys_of es)
keys_in-view [] = refl
keys_in-view (e ∷ es) = ap (λ ks. string_bytes e.0 ∷ ks) (keys_in-view es)

pub values_in-view : (vs : List Value) → values_in (items_view vs) ≡ map view vs
values_in-view [] = refl
values_in-view (v ∷ vs) = ap (λ ds. view v ∷ ds) (values_in-view vs)

pub list_all-map : {X Y : Type 0} (p : Y → Bool) (f : X → Y) (xs : List X) → list_all p (map f xs) ≡ list_all (λ x. p (f x)) xs
list_all-map p f [] = refl
list_all-map p f (x ∷ xs) = ap (λ b. p (f x) && b) (list_all-map p f xs)

pub list_any-map : {X Y : Type 0} (p : Y → Bool) (f : X → Y) (xs : List X) → list_any p (map f xs) ≡ list_any (λ x. p (f x)) xs
list_any-map p f [] = refl
list_any-map p f (x ∷ xs) = ap (λ b. p (f x) || b) (list_any-map p f xs)

pub known_keys : (known : KeyTable) (es : List Entry) → list_all (λ key. is_known known (string_bytes key)) (keys_of es) ≡ has_known_keys known (members_view es)
known_keys known es = simp (keys_in-view, list_all-map)

pub array_values-as_array : (d : Data) → array_values d ≡ option_map values_in (as_array d)
array_values-as_array (string s) = refl
array_values-as_array (integer z) = refl
array_values-as_array (float x) = refl
array_values-as_array (boolean b) = refl
array_values-as_array (datetime t) = refl
array_values-as_array (array ds) = refl
array_values-as_array (table ms) = refl

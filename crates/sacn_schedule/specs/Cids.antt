-- Consoles and their CIDs (E1.31, 5.6: a CID is of one component alone).
use Rattle.std.specs.Prelude.{◌≢◌, ◌||◌, ℕ, Bool, false, List, [], ◌∷◌, AllPairs}
use Rattle.std.specs.List.{list_any}
use Rattle.std.specs.Str.{bytes_eq}
use Rattle.sacn_console.specs.Shows.{ShowContent}

-- a console's show with the first number of its packets
abbrev pub Desk : Type 0
Desk = ShowContent × ℕ

-- no two consoles have one CID
abbrev pub HaveOwnCids : List Desk → Type 0
HaveOwnCids ds = AllPairs (λ d e. d.0.cid ≢ e.0.cid) ds

-- the same as a test: two consoles have one CID
abbrev pub same_cid : Desk → Desk → Bool
same_cid d e = bytes_eq d.0.cid e.0.cid

abbrev pub has_same_cid : List Desk → Bool
has_same_cid [] = false
has_same_cid (d ∷ ds) = list_any (λ e. same_cid d e) ds || has_same_cid ds

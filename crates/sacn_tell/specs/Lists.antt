-- The universes that a source lists, beside those on which it was heard.
use Rattle.std.specs.Prelude.{ℕ, Bool, not, ◌&&◌, ◌==◌, List, Option, None, Some, filter, map}
use Rattle.std.specs.Str.{bytes_eq}
use Rattle.std.specs.List.{list_any}
use Rattle.sacn_monitor.specs.declared.stream.Stream.{Stream}
use Rattle.sacn_discovery.specs.Collection.{other_than}

-- the source of this CID was heard on this universe
abbrev pub is_heard : List Stream → List ℕ → ℕ → Bool
is_heard streams cid universe = list_any (λ s. (s.universe == universe) && bytes_eq s.cid cid) streams

-- listed, and not heard
abbrev pub silent : List Stream → List ℕ → List ℕ → List ℕ
silent streams cid listed = filter (λ universe. not (is_heard streams cid universe)) listed

-- of this source, and on a universe that isn't listed
abbrev pub is_unlisted : List ℕ → List ℕ → Stream → Bool
is_unlisted cid listed s = bytes_eq s.cid cid && not (list_any (λ universe. universe == s.universe) listed)

-- heard, and not listed
abbrev pub unlisted : List Stream → List ℕ → List ℕ → List ℕ
unlisted streams cid listed = map (λ s. s.universe) (filter (is_unlisted cid listed) streams)

-- a list that came whole, where it is another one than the one that is kept
abbrev pub beside : Option (List ℕ) → Option (List ℕ) → Option (List ℕ)
beside None list = list
beside (Some kept) list = other_than kept list

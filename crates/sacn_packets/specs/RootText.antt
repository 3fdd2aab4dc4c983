-- The text of a root layer: its fields, joined in order.
use Rattle.std.specs.Prelude.{◌≡◌, ℕ, ◌+◌, ◌*◌, ◌^◌, ◌<◌, List, [], ◌∷◌, ◌++◌, length, ◌⊎◌}
use Rattle.std.specs.Int.{w16, w32, to_be_bytes}
use Rattle.sacn_packets.specs.declared.root.reading.RootView.{RootView}

-- what a root layer carries
pub record Root : Type 0 where
  pub vector : ℕ
  pub cid : List ℕ
  pub body : List ℕ

-- "ASC-E1.17" and three zeros (E1.31, 5.3)
abbrev pub identifier : List ℕ
identifier = 0x41 ∷ 0x53 ∷ 0x43 ∷ 0x2d ∷ 0x45 ∷ 0x31 ∷ 0x2e ∷ 0x31 ∷ 0x37 ∷ 0 ∷ 0 ∷ 0 ∷ []

-- a PDU's flags, 7, in the high four bits, and its length in the low twelve (E1.31, 5.4)
abbrev pub flags_and_length : ℕ → List ℕ
flags_and_length len = to_be_bytes w16 (7 * 2 ^ 12 + len)

-- what stands before the body: preamble size, post-amble size, packet identifier, flags and length, vector, CID (E1.31, 5.1 to 5.6)
abbrev pub root_head : ℕ → List ℕ → ℕ → List ℕ
root_head vector cid body_len = to_be_bytes w16 16 ++ to_be_bytes w16 0 ++ identifier ++ flags_and_length (22 + body_len) ++ to_be_bytes w32 vector ++ cid

abbrev pub root_text : Root → List ℕ
root_text r = root_head r.vector r.cid (length r.body) ++ r.body

-- what can stand in a root layer: vector 4 for data, 8 for extended packets; a CID of sixteen octets; a body that the length can count
pub record IsRoot (r : Root) : Type 0 where
  pub vector : (r.vector ≡ 4) ⊎ (r.vector ≡ 8)
  pub cid : length r.cid ≡ 16
  pub body : 22 + length r.body < 2 ^ 12

-- The octets begin with the text of the root layer. What follows is free.
pub record ReadsRoot (octets : List ℕ) (r : Root) : Type 0 where
  pub is_root : IsRoot r
  pub begins : (rest : List ℕ) × (octets ≡ root_text r ++ rest)

-- what a view shows
abbrev pub root_of : RootView → Root
root_of view = record { vector = view.vector; cid = view.cid; body = view.body.now }

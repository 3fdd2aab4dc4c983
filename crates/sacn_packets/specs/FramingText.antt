-- The text of a data packet's framing layer: its fields, joined in order.
use Rattle.std.specs.Prelude.{◌≡◌, ℕ, Bool, ◌+◌, ◌*◌, ◌^◌, ◌<◌, List, [], ◌∷◌, ◌++◌, length, if◌then◌else◌, ◌==◌}
use Rattle.std.specs.Int.{w16, w32, to_be_bytes, bit_at}
use Rattle.sacn_packets.specs.Universe.{IsUniverse, IsPriority}
use Rattle.sacn_packets.specs.RootText.{flags_and_length}

-- what a framing layer carries
pub record Framing : Type 0 where
  pub name : List ℕ
  pub priority : ℕ
  pub number : ℕ
  pub preview : Bool
  pub terminated : Bool
  pub universe : ℕ
  pub body : List ℕ

-- what a reader ignores: the synchronization address, and the bits 5 to 0 of the options
pub record Ignored : Type 0 where
  pub synchronization : ℕ
  pub reserved : ℕ

-- what a writer gives them
abbrev pub nothing : Ignored
nothing = record { synchronization = 0; reserved = 0 }

pub record IsIgnored (i : Ignored) : Type 0 where
  pub synchronization : i.synchronization < 2 ^ 16
  pub reserved : i.reserved < 2 ^ 6

-- whether a bit of an octet is 1
unfoldable pub is_set : ℕ → ℕ → Bool
is_set octet place = bit_at octet place == 1

abbrev pub bit : Bool → ℕ
bit b = if b then 1 else 0

-- bit 7 Preview_Data, bit 6 Stream_Terminated
abbrev pub options : Framing → Ignored → ℕ
options f i = 2 ^ 7 * bit f.preview + 2 ^ 6 * bit f.terminated + i.reserved

-- what stands before the body: flags and length; vector 2; source name; priority; synchronization address; sequence number; options; universe
abbrev pub framing_head : Framing → Ignored → ℕ → List ℕ
framing_head f i body_len = flags_and_length (77 + body_len) ++ to_be_bytes w32 2 ++ f.name ++ (f.priority ∷ []) ++ to_be_bytes w16 i.synchronization
    ++ (f.number ∷ []) ++ (options f i ∷ []) ++ to_be_bytes w16 f.universe

abbrev pub framing_text : Framing → Ignored → List ℕ
framing_text f i = framing_head f i (length f.body) ++ f.body

-- what can stand in a framing layer
pub record IsFraming (f : Framing) : Type 0 where
  pub name : length f.name ≡ 64
  pub priority : IsPriority f.priority
  pub universe : IsUniverse f.universe
  pub body : 77 + length f.body < 2 ^ 12

-- The octets are the text of the framing layer, whatever stands in the ignored fields.
pub record ReadsFraming (octets : List ℕ) (f : Framing) : Type 0 where
  pub is_framing : IsFraming f
  pub ignored : Ignored
  pub is_ignored : IsIgnored ignored
  pub is_text : octets ≡ framing_text f ignored

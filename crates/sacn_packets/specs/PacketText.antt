-- Which packet octets are.
use Rattle.std.specs.Prelude.{◌≡◌, ℕ, ◌+◌, ◌^◌, ◌<◌, List, [], ◌∷◌, ◌++◌, length}
use Rattle.sacn_packets.specs.RootText.{root_text}
use Rattle.sacn_packets.specs.DmpText.{dmp_text}
use Rattle.sacn_packets.specs.Data.{Data, IsData}
use Rattle.sacn_packets.specs.FramingText.{Framing, Ignored, IsIgnored, framing_text}
use Rattle.sacn_packets.specs.declared.framing.packet.Packet.{Packet}
use Rattle.sacn_packets.specs.declared.framing.packet.Packet.TheVariants.{DataPacket, PagePacket, SyncPacket}
use Rattle.sacn_packets.specs.Page.{Page, IsPage}
use Rattle.sacn_packets.specs.PageText.{PageLayer, page_framing_text, sync_framing_text}

-- the framing layer of a data packet, round its DMP layer
abbrev pub framing : Data → Framing
framing d = record {
  name = d.name;
  priority = d.priority;
  number = d.number;
  preview = d.preview;
  terminated = d.terminated;
  universe = d.universe;
  body = dmp_text (record { start = d.start; slots = d.slots });
}

-- the text of a data packet: root layer round framing layer round DMP layer
abbrev pub data_text : Data → Ignored → List ℕ
data_text d i = root_text (record { vector = 4; cid = d.cid; body = framing_text (framing d) i })

-- The octets begin with the text of the data packet, whatever stands in the ignored fields. What follows is free.
pub record ReadsData (octets : List ℕ) (d : Data) : Type 0 where
  pub is_data : IsData d
  pub ignored : Ignored
  pub is_ignored : IsIgnored ignored
  pub rest : List ℕ
  pub begins : octets ≡ data_text d ignored ++ rest

-- a page's framing and discovery layers
abbrev pub page_layer : Page → PageLayer
page_layer p = record { name = p.name; page = p.page; last = p.last; numbers = p.numbers }

-- the text of a page: root layer round framing layer round discovery layer
abbrev pub page_text : Page → List ℕ → List ℕ
page_text p reserved = root_text (record { vector = 8; cid = p.cid; body = page_framing_text (page_layer p) reserved })

-- what a writer gives the four reserved octets
abbrev pub unused : List ℕ
unused = 0 ∷ 0 ∷ 0 ∷ 0 ∷ []

-- The octets begin with the text of the page, whatever stands in the four reserved octets. What follows is free.
pub record ReadsPage (octets : List ℕ) (p : Page) : Type 0 where
  pub is_page : IsPage p
  pub reserved : List ℕ
  pub is_reserved : length reserved ≡ 4
  pub rest : List ℕ
  pub begins : octets ≡ page_text p reserved ++ rest

-- The octets begin with the text of a synchronization packet, whatever it says.
pub record ReadsSync (octets : List ℕ) : Type 0 where
  pub cid : List ℕ
  pub is_cid : length cid ≡ 16
  pub content : List ℕ
  pub is_content : 28 + length content < 2 ^ 12
  pub rest : List ℕ
  pub begins : octets ≡ root_text (record { vector = 8; cid = cid; body = sync_framing_text content }) ++ rest

abbrev pub Reads : List ℕ → Packet → Type 0
Reads octets (DataPacket d) = ReadsData octets d
Reads octets (PagePacket p) = ReadsPage octets p
Reads octets SyncPacket = ReadsSync octets

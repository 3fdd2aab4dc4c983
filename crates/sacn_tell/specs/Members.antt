-- The members of an object of JSON that tells something.
use Rattle.std.specs.Prelude.{ℕ, ◌==◌, List, ◌++◌, codes, decimal}
use Rattle.std.specs.List.{before_first}
use Rattle.sacn_monitor.specs.declared.account.Endpoint.{Endpoint}
use Rattle.sacn_monitor.specs.declared.stream.Stream.{Stream}
use Rattle.sacn_tell.specs.Spelling.{octets_text, address_text, name_text}

-- the front of an event's object: the moment and the event's key
unfoldable pub object_front : ℕ → List ℕ → List ℕ
object_front moment event = codes "{\"ms\":" ++ (decimal moment ++ (codes ",\"event\":\"" ++ (event ++ codes "\"")))

-- the front of the object of a table's row
unfoldable pub row_front : List ℕ → List ℕ
row_front row = codes "{\"row\":\"" ++ (row ++ codes "\"")

-- a member that is a number, and one that is a word
unfoldable pub number_member : List ℕ → ℕ → List ℕ
number_member key number = codes ",\"" ++ (key ++ (codes "\":" ++ decimal number))

unfoldable pub word_member : List ℕ → List ℕ → List ℕ
word_member key word = codes ",\"" ++ (key ++ (codes "\":\"" ++ (word ++ codes "\"")))

-- a source: its CID and its name
unfoldable pub source_members : List ℕ → List ℕ → List ℕ
source_members cid name = codes ",\"cid\":\"" ++ (octets_text cid ++ (codes "\",\"name\":" ++ name_text name))

-- a source's name (E1.31, 6.2.2): what stands before the first NUL
abbrev pub name_of : Stream → List ℕ
name_of s = before_first (λ octet. octet == 0) s.account.name

-- a source on a universe
unfoldable pub stream_members : Stream → List ℕ
stream_members s = number_member (codes "universe") s.universe ++ source_members s.cid (name_of s)

unfoldable pub quoted_address : List ℕ → List ℕ
quoted_address address = codes "\"" ++ (address_text address ++ codes "\"")

-- a member's key, before its value
unfoldable pub key_text : List ℕ → List ℕ
key_text key = codes ",\"" ++ (key ++ codes "\":")

-- where it sends from
unfoldable pub sender_members : Endpoint → List ℕ
sender_members s = key_text (codes "address") ++ (quoted_address s.address ++ number_member (codes "port") s.port)

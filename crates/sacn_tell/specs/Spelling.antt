-- How numbers, moments, CIDs, addresses and names are spelled.
use Rattle.std.specs.Prelude.{ℕ, ◌-◌, ◌/◌, ◌%◌, Bool, false, ◌||◌, ◌&&◌, ◌==◌, nat_le, List, ◌++◌, length, replicate, get_or, codes, chars, decimal, encode_utf8, if◌then◌else◌}
use Rattle.std.specs.Fmt.{digits}
use Rattle.std.specs.Int.{w16, to_be_bytes}
use Rattle.std.specs.List.{flat_map}
use Rattle.std.specs.Str.{is_utf8}
use Rattle.sacn_monitor.specs.declared.account.Endpoint.{Endpoint}

-- behind as many spaces, or zeros, as it lacks of a width; and before as many spaces
abbrev pub right : ℕ → List ℕ → List ℕ
right width text = replicate (width - length text) 32 ++ text

abbrev pub zeros : ℕ → List ℕ → List ℕ
zeros width text = replicate (width - length text) 48 ++ text

abbrev pub flush_left : ℕ → List ℕ → List ℕ
flush_left width text = text ++ replicate (width - length text) 32

-- two hexadecimal digits
unfoldable pub octet_text : ℕ → List ℕ
octet_text octet = zeros 2 (digits 16 false octet)

-- the digits of some octets: a CID has 32 (E1.31, 5.6)
abbrev pub octets_text : List ℕ → List ℕ
octets_text octets = flat_map octet_text octets

-- an IPv4 address
unfoldable pub address_text : List ℕ → List ℕ
address_text a = decimal (get_or a 0 0) ++ (codes "." ++ (decimal (get_or a 1 0) ++ (codes "." ++ (decimal (get_or a 2 0) ++ (codes "." ++ decimal (get_or a 3 0))))))

-- an address, a colon and a port
unfoldable pub sender_text : Endpoint → List ℕ
sender_text s = address_text s.address ++ (codes ":" ++ decimal s.port)

-- milliseconds as seconds: six places, a point and three places
unfoldable pub moment_text : ℕ → List ℕ
moment_text moment = right 6 (decimal (moment / 1000)) ++ (codes "." ++ zeros 3 (decimal (moment % 1000)))

-- four hexadecimal digits of a number: those of its octets, the high one first
abbrev pub long_text : ℕ → List ℕ
long_text number = octets_text (to_be_bytes w16 number)

abbrev pub longs_text : List ℕ → List ℕ
longs_text numbers = flat_map long_text numbers

-- a backslash, u and four hexadecimal digits
unfoldable pub escape_text : ℕ → List ℕ
escape_text letter = codes "\\u" ++ zeros 4 (digits 16 false letter)

-- from NUL to 1f and from 7f to 9f: what steers a terminal
abbrev pub steers : ℕ → Bool
steers letter = nat_le letter 0x1f || (nat_le 0x7f letter && nat_le letter 0x9f)

-- a letter between quotes: a quote (22) and a backslash (5c) behind a backslash, what steers a terminal by its number, any other in UTF-8
unfoldable pub letter_text : ℕ → List ℕ
letter_text letter = if letter == 34 then codes "\\\"" else (if letter == 92 then codes "\\\\" else (if steers letter then escape_text letter else encode_utf8 letter))

-- the letters of a name; where it isn't UTF-8, its octets
abbrev pub letters_of : List ℕ → List ℕ
letters_of name = if is_utf8 name then chars name else name

-- a name between quotes, as JSON writes a string
unfoldable pub name_text : List ℕ → List ℕ
name_text name = codes "\"" ++ (flat_map letter_text (letters_of name) ++ codes "\"")

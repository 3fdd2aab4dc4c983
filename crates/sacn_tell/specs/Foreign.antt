-- How a text from elsewhere stands between the quotes of a string of JSON, and in a page.
use Rattle.std.specs.Prelude.{ℕ, Bool, not, ◌&&◌, ◌||◌, ◌==◌, List, chars, encode_utf8, if◌then◌else◌}
use Rattle.std.specs.Int.{is_in_range}
use Rattle.std.specs.List.{flat_map}
use Rattle.std.specs.Char.Escape.{encode_utf16}
use Rattle.std.specs.Str.Lossy.{utf8_lossy}
use Rattle.sacn_tell.specs.Spelling.{escape_text}

-- what means something in JSON or in a page: a quote (22), & (26), < (3c), > (3e) and a backslash (5c)
abbrev pub marks_up : ℕ → Bool
marks_up letter = letter == 0x22 || letter == 0x26 || letter == 0x3c || letter == 0x3e || letter == 0x5c

-- it stands for itself: from a space to a tilde, but for those
abbrev pub is_plain : ℕ → Bool
is_plain letter = is_in_range 0x20 0x7e letter && not (marks_up letter)

-- an escape for each unit of UTF-16 (RFC 8259, 7)
abbrev pub units_text : List ℕ → List ℕ
units_text units = flat_map escape_text units

unfoldable pub foreign_letter : ℕ → List ℕ
foreign_letter letter = if is_plain letter then encode_utf8 letter else units_text (encode_utf16 letter)

-- its letters, where what isn't UTF-8 is U+FFFD
unfoldable pub foreign_text : List ℕ → List ℕ
foreign_text octets = flat_map foreign_letter (chars (utf8_lossy octets))

-- The texts of the packets.
use Rattle.std.specs.Prelude.{ℕ, List, [], ◌++◌, codes, length, ◌==◌, ◌/◌, ◌%◌, Option, Some, None}
use Rattle.std.specs.List.{before_first}
use Rattle.std.specs.Fmt.{decimal}
use Rattle.hex.specs.Hex.{encode_lower}
use Rattle.sacn_packets.specs.Data.{Data, frame_of}
use Rattle.sacn_packets.specs.Page.{Page}
use Rattle.sacn_text.specs.Words.{escaped, list_text, yes_or_no}
use Rattle.uuid.specs.Text.{hyphenated_text, lower}

abbrev pub name_text : List ℕ → List ℕ
name_text name = escaped (before_first (λ octet. octet == 0) name)

-- what stands before the name
abbrev pub top_text : List ℕ → List ℕ → List ℕ
top_text kind cid = kind ++ (codes "\ncid " ++ (hyphenated_text lower cid ++ codes "\nname "))

-- what stands after the name
abbrev pub counts_words : ℕ → ℕ → List ℕ
counts_words priority number = codes "\npriority " ++ (decimal priority ++ (codes "\nnumber " ++ decimal number))

abbrev pub options_words : List ℕ → List ℕ → List ℕ
options_words preview terminated = codes "\npreview " ++ (preview ++ (codes "\nterminated " ++ terminated))

abbrev pub place_words : ℕ → ℕ → ℕ → List ℕ
place_words universe high low = codes "\nuniverse " ++ (decimal universe ++ (codes "\ngroup 239.255." ++ (decimal high ++ (codes "." ++ decimal low))))

abbrev pub values_words : ℕ → ℕ → List ℕ → List ℕ
values_words start slots digits = codes "\nstart " ++ (decimal start ++ (codes "\nslots " ++ (decimal slots ++ (codes "\nframe " ++ (digits ++ codes "\n")))))

abbrev pub data_options : Data → List ℕ
data_options d = options_words (yes_or_no d.preview) (yes_or_no d.terminated)

abbrev pub data_place : Data → List ℕ
data_place d = place_words d.universe (d.universe / 256) (d.universe % 256)

abbrev pub data_values : Data → List ℕ
data_values d = values_words d.start (length d.slots) (encode_lower (frame_of d))

abbrev pub data_rest : Data → List ℕ
data_rest d = (counts_words d.priority d.number ++ data_options d ++ data_place d) ++ data_values d ++ []

abbrev pub data_block : Data → List ℕ
data_block d = top_text (codes "data") d.cid ++ name_text d.name ++ data_rest d

abbrev pub known_words : Option (List ℕ) → List ℕ
known_words None = codes " incomplete"
known_words (Some list) = list_text list

abbrev pub page_places : Page → List ℕ
page_places p = codes "\npage " ++ (decimal p.page ++ (codes "\nlast " ++ (decimal p.last ++ codes "\nuniverses")))

abbrev pub page_rest : Page → Option (List ℕ) → List ℕ
page_rest p known = page_places p ++ list_text p.numbers ++ codes "\nknown" ++ known_words known ++ codes "\n"

abbrev pub page_block : Page → Option (List ℕ) → List ℕ
page_block p known = top_text (codes "page") p.cid ++ name_text p.name ++ page_rest p known

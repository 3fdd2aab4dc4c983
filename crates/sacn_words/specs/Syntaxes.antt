-- How a foreign text is written in a page and in completions.
use Rattle.std.specs.Prelude.{ℕ, List, [], ◌∷◌, ◌==◌, codes, Option, Some, None, unwrap_or, if◌then◌else◌, filter, not}
use Rattle.std.specs.List.{flat_map}
use Rattle.sacn_words.specs.declared.manual.syntax.Syntax.{Syntax}
use Rattle.sacn_words.specs.declared.manual.syntax.Syntax.TheVariants.{Manual, Bash, Zsh, Fish}
use Rattle.sacn_words.specs.declared.manual.tree.Spelling.{Spelling}
use Rattle.sacn_words.specs.declared.manual.tree.Spelling.TheVariants.{Positional, Short, Long}
use Rattle.sacn_words.specs.declared.manual.pieces.Piece.{Piece}
use Rattle.sacn_words.specs.declared.manual.pieces.Piece.TheVariants.{Raw, Text, Words}

-- man(7): a newline, a dot, an apostrophe, a quote, a dash, a backslash, ^, a grave accent and a tilde have words of their own
abbrev pub roff_escape : ℕ → Option (List ℕ)
roff_escape o =
    if o == 10 then Some (codes " ") else if o == 46 then Some (codes "\\&.") else if o == 39 then Some (codes "\\(aq")
    else if o == 34 then Some (codes "\\(dq") else if o == 45 then Some (codes "\\-") else if o == 92 then Some (codes "\\e")
    else if o == 94 then Some (codes "\\(ha") else if o == 96 then Some (codes "\\(ga") else if o == 126 then Some (codes "\\(ti") else None

-- between single quotes of bash
abbrev pub bash_escape : ℕ → Option (List ℕ)
bash_escape o = if o == 10 then Some (codes " ") else if o == 39 then Some (codes "'\\''") else None

-- between single quotes of zsh, where `_arguments` takes a text apart at brackets and colons
abbrev pub zsh_escape : ℕ → Option (List ℕ)
zsh_escape o =
    if o == 10 then Some (codes " ") else if o == 39 then Some (codes "'\\''") else if o == 58 then Some (codes "\\:")
    else if o == 91 then Some (codes "\\[") else if o == 92 then Some (codes "\\\\") else if o == 93 then Some (codes "\\]") else None

-- between single quotes of fish
abbrev pub fish_escape : ℕ → Option (List ℕ)
fish_escape o = if o == 10 then Some (codes " ") else if o == 39 then Some (codes "\\'") else if o == 92 then Some (codes "\\\\") else None

abbrev pub escape : Syntax → ℕ → Option (List ℕ)
escape Manual o = roff_escape o
escape Bash o = bash_escape o
escape Zsh o = zsh_escape o
escape Fish o = fish_escape o

abbrev pub octet_text : Syntax → ℕ → List ℕ
octet_text syntax o = unwrap_or (escape syntax o) (o ∷ [])

-- a foreign text, octet by octet
abbrev pub written : Syntax → List ℕ → List ℕ
written syntax octets = flat_map (octet_text syntax) octets

-- words, without the commas between them
abbrev pub words_text : List ℕ → List ℕ
words_text words = filter (λ o. not (o == 44)) words

abbrev pub piece_text : Syntax → Piece → List ℕ
piece_text syntax (Raw own) = own.now
piece_text syntax (Text foreign) = written syntax foreign.now
piece_text syntax (Words words) = words_text words.now

abbrev pub pieces_text : Syntax → List Piece → List ℕ
pieces_text syntax pieces = flat_map (piece_text syntax) pieces

-- what stands before an argument's name
abbrev pub mark : Syntax → Spelling → List ℕ
mark syntax Positional = []
mark Manual Short = codes "\\-"
mark Manual Long = codes "\\-\\-"
mark Bash Short = codes "-"
mark Bash Long = codes "--"
mark Zsh Short = codes "-"
mark Zsh Long = codes "--"
mark Fish Short = codes "-s "
mark Fish Long = codes "-l "

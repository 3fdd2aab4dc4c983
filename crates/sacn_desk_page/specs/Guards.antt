-- Which requests are orders to a desk.
use Rattle.std.specs.Prelude.{◌≡◌, ℕ, Bool, not, ◌&&◌, ◌||◌, ◌==◌, List, drop, take, map, count_by, codes, IsTrue, ⊤}
use Rattle.std.specs.List.{list_all}
use Rattle.std.specs.Str.{bytes_eq}
use Rattle.httparse.specs.Grammar.{RequestHead, ReadsRequest}
use Rattle.httparse.specs.Spans.{name_and_value}
use Rattle.sacn_page.specs.Requests.{is_word, is_own}
use Rattle.sacn_desk_page.specs.declared.request.DeskRequest.{DeskRequest}
use Rattle.sacn_desk_page.specs.declared.request.DeskRequest.TheVariants.{More, Page, State, Cues, Order, Refused}

-- a field has this name (RFC 9110, 5.1)
abbrev pub is_named : List ℕ → List ℕ × List ℕ → Bool
is_named name field = is_word name field.0

-- a field's value passes, if it has this name
abbrev pub says : List ℕ → (List ℕ → Bool) → List ℕ × List ℕ → Bool
says name passes field = not (is_named name field) || passes field.1

-- there is one field of this name, and its value passes
abbrev pub has_one : List ℕ → (List ℕ → Bool) → List (List ℕ × List ℕ) → Bool
has_one name passes fields = (count_by (λ f. is_named name f) fields == 1) && list_all (λ f. says name passes f) fields

-- an origin of HTTP (RFC 6454, 6.2) is the very host, with its port, that the one Host field of these says (RFC 9110, 7.2)
abbrev pub is_origin : List (List ℕ × List ℕ) → List ℕ → Bool
is_origin fields text = bytes_eq (take 7 text) (codes "http://") && has_one (codes "host") (λ v. is_word v (drop 7 text)) fields

-- a request of this method and with these fields orders the desk of these names that has this key: it is a POST (RFC 9110, 9.3.3) to the desk's own
-- host, from a page of that very host, with the key
abbrev pub is_order : List (List ℕ) → List ℕ → List ℕ → List (List ℕ × List ℕ) → Bool
is_order names key method fields =
    (bytes_eq method (codes "POST") && is_own names fields)
    && (has_one (codes "origin") (λ v. is_origin fields v) fields && has_one (codes "x-key") (λ v. bytes_eq key v) fields)

-- octets begin with the whole head of a request (RFC 9112, 3) that orders the desk of these names that has this key
pub record BeginsOrder (names : List (List ℕ)) (key : List ℕ) (octets : List ℕ) : Type 0 where
  pub head : RequestHead
  pub rest : List ℕ
  pub reads : ReadsRequest octets head rest
  pub order : IsTrue (is_order names key head.method (map name_and_value head.fields))

-- P, where an order is read
abbrev pub OnOrder : DeskRequest → Type 0 → Type 0
OnOrder More P = ⊤
OnOrder Page P = ⊤
OnOrder State P = ⊤
OnOrder Cues P = ⊤
OnOrder (Order begin end) P = P
OnOrder (Refused refusal) P = ⊤

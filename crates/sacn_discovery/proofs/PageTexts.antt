-- The parts of a page's text, joined.
use Rattle.std.proofs.Common.{◌≡◌, ℕ, zero, suc, ◌+◌, ◌*◌, ◌<◌, List, [], ◌∷◌, ◌++◌, length, get_or, take, drop, min, ◌-◌, refl, sym, ap, ◌∙◌, append_assoc, arith}
use Rattle.std.specs.Int.{w16, w32, to_be_bytes}
use Rattle.std.proofs.lemmas.List.{length-append, length-take, length-drop, take_min}
use Rattle.sacn_packets.specs.RootText.{root_head, flags_and_length}
use Rattle.sacn_packets.specs.Page.{Page}
use Rattle.sacn_packets.specs.PageText.{numbers_text, discovery_text, page_framing_text}
use Rattle.sacn_packets.specs.PacketText.{page_layer}
use Rattle.sacn_packets.proofs.Numbers.{length_text}
use Rattle.sacn_packets.proofs.PageLaws.{length_page_text}
use Rattle.sacn_packets.specs.PacketText.{page_text, unused}
use Rattle.sacn_discovery.specs.Pages.{page_head}

pub numbers_more : (xs : List ℕ) (i : ℕ) → i < length xs → numbers_text (take i xs) ++ to_be_bytes w16 (get_or xs i 0) ≡ numbers_text (take (i + 1) xs)
numbers_more [] i lt = absurd (omega arith)
numbers_more (x ∷ xs) zero lt = refl
numbers_more (x ∷ xs) (suc i) lt =
    let same : suc i + 1 ≡ suc (i + 1) = omega arith in
    rw same (append_assoc (to_be_bytes w16 x) (numbers_text (take i xs)) (to_be_bytes w16 (get_or xs i 0)) ∙ ap (λ (l : List ℕ). to_be_bytes w16 x ++ l) (numbers_more xs i (omega arith)))

regroup : (x e f g h t : List ℕ) → x ++ e ++ f ++ g ++ h ++ t ≡ x ++ (e ++ f ++ g ++ h ++ t)
regroup x e f g h t = simp append_assoc

pub length_page_head : (name : List ℕ) (page last len : ℕ) → length name ≡ 64 → length (page_head name page last len) ≡ 82
length_page_head name page last len size =
    let rest : length (name ++ (0 ∷ 0 ∷ 0 ∷ 0 ∷ []) ++ flags_and_length (8 + len) ++ to_be_bytes w32 1 ++ (page ∷ []) ++ (last ∷ [])) ≡ length name + 12 =
    simp length-append (omega arith) in
    omega (arith, rest, size)

abbrev front : Page → ℕ → List ℕ
front p len = flags_and_length len ++ to_be_bytes w32 2 ++ p.name ++ (0 ∷ 0 ∷ 0 ∷ 0 ∷ [])

layers : (p : Page) → page_head p.name p.page p.last (length (numbers_text p.numbers)) ++ numbers_text p.numbers ≡ front p (82 + length (numbers_text p.numbers)) ++ discovery_text (page_layer p)
layers p =
    let len : ℕ = length (numbers_text p.numbers) in
    regroup (front p (82 + len)) (flags_and_length (8 + len)) (to_be_bytes w32 1) (p.page ∷ []) (p.last ∷ []) (numbers_text p.numbers)

pub joined_text : (p : Page) → length p.name ≡ 64
    → root_head 8 p.cid (82 + 2 * length p.numbers) ++ page_head p.name p.page p.last (2 * length p.numbers) ++ numbers_text p.numbers ≡ page_text p unused
joined_text p size =
    let text : List ℕ = numbers_text p.numbers in
    let len : 2 * length p.numbers ≡ length text = sym (length_text p.numbers) in
    let inner : 82 + length text ≡ 74 + length (discovery_text (page_layer p)) = omega arith in
    let outer : 82 + 2 * length p.numbers ≡ length (page_framing_text (page_layer p) (0 ∷ 0 ∷ 0 ∷ 0 ∷ [])) = sym (length_page_text (page_layer p) (0 ∷ 0 ∷ 0 ∷ 0 ∷ []) size refl) in
    append_assoc (root_head 8 p.cid (82 + 2 * length p.numbers)) (page_head p.name p.page p.last (2 * length p.numbers)) text
    ∙ ap (λ (n : ℕ). root_head 8 p.cid (82 + 2 * length p.numbers) ++ (page_head p.name p.page p.last n ++ text)) len
    ∙ ap (λ (l : List ℕ). root_head 8 p.cid (82 + 2 * length p.numbers) ++ l) (layers p)
    ∙ ap (λ (n : ℕ). root_head 8 p.cid (82 + 2 * length p.numbers) ++ (front p n ++ discovery_text (page_layer p))) inner
    ∙ ap (λ (n : ℕ). root_head 8 p.cid n ++ page_framing_text (page_layer p) (0 ∷ 0 ∷ 0 ∷ 0 ∷ [])) outer

pub sliced : (xs : List ℕ) (s count : ℕ) → count ≡ min (length xs - s) 512 → take (s + count - s) (drop s xs) ≡ take 512 (drop s xs)
sliced xs s count e =
    let n : s + count - s ≡ min 512 (length (drop s xs)) = omega (arith, length-drop s xs, e) in
    rw n (take_min 512 (drop s xs))

pub length_sliced : (xs : List ℕ) (s count : ℕ) → count ≡ min (length xs - s) 512 → count ≡ length (take 512 (drop s xs))
length_sliced xs s count e = omega (arith, length-take 512 (drop s xs), length-drop s xs, e)

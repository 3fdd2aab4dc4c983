-- A page is read exactly where the octets are its text.
use Rattle.std.proofs.Common.{◌≡◌, ℕ, ◌+◌, ◌-◌, ◌*◌, ◌%◌, ◌^◌, ◌<◌, ◌≤◌, true, eqb, List, [], ◌++◌, length, get_or, take, drop, Ok, refl, sym, ap, ◌∙◌, append_assoc, arith, inl, inr, ◌⊎◌, ◌||◌}
use Rattle.std.specs.Prelude.{slice_index, slice_range}
use Rattle.std.specs.Int.{w32, to_be_bytes}
use Rattle.std.proofs.lemmas.Bool.{le-leb, eq-eqb, leb-true, eqb-true, or_left, or_right}
use Rattle.std.proofs.lemmas.List.{length-append, length-take, length-drop, drop_at, take_at, drop-drop, get_or-drop, append-nil}
use Rattle.sacn_packets.specs.Octets.{number16_at, number32_at, flags_of, length_of}
use Rattle.sacn_packets.specs.RootText.{flags_and_length}
use Rattle.sacn_packets.proofs.CheckLists.{AllPassed, checked_is}
use Rattle.sacn_packets.proofs.Pieces.{IsBytes, IsBytes-drop, Starts, Starts-then, number16_starts, number32_starts, octet_starts, slice_starts, number16_back, number32_back}
use Rattle.sacn_packets.specs.Page.{numbers_of}
use Rattle.sacn_packets.specs.PageText.{PageLayer, IsPageLayer, page_framing_text, sync_framing_text, discovery_text, numbers_text}
use Rattle.sacn_packets.specs.PageReading.{reading_page, page_checks, page_at, extended_checks, reading_extended_vector}
use Rattle.sacn_packets.proofs.Numbers.{length_numbers, numbers_back, numbers_fit, text_back, length_text}

-- ---- a page's text is read

split_text : (p : PageLayer) (reserved : List ℕ) → drop 6 (page_framing_text p reserved) ≡ p.name ++ (reserved ++ discovery_text p)
split_text p reserved = append_assoc p.name reserved (discovery_text p)

after_name : (p : PageLayer) (reserved : List ℕ) → length p.name ≡ 64 → drop 70 (page_framing_text p reserved) ≡ reserved ++ discovery_text p
after_name p reserved len = ap (λ (xs : List ℕ). drop 64 xs) (split_text p reserved) ∙ drop_at p.name (reserved ++ discovery_text p) 64 len

after_reserved : (p : PageLayer) (reserved : List ℕ) → length p.name ≡ 64 → length reserved ≡ 4 → drop 74 (page_framing_text p reserved) ≡ discovery_text p
after_reserved p reserved len four = sym (drop-drop 4 70 (page_framing_text p reserved)) ∙ ap (λ (xs : List ℕ). drop 4 xs) (after_name p reserved len) ∙ drop_at reserved (discovery_text p) 4 four

octet : (p : PageLayer) (reserved : List ℕ) (k : ℕ) → length p.name ≡ 64 → length reserved ≡ 4 → get_or (page_framing_text p reserved) (74 + k) 0 ≡ get_or (discovery_text p) k 0
octet p reserved k len four = sym (get_or-drop 74 (page_framing_text p reserved) k 0) ∙ ap (λ (xs : List ℕ). get_or xs k 0) (after_reserved p reserved len four)

pub length_page_text : (p : PageLayer) (reserved : List ℕ) → length p.name ≡ 64 → length reserved ≡ 4 → length (page_framing_text p reserved) ≡ 82 + 2 * length p.numbers
length_page_text p reserved len four =
    let all : length (drop 6 (page_framing_text p reserved)) ≡ 64 + (4 + length (discovery_text p)) =
    ap length (split_text p reserved) ∙ omega (arith, length-append p.name (reserved ++ discovery_text p), length-append reserved (discovery_text p), len, four) in
    omega (arith, all, length_text p.numbers)

kind_fits : (kind : ℕ) → (kind ≡ 1) ⊎ (kind ≡ 2) → kind < 2 ^ 32
kind_fits kind (inl one) = omega (arith, one)
kind_fits kind (inr two) = omega (arith, two)

is_kind : (n kind : ℕ) → n ≡ kind → (kind ≡ 1) ⊎ (kind ≡ 2) → (eqb n 1 || eqb n 2) ≡ true
is_kind n kind e (inl one) = or_left (eqb n 1) (eqb n 2) (eq-eqb n 1 (e ∙ one))
is_kind n kind e (inr two) = or_right (eqb n 1) (eqb n 2) (eq-eqb n 2 (e ∙ two))

pub extended_pass : (kind : ℕ) (content : List ℕ) → (kind ≡ 1) ⊎ (kind ≡ 2) → 6 + length content < 2 ^ 12
    → AllPassed (extended_checks (flags_and_length (6 + length content) ++ to_be_bytes w32 kind ++ content)) × (number32_at (flags_and_length (6 + length content) ++ to_be_bytes w32 kind ++ content) 2 ≡ kind)
extended_pass kind content is fits =
    let octets : List ℕ = flags_and_length (6 + length content) ++ to_be_bytes w32 kind ++ content in
    let len : ℕ = 6 + length content in
    let field : number16_at octets 0 ≡ 7 * 2 ^ 12 + len = number16_back (7 * 2 ^ 12 + len) (omega (arith, fits)) in
    let flags : flags_of octets 0 ≡ 7 = rw field (omega (arith, fits)) in
    let said : length_of octets 0 ≡ len = rw field (omega (arith, fits)) in
    let all : length octets ≡ len = omega arith in
    let vector : number32_at octets 2 ≡ kind = number32_back kind (kind_fits kind is) in (
      (
        le-leb 2 (length octets) (omega (arith, all)),
        (
          eq-eqb (flags_of octets 0) 7 flags,
          (
            eq-eqb (length_of octets 0) (length octets) (omega (arith, said, all)),
            (
              le-leb 6 (length octets) (omega (arith, all)),
              (
                is_kind (number32_at octets 2) kind vector is,
                tt,
              ),
            ),
          ),
        ),
      ),
      vector,
    )

-- a page's text is a framing layer of vector 2
pub page_vector : (p : PageLayer) (reserved : List ℕ) → IsPageLayer p → length reserved ≡ 4 → reading_extended_vector (page_framing_text p reserved) ≡ Ok 2
page_vector p reserved is four =
    let content : List ℕ = p.name ++ reserved ++ discovery_text p in
    let size : 6 + length content ≡ 74 + length (discovery_text p) = omega (arith, length-append (p.name ++ reserved) (discovery_text p), length-append p.name reserved, is.name, four) in
    let small : 6 + length content < 2 ^ 12 = omega (arith, size, length_text p.numbers, is.count) in
    let text : page_framing_text p reserved ≡ flags_and_length (6 + length content) ++ to_be_bytes w32 2 ++ content =
    ap (λ (n : ℕ). flags_and_length n ++ to_be_bytes w32 2 ++ content) (sym size) in
    let octets : List ℕ = flags_and_length (6 + length content) ++ to_be_bytes w32 2 ++ content in
    let pass = extended_pass 2 content (inr refl) small in
    ap reading_extended_vector text ∙ checked_is (extended_checks octets) (number32_at octets 2) pass.0

page_pass : (p : PageLayer) (reserved : List ℕ) → IsPageLayer p → length reserved ≡ 4 → AllPassed (page_checks (page_framing_text p reserved))
page_pass p reserved is four =
    let octets : List ℕ = page_framing_text p reserved in
    let n : ℕ = length p.numbers in
    let numbers : length (numbers_text p.numbers) ≡ 2 * n = length_text p.numbers in
    let len : ℕ = 8 + length (numbers_text p.numbers) in
    let small : len < 2 ^ 12 = omega (arith, numbers, is.count) in
    let field : number16_at octets 74 ≡ 7 * 2 ^ 12 + len = omega (arith, octet p reserved 0 is.name four, octet p reserved 1 is.name four, number16_back (7 * 2 ^ 12 + len) (omega (arith, small))) in
    let flags : flags_of octets 74 ≡ 7 = rw field (omega (arith, small)) in
    let said : length_of octets 74 ≡ len = rw field (omega (arith, small)) in
    let all : length octets ≡ 82 + 2 * n = length_page_text p reserved is.name four in
    let vector : number32_at octets 76 ≡ 1 = omega (arith, octet p reserved 2 is.name four, octet p reserved 3 is.name four, octet p reserved 4 is.name four, octet p reserved 5 is.name four) in
    let page : slice_index octets 80 ≡ p.page = octet p reserved 6 is.name four in
    let last : slice_index octets 81 ≡ p.last = octet p reserved 7 is.name four in (
      le-leb 82 (length octets) (omega (arith, all)),
      (
        eq-eqb (flags_of octets 74) 7 flags,
        (
          eq-eqb (length_of octets 74 + 74) (length octets) (omega (arith, said, numbers, all)),
          (
            eq-eqb (length_of octets 74 % 2) 0 (omega (arith, said, numbers)),
            (
              eq-eqb (number32_at octets 76) 1 vector,
              (
                le-leb (slice_index octets 80) (slice_index octets 81) (omega (arith, page, last, is.page)),
                (
                  le-leb (length octets) 1106 (omega (arith, all, is.count)),
                  tt,
                ),
              ),
            ),
          ),
        ),
      ),
    )

rebuilt : (p : PageLayer) (name : List ℕ) (page last : ℕ) (numbers : List ℕ) → name ≡ p.name → page ≡ p.page → last ≡ p.last → numbers ≡ p.numbers
    → record { name = name; page = page; last = last; numbers = numbers } ≡ p
rebuilt p name page last numbers e0 e1 e2 e3 = rw (e0, e1, e2, e3) refl

same_page : (p : PageLayer) (reserved : List ℕ) → IsPageLayer p → length reserved ≡ 4 → page_at (page_framing_text p reserved) ≡ p
same_page p reserved is four =
    let octets : List ℕ = page_framing_text p reserved in
    let name : slice_range octets 6 70 ≡ p.name = ap (λ (xs : List ℕ). take 64 xs) (split_text p reserved) ∙ take_at p.name (reserved ++ discovery_text p) 64 is.name in
    let tail : drop 82 octets ≡ numbers_text p.numbers = sym (drop-drop 8 74 octets) ∙ ap (λ (xs : List ℕ). drop 8 xs) (after_reserved p reserved is.name four) in
    let numbers : numbers_of (drop 82 octets) ≡ p.numbers = ap numbers_of tail ∙ numbers_back p.numbers is.numbers in
    rebuilt p (slice_range octets 6 70) (slice_index octets 80) (slice_index octets 81) (numbers_of (drop 82 octets)) name (octet p reserved 6 is.name four) (octet p reserved 7 is.name four) numbers

pub page_only : (p : PageLayer) (reserved : List ℕ) → IsPageLayer p → length reserved ≡ 4 → reading_page (page_framing_text p reserved) ≡ Ok p
page_only p reserved is four =
    let octets : List ℕ = page_framing_text p reserved in
    checked_is (page_checks octets) (page_at octets) (page_pass p reserved is four) ∙ ap (λ (q : PageLayer). Ok q) (same_page p reserved is four)

-- ---- what is read as a page is its text

pub layer_is : (octets : List ℕ) → IsBytes octets → AllPassed (page_checks octets) → IsPageLayer (page_at octets) × (length (drop 82 octets) % 2 ≡ 0)
layer_is octets fits h =
    let said : length_of octets 74 + 74 ≡ length octets = eqb-true (length_of octets 74 + 74) (length octets) h.1.1.0 in
    let even : length_of octets 74 % 2 ≡ 0 = eqb-true (length_of octets 74 % 2) 0 h.1.1.1.0 in
    let least : 82 ≤ length octets = leb-true 82 (length octets) h.0 in
    let most : length octets ≤ 1106 = leb-true (length octets) 1106 h.1.1.1.1.1.1.0 in (
      record {
        name = omega (arith, length-take 64 (drop 6 octets), length-drop 6 octets);
        page = leb-true (slice_index octets 80) (slice_index octets 81) h.1.1.1.1.1.0;
        count = omega (arith, length_numbers (drop 82 octets), length-drop 82 octets);
        numbers = numbers_fit (drop 82 octets) (IsBytes-drop 82 octets fits);
      },
      omega (arith, length-drop 82 octets, said, even, least),
    )

pub page_begins : (octets : List ℕ) → IsBytes octets → AllPassed (extended_checks octets) → number32_at octets 2 ≡ 2 → AllPassed (page_checks octets) → octets ≡ page_framing_text (page_at octets) (slice_range octets 70 74)
page_begins octets fits g two h =
    let p : PageLayer = page_at octets in
    let reserved : List ℕ = slice_range octets 70 74 in
    let is = layer_is octets fits h in
    let flags : flags_of octets 0 ≡ 7 = eqb-true (flags_of octets 0) 7 g.1.0 in
    let said : length_of octets 0 ≡ length octets = eqb-true (length_of octets 0) (length octets) g.1.1.0 in
    let least : 82 ≤ length octets = leb-true 82 (length octets) h.0 in
    let inner_flags : flags_of octets 74 ≡ 7 = eqb-true (flags_of octets 74) 7 h.1.0 in
    let inner_said : length_of octets 74 + 74 ≡ length octets = eqb-true (length_of octets 74 + 74) (length octets) h.1.1.0 in
    let back : numbers_text p.numbers ≡ drop 82 octets = text_back (drop 82 octets) (IsBytes-drop 82 octets fits) is.1 in
    let size : length (numbers_text p.numbers) ≡ length octets - 82 = ap length back ∙ length-drop 82 octets in
    let field = number16_starts octets 0 (7 * 2 ^ 12 + (74 + length (discovery_text p))) fits (omega arith) (omega (arith, flags, said, size, least)) in
    let vector = number32_starts octets 2 2 fits (omega arith) two in
    let named = slice_starts octets p.name 6 70 (omega arith) refl in
    let reserves = slice_starts octets reserved 70 74 (omega arith) refl in
    let inner = number16_starts octets 74 (7 * 2 ^ 12 + (8 + length (numbers_text p.numbers))) fits (omega arith) (omega (arith, inner_flags, inner_said, size, least)) in
    let list = number32_starts octets 76 1 fits (omega arith) (eqb-true (number32_at octets 76) 1 h.1.1.1.1.0) in
    let page = octet_starts octets 80 p.page (omega arith) refl in
    let last = octet_starts octets 81 p.last (omega arith) refl in
    let numbers : Starts (drop 82 octets) (numbers_text p.numbers) [] = record { parts = sym back ∙ sym (append-nil (numbers_text p.numbers)) } in
    let discovery = Starts-then (Starts-then (Starts-then (Starts-then inner list) page) last) numbers in
    let whole = Starts-then (Starts-then (Starts-then (Starts-then field vector) named) reserves) discovery in
    whole.parts ∙ append-nil (page_framing_text p reserved)

pub sync_begins : (octets : List ℕ) → IsBytes octets → AllPassed (extended_checks octets) → number32_at octets 2 ≡ 1 → (octets ≡ sync_framing_text (drop 6 octets)) × (length octets < 2 ^ 12)
sync_begins octets fits g one =
    let flags : flags_of octets 0 ≡ 7 = eqb-true (flags_of octets 0) 7 g.1.0 in
    let said : length_of octets 0 ≡ length octets = eqb-true (length_of octets 0) (length octets) g.1.1.0 in
    let least : 6 ≤ length octets = leb-true 6 (length octets) g.1.1.1.0 in
    let field = number16_starts octets 0 (7 * 2 ^ 12 + (6 + length (drop 6 octets))) fits (omega arith) (omega (arith, flags, said, least, length-drop 6 octets)) in
    let vector = number32_starts octets 2 1 fits (omega arith) one in
    ((Starts-then field vector).parts, omega (arith, said))

-- A framing layer is read exactly where the octets are its text.
use Rattle.std.proofs.Common.{◌≡◌, ℕ, ◌+◌, ◌-◌, ◌*◌, ◌%◌, ◌^◌, ◌≤◌, Bool, List, [], ◌∷◌, ◌++◌, length, get_or, take, drop, Ok, refl, sym, ap, subst, ◌∙◌, append_assoc, arith}
use Rattle.std.specs.Prelude.{slice_index, slice_range}
use Rattle.std.specs.Int.{w16, to_be_bytes}
use Rattle.std.proofs.lemmas.Bool.{le-leb, eq-eqb, leb-true, eqb-true}
use Rattle.std.proofs.lemmas.List.{length-append, length-take, length-drop, drop_at, take_at, drop-drop, get_or-drop}
use Rattle.sacn_packets.specs.Octets.{number16_at, number32_at, flags_of, length_of}
use Rattle.sacn_packets.proofs.CheckLists.{AllPassed, all_passed, checked_is}
use Rattle.sacn_packets.proofs.Pieces.{IsBytes, IsBytes-drop, Starts-then, number16_starts, number32_starts, octet_starts, slice_starts, number16_back}
use Rattle.sacn_packets.specs.FramingText.{Framing, Ignored, IsFraming, IsIgnored, ReadsFraming, framing_head, framing_text, options, is_set}
use Rattle.sacn_packets.specs.FramingReading.{reading_framing, framing_checks, framing_at}
use Rattle.sacn_packets.proofs.OptionBits.{preview_back, terminated_back, options_is}

-- what stands after the name
abbrev after_name : Framing → Ignored → List ℕ
after_name f i = (f.priority ∷ []) ++ to_be_bytes w16 i.synchronization ++ (f.number ∷ []) ++ (options f i ∷ []) ++ to_be_bytes w16 f.universe ++ f.body

regroup : (a b c d e f g : List ℕ) → a ++ b ++ c ++ d ++ e ++ f ++ g ≡ a ++ (b ++ c ++ d ++ e ++ f ++ g)
regroup a b c d e f g = simp append_assoc

split_text : (f : Framing) (i : Ignored) → drop 6 (framing_text f i) ≡ f.name ++ after_name f i
split_text f i = regroup f.name (f.priority ∷ []) (to_be_bytes w16 i.synchronization) (f.number ∷ []) (options f i ∷ []) (to_be_bytes w16 f.universe) f.body

after : (f : Framing) (i : Ignored) → length f.name ≡ 64 → drop 70 (framing_text f i) ≡ after_name f i
after f i len = ap (λ (xs : List ℕ). drop 64 xs) (split_text f i) ∙ drop_at f.name (after_name f i) 64 len

octet : (f : Framing) (i : Ignored) (k : ℕ) → length f.name ≡ 64 → get_or (framing_text f i) (70 + k) 0 ≡ get_or (after_name f i) k 0
octet f i k len = sym (get_or-drop 70 (framing_text f i) k 0) ∙ ap (λ (xs : List ℕ). get_or xs k 0) (after f i len)

universe_is : (f : Framing) (i : Ignored) → IsFraming f → number16_at (framing_text f i) 75 ≡ f.universe
universe_is f i is = omega (arith, octet f i 5 is.name, octet f i 6 is.name, number16_back f.universe (omega (arith, is.universe.1)))

pub length_framing_head : (f : Framing) (i : Ignored) (n : ℕ) → length f.name ≡ 64 → length (framing_head f i n) ≡ 77
length_framing_head f i n name =
    let rest : length (f.name ++ (f.priority ∷ []) ++ to_be_bytes w16 i.synchronization ++ (f.number ∷ []) ++ (options f i ∷ []) ++ to_be_bytes w16 f.universe) ≡ length f.name + 7 =
    simp length-append (omega arith) in
    omega (arith, rest, name)

pub length_framing_text : (f : Framing) (i : Ignored) → length f.name ≡ 64 → length (framing_text f i) ≡ 77 + length f.body
length_framing_text f i name = omega (arith, length-append (framing_head f i (length f.body)) f.body, length_framing_head f i (length f.body) name)

all_pass : (f : Framing) (i : Ignored) → IsFraming f → AllPassed (framing_checks (framing_text f i))
all_pass f i is =
    let octets : List ℕ = framing_text f i in
    let len : ℕ = 77 + length f.body in
    let field : number16_at octets 0 ≡ 7 * 2 ^ 12 + len = number16_back (7 * 2 ^ 12 + len) (omega (arith, is.body)) in
    let flags : flags_of octets 0 ≡ 7 = rw field (omega (arith, is.body)) in
    let said : length_of octets 0 ≡ len = rw field (omega (arith, is.body)) in
    let all : length octets ≡ len = length_framing_text f i is.name in
    let priority : slice_index octets 70 ≡ f.priority = octet f i 0 is.name in
    let universe : number16_at octets 75 ≡ f.universe = universe_is f i is in (
      le-leb 2 (length octets) (omega (arith, all)),
      (
        eq-eqb (flags_of octets 0) 7 flags,
        (
          eq-eqb (length_of octets 0) (length octets) (omega (arith, said, all)),
          (
            le-leb 77 (length octets) (omega (arith, all)),
            (
              refl,
              (
                le-leb (slice_index octets 70) 200 (omega (arith, priority, is.priority)),
                (
                  le-leb 1 (number16_at octets 75) (omega (arith, universe, is.universe.0)),
                  (
                    le-leb (number16_at octets 75) 63999 (omega (arith, universe, is.universe.1)),
                    tt,
                  ),
                ),
              ),
            ),
          ),
        ),
      ),
    )

begins : (octets : List ℕ) → IsBytes octets → AllPassed (framing_checks octets) → ReadsFraming octets (framing_at octets)
begins octets fits h =
    let f : Framing = framing_at octets in
    let i : Ignored = record { synchronization = number16_at octets 71; reserved = slice_index octets 74 % 2 ^ 6 } in
    let flags : flags_of octets 0 ≡ 7 = eqb-true (flags_of octets 0) 7 h.1.0 in
    let said : length_of octets 0 ≡ length octets = eqb-true (length_of octets 0) (length octets) h.1.1.0 in
    let least : 77 ≤ length octets = leb-true 77 (length octets) h.1.1.1.0 in
    let body : length f.body ≡ length octets - 77 = length-drop 77 octets in
    let name : length f.name ≡ 64 = omega (arith, length-take 64 (drop 6 octets), length-drop 6 octets) in
    let bits : slice_index octets 74 ≡ options f i = options_is (slice_index octets 74) (fits 74) in
    let field = number16_starts octets 0 (7 * 2 ^ 12 + (77 + length f.body)) fits (omega arith) (omega (arith, flags, said, body)) in
    let vector = number32_starts octets 2 2 fits (omega arith) (eqb-true (number32_at octets 2) 2 h.1.1.1.1.0) in
    let named = slice_starts octets f.name 6 70 (omega arith) refl in
    let priority = octet_starts octets 70 f.priority (omega arith) refl in
    let synchronization = number16_starts octets 71 i.synchronization fits (omega arith) refl in
    let number = octet_starts octets 73 f.number (omega arith) refl in
    let option = octet_starts octets 74 (options f i) (omega arith) bits in
    let universe = number16_starts octets 75 f.universe fits (omega arith) refl in
    let front = Starts-then (Starts-then (Starts-then (Starts-then (Starts-then (Starts-then (Starts-then field vector) named) priority) synchronization) number) option) universe in
    record {
      is_framing = record {
        name = name;
        priority = leb-true (slice_index octets 70) 200 h.1.1.1.1.1.0;
        universe = (leb-true 1 (number16_at octets 75) h.1.1.1.1.1.1.0, leb-true (number16_at octets 75) 63999 h.1.1.1.1.1.1.1.0);
        body = omega (arith, body, said, least);
      };
      ignored = i;
      is_ignored = record { synchronization = omega (arith, fits 71, fits 72); reserved = omega arith };
      is_text = front.parts;
    }

pub framing_found : (octets : List ℕ) (f : Framing) → IsBytes octets → reading_framing octets ≡ Ok f → ReadsFraming octets f
framing_found octets f fits e =
    let h = all_passed (framing_checks octets) (framing_at octets) f e in
    subst (λ (s : Framing). ReadsFraming octets s) h.1 (begins octets fits h.0)

rebuilt : (f : Framing) (name : List ℕ) (priority number : ℕ) (preview terminated : Bool) (universe : ℕ) (body : List ℕ) → name ≡ f.name → priority ≡ f.priority → number ≡ f.number → preview ≡ f.preview → terminated ≡ f.terminated → universe ≡ f.universe → body ≡ f.body
    → record { name = name; priority = priority; number = number; preview = preview; terminated = terminated; universe = universe; body = body } ≡ f
rebuilt f name priority number preview terminated universe body e0 e1 e2 e3 e4 e5 e6 = rw (e0, e1, e2, e3, e4, e5, e6) refl

same_framing : (f : Framing) (i : Ignored) → IsFraming f → IsIgnored i → framing_at (framing_text f i) ≡ f
same_framing f i is ignored =
    let octets : List ℕ = framing_text f i in
    let bits : slice_index octets 74 ≡ options f i = octet f i 4 is.name in
    let preview : is_set (slice_index octets 74) 7 ≡ f.preview = ap (λ (n : ℕ). is_set n 7) bits ∙ preview_back f.preview f.terminated i.reserved ignored.reserved in
    let terminated : is_set (slice_index octets 74) 6 ≡ f.terminated = ap (λ (n : ℕ). is_set n 6) bits ∙ terminated_back f.preview f.terminated i.reserved ignored.reserved in
    let name : slice_range octets 6 70 ≡ f.name = ap (λ (xs : List ℕ). take 64 xs) (split_text f i) ∙ take_at f.name (after_name f i) 64 is.name in
    let body : drop 77 octets ≡ f.body = sym (drop-drop 7 70 octets) ∙ ap (λ (xs : List ℕ). drop 7 xs) (after f i is.name) in
    rebuilt f (slice_range octets 6 70) (slice_index octets 70) (slice_index octets 73) (is_set (slice_index octets 74) 7) (is_set (slice_index octets 74) 6) (number16_at octets 75) (drop 77 octets)
    name (octet f i 0 is.name) (octet f i 3 is.name) preview terminated (universe_is f i is) body

pub framing_only : (octets : List ℕ) (f : Framing) → ReadsFraming octets f → reading_framing octets ≡ Ok f
framing_only octets f reads =
    let text : List ℕ = framing_text f reads.ignored in
    ap reading_framing reads.is_text ∙ checked_is (framing_checks text) (framing_at text) (all_pass f reads.ignored reads.is_framing) ∙ ap (λ (s : Framing). Ok s) (same_framing f reads.ignored reads.is_framing reads.is_ignored)

pub body_bytes : (octets : List ℕ) (f : Framing) → IsBytes octets → reading_framing octets ≡ Ok f → IsBytes f.body
body_bytes octets f fits e =
    let h = all_passed (framing_checks octets) (framing_at octets) f e in
    subst (λ (s : Framing). IsBytes s.body) h.1 (IsBytes-drop 77 octets fits)

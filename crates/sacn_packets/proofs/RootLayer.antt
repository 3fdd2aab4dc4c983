-- A root layer is read exactly where its text stands.
use Rattle.std.proofs.Common.{◌≡◌, ℕ, ◌+◌, ◌<◌, ◌≤◌, true, List, ◌++◌, length, take, drop, Result, Ok, Err, refl, sym, ap, subst, ◌∙◌, append_assoc, arith, eqb, inl, inr, ◌⊎◌, ◌||◌, ◌*◌, ◌^◌, ◌-◌}
use Rattle.std.specs.Prelude.{slice_range, IfOk}
use Rattle.std.proofs.lemmas.Slice.Eq.{bytes_eq-Decides}
use Rattle.std.proofs.lemmas.Bool.{le-leb, eq-eqb, or_left, or_right, leb-true, eqb-true, or_cases}
use Rattle.std.proofs.lemmas.List.{length-append, length-take, length-drop, take_at, drop_at}
use Rattle.sacn_packets.specs.declared.root.fault.PacketFault.{PacketFault}
use Rattle.sacn_packets.specs.declared.root.reading.RootView.{RootView}
use Rattle.sacn_packets.specs.Results.{map_ok}
use Rattle.sacn_packets.specs.Octets.{number16_at, number32_at, flags_of, length_of}
use Rattle.sacn_packets.specs.RootText.{Root, IsRoot, ReadsRoot, root_of, root_text, identifier}
use Rattle.sacn_packets.specs.RootReading.{reading_root, root_checks, root_at}
use Rattle.sacn_packets.proofs.CheckLists.{AllPassed, all_passed, checked_is}
use Rattle.sacn_packets.proofs.Pieces.{IsBytes, IsBytes-take, IsBytes-drop, Starts-then, number16_starts, number32_starts, slice_starts, number16_back, number32_back}

vector_fits : (r : Root) → IsRoot r → r.vector < 2 ^ 32
vector_fits r is = elim (is.vector) [ inl four ↦ omega (arith, four) | inr eight ↦ omega (arith, eight) ]

is_vector : (n vector : ℕ) → n ≡ vector → (vector ≡ 4) ⊎ (vector ≡ 8) → (eqb n 4 || eqb n 8) ≡ true
is_vector n vector e (inl four) = or_left (eqb n 4) (eqb n 8) (eq-eqb n 4 (e ∙ four))
is_vector n vector e (inr eight) = or_right (eqb n 4) (eqb n 8) (eq-eqb n 8 (e ∙ eight))

all_pass : (r : Root) (rest : List ℕ) → IsRoot r → AllPassed (root_checks (root_text r ++ rest))
all_pass r rest is =
    let octets : List ℕ = root_text r ++ rest in
    let field : number16_at octets 16 ≡ 7 * 2 ^ 12 + (22 + length r.body) = number16_back (7 * 2 ^ 12 + (22 + length r.body)) (omega (arith, is.body)) in
    let flags : flags_of octets 16 ≡ 7 = rw field (omega (arith, is.body)) in
    let len : length_of octets 16 ≡ 22 + length r.body = rw field (omega (arith, is.body)) in
    let all : length octets ≡ 38 + (length r.body + length rest) = omega (arith, length-append r.cid (r.body), length-append (r.cid ++ r.body) rest, is.cid) in
    let vector : number32_at octets 18 ≡ r.vector = number32_back r.vector (vector_fits r is) in (
      le-leb 2 (length octets) (omega (arith, all)),
      (
        refl,
        (
          le-leb 4 (length octets) (omega (arith, all)),
          (
            refl,
            (
              le-leb 16 (length octets) (omega (arith, all)),
              (
                refl,
                (
                  le-leb 18 (length octets) (omega (arith, all)),
                  (
                    eq-eqb (flags_of octets 16) 7 flags,
                    (
                      le-leb 22 (length_of octets 16) (omega (arith, len)),
                      (
                        le-leb (16 + length_of octets 16) (length octets) (omega (arith, len, all)),
                        (
                          is_vector (number32_at octets 18) r.vector vector is.vector,
                          tt,
                        ),
                      ),
                    ),
                  ),
                ),
              ),
            ),
          ),
        ),
      ),
    )

vector_is : (n : ℕ) → (eqb n 4 ≡ true) ⊎ (eqb n 8 ≡ true) → (n ≡ 4) ⊎ (n ≡ 8)
vector_is n (inl four) = inl (eqb-true n 4 four)
vector_is n (inr eight) = inr (eqb-true n 8 eight)

length_slice : (octets : List ℕ) (a b : ℕ) → a ≤ b → b ≤ length octets → length (slice_range octets a b) ≡ b - a
length_slice octets a b le within = omega (arith, length-take (b - a) (drop a octets), length-drop a octets)

begins : (octets : List ℕ) → IsBytes octets → AllPassed (root_checks octets) → ReadsRoot octets (root_at octets)
begins octets fits h =
    let r : Root = root_at octets in
    let len : ℕ = length_of octets 16 in
    let flags : flags_of octets 16 ≡ 7 = eqb-true (flags_of octets 16) 7 h.1.1.1.1.1.1.1.0 in
    let least : 22 ≤ len = leb-true 22 len h.1.1.1.1.1.1.1.1.0 in
    let whole : 16 + len ≤ length octets = leb-true (16 + len) (length octets) h.1.1.1.1.1.1.1.1.1.0 in
    let vector = or_cases (eqb r.vector 4) (eqb r.vector 8) h.1.1.1.1.1.1.1.1.1.1.0 in
    let cid : length r.cid ≡ 16 = length_slice octets 22 38 (omega arith) (omega arith) in
    let body : length r.body ≡ 16 + len - 38 = length_slice octets 38 (16 + len) (omega arith) whole in
    let preamble = number16_starts octets 0 16 fits (omega arith) (eqb-true (number16_at octets 0) 16 h.1.0) in
    let postamble = number16_starts octets 2 0 fits (omega arith) (eqb-true (number16_at octets 2) 0 h.1.1.1.0) in
    let named = slice_starts octets identifier 4 16 (omega arith) ((bytes_eq-Decides (slice_range octets 4 16) identifier).0 h.1.1.1.1.1.0) in
    let field = number16_starts octets 16 (7 * 2 ^ 12 + (22 + length r.body)) fits (omega arith) (omega (arith, flags, body, least)) in
    let vectors = number32_starts octets 18 r.vector fits (omega arith) refl in
    let cids = slice_starts octets r.cid 22 38 (omega arith) refl in
    let bodies = slice_starts octets r.body 38 (16 + len) (omega arith) refl in
    let head = Starts-then (Starts-then (Starts-then (Starts-then (Starts-then preamble postamble) named) field) vectors) cids in
    record {
      is_root = record { vector = vector_is r.vector vector; cid = cid; body = omega arith };
      begins = (drop (16 + len) octets, (Starts-then head bodies).parts);
    }

pub root_found : (octets : List ℕ) (r : Root) → IsBytes octets → reading_root octets ≡ Ok r → ReadsRoot octets r
root_found octets r fits e =
    let h = all_passed (root_checks octets) (root_at octets) r e in
    subst (λ (s : Root). ReadsRoot octets s) h.1 (begins octets fits h.0)

rebuilt : (r : Root) (vector : ℕ) (cid body : List ℕ) → vector ≡ r.vector → cid ≡ r.cid → body ≡ r.body → record { vector = vector; cid = cid; body = body } ≡ r
rebuilt r vector cid body e f g = rw (e, f, g) refl

same_root : (r : Root) (rest : List ℕ) → IsRoot r → root_at (root_text r ++ rest) ≡ r
same_root r rest is =
    let octets : List ℕ = root_text r ++ rest in
    let field : number16_at octets 16 ≡ 7 * 2 ^ 12 + (22 + length r.body) = number16_back (7 * 2 ^ 12 + (22 + length r.body)) (omega (arith, is.body)) in
    let end : 16 + length_of octets 16 - 38 ≡ length r.body = rw field (omega (arith, is.body)) in
    let split : r.cid ++ r.body ++ rest ≡ r.cid ++ (r.body ++ rest) = append_assoc r.cid r.body rest in
    let vector : number32_at octets 18 ≡ r.vector = number32_back r.vector (vector_fits r is) in
    let cid : slice_range octets 22 38 ≡ r.cid = ap (λ (xs : List ℕ). take 16 xs) split ∙ take_at r.cid (r.body ++ rest) 16 is.cid in
    let after : drop 38 octets ≡ r.body ++ rest = ap (λ (xs : List ℕ). drop 16 xs) split ∙ drop_at r.cid (r.body ++ rest) 16 is.cid in
    let body : slice_range octets 38 (16 + length_of octets 16) ≡ r.body = ap (λ (n : ℕ). take n (drop 38 octets)) end ∙ ap (λ (xs : List ℕ). take (length r.body) xs) after ∙ take_at r.body rest (length r.body) refl in
    rebuilt r (number32_at octets 18) (slice_range octets 22 38) (slice_range octets 38 (16 + length_of octets 16)) vector cid body

pub root_only : (octets : List ℕ) (r : Root) → ReadsRoot octets r → reading_root octets ≡ Ok r
root_only octets r reads =
    let rest = reads.begins.0 in
    ap reading_root reads.begins.1 ∙ checked_is (root_checks (root_text r ++ rest)) (root_at (root_text r ++ rest)) (all_pass r rest reads.is_root) ∙ ap (λ (s : Root). Ok s) (same_root r rest reads.is_root)

pub is_found : (octets : List ℕ) (result : Result RootView PacketFault) → IsBytes octets → map_ok root_of result ≡ reading_root octets → IfOk result (λ view. ReadsRoot octets (root_of view))
is_found octets (Ok view) fits e = root_found octets (root_of view) fits (sym e)
is_found octets (Err fault) fits e = tt

pub body_bytes : (octets : List ℕ) (r : Root) → IsBytes octets → reading_root octets ≡ Ok r → IsBytes r.body
body_bytes octets r fits e =
    let h = all_passed (root_checks octets) (root_at octets) r e in
    subst (λ (s : Root). IsBytes s.body) h.1 (IsBytes-take (16 + length_of octets 16 - 38) (drop 38 octets) (IsBytes-drop 38 octets fits))

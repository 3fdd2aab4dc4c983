-- A DMP layer is read exactly where the octets are its text.
use Rattle.std.proofs.Common.{◌≡◌, ℕ, ◌+◌, ◌*◌, ◌^◌, ◌≤◌, List, [], ◌∷◌, ◌++◌, length, Result, Ok, Err, refl, sym, ap, subst, ◌∙◌, arith}
use Rattle.std.specs.Prelude.{IfOk, slice_index}
use Rattle.std.proofs.lemmas.Bool.{le-leb, eq-eqb, leb-true, eqb-true}
use Rattle.std.proofs.lemmas.List.{length-drop}
use Rattle.sacn_packets.specs.declared.root.fault.PacketFault.{PacketFault}
use Rattle.sacn_packets.specs.Results.{map_ok}
use Rattle.sacn_packets.specs.Octets.{number16_at, flags_of, length_of}
use Rattle.sacn_packets.specs.RootText.{flags_and_length}
use Rattle.std.specs.Int.{w16, to_be_bytes}
use Rattle.sacn_packets.proofs.CheckLists.{AllPassed, all_passed, checked_is}
use Rattle.sacn_packets.proofs.Pieces.{IsBytes, Starts-then, number16_starts, octet_starts, number16_back}
use Rattle.sacn_packets.specs.declared.dmp.reading.DmpView.{DmpView}
use Rattle.sacn_packets.specs.DmpText.{Dmp, IsDmp, dmp_text, dmp_of, values}
use Rattle.sacn_packets.specs.DmpReading.{reading_dmp, dmp_checks, dmp_at}

all_pass : (d : Dmp) → IsDmp d → AllPassed (dmp_checks (dmp_text d))
all_pass d is =
    let octets : List ℕ = dmp_text d in
    let count : ℕ = length (values d) in
    let few : count ≤ 513 = omega (arith, is.slots) in
    let field : number16_at octets 0 ≡ 7 * 2 ^ 12 + (10 + count) = number16_back (7 * 2 ^ 12 + (10 + count)) (omega (arith, few)) in
    let flags : flags_of octets 0 ≡ 7 = rw field (omega (arith, few)) in
    let len : length_of octets 0 ≡ 10 + count = rw field (omega (arith, few)) in
    let counted : number16_at octets 8 ≡ count = number16_back count (omega (arith, few)) in
    let all : length octets ≡ 10 + count = omega arith in (
      le-leb 2 (length octets) (omega (arith, all)),
      (
        eq-eqb (flags_of octets 0) 7 flags,
        (
          eq-eqb (length_of octets 0) (length octets) (omega (arith, len, all)),
          (
            le-leb 10 (length octets) (omega (arith, all)),
            (
              refl,
              (
                refl,
                (
                  refl,
                  (
                    refl,
                    (
                      le-leb 1 (number16_at octets 8) (omega (arith, counted)),
                      (
                        le-leb (number16_at octets 8) 513 (omega (arith, counted, few)),
                        (
                          eq-eqb (number16_at octets 8 + 10) (length octets) (omega (arith, counted, all)),
                          tt,
                        ),
                      ),
                    ),
                  ),
                ),
              ),
            ),
          ),
        ),
      ),
    )

begins : (octets : List ℕ) → IsBytes octets → AllPassed (dmp_checks octets) → IsDmp (dmp_at octets) × (octets ≡ dmp_text (dmp_at octets))
begins octets fits h =
    let d : Dmp = dmp_at octets in
    let count : ℕ = number16_at octets 8 in
    let flags : flags_of octets 0 ≡ 7 = eqb-true (flags_of octets 0) 7 h.1.0 in
    let len : length_of octets 0 ≡ length octets = eqb-true (length_of octets 0) (length octets) h.1.1.0 in
    let some : 1 ≤ count = leb-true 1 count h.1.1.1.1.1.1.1.1.0 in
    let few : count ≤ 513 = leb-true count 513 h.1.1.1.1.1.1.1.1.1.0 in
    let all : count + 10 ≡ length octets = eqb-true (count + 10) (length octets) h.1.1.1.1.1.1.1.1.1.1.0 in
    let slots : length (values d) ≡ count = omega (arith, length-drop 11 octets) in
    let field = number16_starts octets 0 (7 * 2 ^ 12 + (10 + length (values d))) fits (omega arith) (omega (arith, flags, len, all, slots)) in
    let vector = octet_starts octets 2 0x02 (omega arith) (eqb-true (slice_index octets 2) 0x02 h.1.1.1.1.0) in
    let kind = octet_starts octets 3 0xa1 (omega arith) (eqb-true (slice_index octets 3) 0xa1 h.1.1.1.1.1.0) in
    let first = number16_starts octets 4 0 fits (omega arith) (eqb-true (number16_at octets 4) 0 h.1.1.1.1.1.1.0) in
    let increment = number16_starts octets 6 1 fits (omega arith) (eqb-true (number16_at octets 6) 1 h.1.1.1.1.1.1.1.0) in
    let counted = number16_starts octets 8 (length (values d)) fits (omega arith) (omega (arith, slots)) in
    let start = octet_starts octets 10 d.start (omega arith) refl in
    let front = Starts-then (Starts-then (Starts-then (Starts-then (Starts-then field vector) kind) first) increment) counted in
    (record { slots = omega (arith, length-drop 11 octets) }, front.parts ∙ ap (λ (xs : List ℕ). flags_and_length (10 + length (values d)) ++ (0x02 ∷ []) ++ (0xa1 ∷ []) ++ to_be_bytes w16 0 ++ to_be_bytes w16 1 ++ to_be_bytes w16 (length (values d)) ++ xs) start.parts)

pub dmp_found : (octets : List ℕ) (d : Dmp) → IsBytes octets → reading_dmp octets ≡ Ok d → IsDmp d × (octets ≡ dmp_text d)
dmp_found octets d fits e =
    let h = all_passed (dmp_checks octets) (dmp_at octets) d e in
    subst (λ (s : Dmp). IsDmp s × (octets ≡ dmp_text s)) h.1 (begins octets fits h.0)

pub dmp_only : (octets : List ℕ) (d : Dmp) → IsDmp d → octets ≡ dmp_text d → reading_dmp octets ≡ Ok d
dmp_only octets d is e = ap reading_dmp e ∙ checked_is (dmp_checks (dmp_text d)) (dmp_at (dmp_text d)) (all_pass d is)

pub is_found : (octets : List ℕ) (result : Result DmpView PacketFault) → IsBytes octets → map_ok dmp_of result ≡ reading_dmp octets → IfOk result (λ view. IsDmp (dmp_of view) × (octets ≡ dmp_text (dmp_of view)))
is_found octets (Ok view) fits e = dmp_found octets (dmp_of view) fits (sym e)
is_found octets (Err fault) fits e = tt

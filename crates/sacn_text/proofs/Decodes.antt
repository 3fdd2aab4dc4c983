-- One datagram more.
use Rattle.std.proofs.Common.{◌≡◌, ℕ, zero, suc, ◌+◌, ◌<◌, ◌≤◌, List, [], ◌∷◌, ◌++◌, length, get_or, take, drop, Some, None, Result, Ok, Err, refl, sym, ap, ◌∙◌, append_assoc, arith, Vec, Global}
use Rattle.std.proofs.lemmas.List.{length-append, append-nil, drop_all, take-append-le, take_at}
use Rattle.std.specs.Fmt.{decimal}
use Rattle.sacn_packets.specs.declared.root.fault.PacketFault.{PacketFault}
use Rattle.sacn_packets.specs.declared.framing.packet.Packet.{Packet}
use Rattle.sacn_packets.specs.PacketReading.{reading_packet}
use Rattle.sacn_discovery.specs.Collection.{State}
use Rattle.sacn_text.specs.Words.{spaced}
use Rattle.sacn_text.specs.Decoding.{Decoded, decoded, decoded_by, then_text, block, state_after, octets_of}

pub drop_first : {X : Type 0} (xs : List X) (i : ℕ) (d : X) → i < length xs → drop i xs ≡ get_or xs i d ∷ drop (i + 1) xs
drop_first [] i d lt = absurd (omega arith)
drop_first (x ∷ xs) zero d lt = refl
drop_first (x ∷ xs) (suc i) d lt = let same : suc i + 1 ≡ suc (i + 1) = omega arith in rw same (drop_first xs i d (omega arith))

pub spaced_more : (numbers : List ℕ) (i : ℕ) (text piece all : List ℕ) → i < length numbers → text ++ spaced (drop i numbers) ≡ all → piece ≡ 32 ∷ decimal (get_or numbers i 0) → (text ++ piece) ++ spaced (drop (i + 1) numbers) ≡ all
spaced_more numbers i text piece all lt so_far is =
    append_assoc text piece (spaced (drop (i + 1) numbers))
    ∙ ap (λ (p : List ℕ). text ++ (p ++ spaced (drop (i + 1) numbers))) is
    ∙ ap (λ (l : List ℕ). text ++ spaced l) (sym (drop_first numbers i 0 lt))
    ∙ so_far

-- as many cells past a front as past nothing
pub take_past : (xs ys : List ℕ) (n : ℕ) → take (length xs + n) (xs ++ ys) ≡ xs ++ take n ys
take_past [] ys n = let same : 0 + n ≡ n = omega arith in ap (λ (k : ℕ). take k ys) same
take_past (x ∷ xs) ys n = let same : suc (length xs) + n ≡ suc (length xs + n) = omega arith in rw same (ap (λ (l : List ℕ). x ∷ l) (take_past xs ys n))

octets_first : (ds : List (Vec ℕ Global)) (i : ℕ) (d : Vec ℕ Global) → i < length ds → drop i (octets_of ds) ≡ (get_or ds i d).items ∷ drop (i + 1) (octets_of ds)
octets_first [] i d lt = absurd (omega arith)
octets_first (x ∷ xs) zero d lt = refl
octets_first (x ∷ xs) (suc i) d lt = let same : suc i + 1 ≡ suc (i + 1) = omega arith in rw same (octets_first xs i d (omega arith))

length_octets : (ds : List (Vec ℕ Global)) → length (octets_of ds) ≡ length ds
length_octets [] = refl
length_octets (x ∷ xs) = omega (arith, length_octets xs)

module _ (total : Decoded) (told : List ℕ) (s : State) (ds : List (Vec ℕ Global)) (i : ℕ) (so_far : total ≡ then_text told (decoded s i (drop i (octets_of ds)))) where
  module _ (d : Vec ℕ Global) (lt : i < length ds) (r : Result Packet PacketFault) (read : r ≡ reading_packet (get_or ds i d).items) where
    here : decoded s i (drop i (octets_of ds)) ≡ decoded_by r s i (λ t. decoded t (i + 1) (drop (i + 1) (octets_of ds)))
    here = ap (decoded s i) (octets_first ds i d lt) ∙ ap (λ x. decoded_by x s i (λ t. decoded t (i + 1) (drop (i + 1) (octets_of ds)))) (sym read)

    module _ (packet : Packet) (is : r ≡ Ok packet) where
      abbrev rest : Decoded
      rest = decoded (state_after packet s) (i + 1) (drop (i + 1) (octets_of ds))

      one_more : total ≡ then_text told (then_text (block packet s) rest)
      one_more = so_far ∙ ap (then_text told) (here ∙ ap (λ x. decoded_by x s i (λ t. decoded t (i + 1) (drop (i + 1) (octets_of ds)))) is)

      pub packet_more : total ≡ then_text (told ++ block packet s) (decoded (state_after packet s) (i + 1) (drop (i + 1) (octets_of ds)))
      packet_more = one_more ∙ ap (λ (l : List ℕ). let x : Decoded = record { text = l; refused = rest.refused } in x) (sym (append_assoc told (block packet s) rest.text))

      text_is : total.text ≡ told ++ (block packet s ++ rest.text)
      text_is = ap (λ (x : Decoded). x.text) one_more

      pub told_part : take (length told) total.text ≡ told
      told_part = ap (λ (l : List ℕ). take (length told) l) text_is ∙ take_at told (block packet s ++ rest.text) (length told) refl

      pub written_part : (n : ℕ) → n < length (block packet s) → (length told + n < length total.text) × (take (length told + n) total.text ≡ told ++ take n (block packet s))
      written_part n less = (
        omega (arith, ap length text_is, length-append told (block packet s ++ rest.text), length-append (block packet s) rest.text),
        ap (λ (l : List ℕ). take (length told + n) l) text_is ∙ take_past told (block packet s ++ rest.text) n ∙ ap (λ (l : List ℕ). told ++ l) (take-append-le n (block packet s) rest.text (omega arith)),
      )

    pub is_refused : (fault : PacketFault) → r ≡ Err fault → (total.refused ≡ Some (i, fault)) × (total.text ≡ told)
    is_refused fault is =
        let e : total ≡ then_text told (record { text = []; refused = Some (i, fault) }) = so_far ∙ ap (then_text told) (here ∙ ap (λ x. decoded_by x s i (λ t. decoded t (i + 1) (drop (i + 1) (octets_of ds)))) is) in
        (ap (λ (x : Decoded). x.refused) e, ap (λ (x : Decoded). x.text) e ∙ append-nil told)

  pub all_told : length ds ≤ i → (total.refused ≡ None) × (total.text ≡ told)
  all_told le =
      let e : total ≡ then_text told (record { text = []; refused = None }) = so_far ∙ ap (λ l. then_text told (decoded s i l)) (drop_all i (octets_of ds) (omega (arith, length_octets ds))) in
      (ap (λ (x : Decoded). x.refused) e, ap (λ (x : Decoded). x.text) e ∙ append-nil told)

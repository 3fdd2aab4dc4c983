-- The packet of a datagram gives the datagram.
use Rattle.std.proofs.Common.{◌≡◌, ℕ, ◌+◌, ◌-◌, ◌*◌, ◌/◌, ◌%◌, ◌^◌, ◌<◌, ◌≤◌, true, List, [], ◌∷◌, ◌++◌, length, take, drop, get_or, Some, Ok, Err, sym, subst, ap, ◌∙◌, take_all, arith}
use Rattle.std.proofs.Math.Seq.{drop-cons}
use Rattle.std.specs.Prelude.{nat_le, if◌then◌else◌}
use Rattle.std.proofs.lemmas.Bool.{le-leb}
use Rattle.std.proofs.lemmas.List.{drop_all}
use Rattle.sacn_capture.specs.declared.links.LinkType.TheVariants.{RawIp}
use Rattle.sacn_capture.specs.declared.links.Passed.TheVariants.{Cut, TooLong}
use Rattle.sacn_capture.specs.Check.{checked, ◌>>=◌}
use Rattle.sacn_capture.specs.Frames.{Sent, reading_datagram, reading_packet, sent_at}
use Rattle.sacn_capture.specs.Recordings.{frame_content}
use Rattle.sacn_record.specs.Packets.{big16, checksum, ipv4_header, udp_header, packet}
use Rattle.sacn_record.proofs.Numbers.{big_again}

-- a datagram, its addresses octet by octet
pub plain : (a b c d e f g h p q : ℕ) (payload : List ℕ) → Sent
plain a b c d e f g h p q payload = record { sender = a ∷ b ∷ c ∷ d ∷ []; sender_port = p; destination = e ∷ f ∷ g ∷ h ∷ []; destination_port = q; payload = payload }

lengths_pass : {V : Type 0} (t u len n : ℕ) (value : V) → t ≡ 28 + n → u ≡ 8 + n → len ≡ 28 + n
    → checked ((nat_le 20 len, Cut) ∷ (nat_le 28 t, Cut) ∷ (nat_le t len, Cut) ∷ (nat_le 8 u, Cut) ∷ (nat_le (20 + u) t, Cut) ∷ []) value ≡ Ok value
lengths_pass {V} t u len n value et eu el =
    let a : nat_le 20 len ≡ true = le-leb 20 len (omega arith) in
    let b : nat_le 28 t ≡ true = le-leb 28 t (omega arith) in
    let c : nat_le t len ≡ true = le-leb t len (omega arith) in
    let d : nat_le 8 u ≡ true = le-leb 8 u (omega arith) in
    let e : nat_le (20 + u) t ≡ true = le-leb (20 + u) t (omega arith) in
    let pass : checked ((nat_le 20 len, Cut) ∷ (nat_le 28 t, Cut) ∷ (nat_le t len, Cut) ∷ (nat_le 8 u, Cut) ∷ (nat_le (20 + u) t, Cut) ∷ []) value ≡ Ok value =
    λ i. checked ((a i, Cut) ∷ (b i, Cut) ∷ (c i, Cut) ∷ (d i, Cut) ∷ (e i, Cut) ∷ []) value in
    pass

module _ (a b c d e f g h p q sum : ℕ) (payload : List ℕ) (small_p : p < 2 ^ 16) (small_q : q < 2 ^ 16) (few : length payload ≤ 2048) where
  octets_of : List ℕ
  octets_of = ipv4_header sum (plain a b c d e f g h p q payload) ++ udp_header (plain a b c d e f g h p q payload) ++ payload

  total_again : 256 * ((28 + length payload) / 256 % 256) + (28 + length payload) % 256 ≡ 28 + length payload
  total_again = big_again (28 + length payload) (omega arith)

  length_again : 256 * ((8 + length payload) / 256 % 256) + (8 + length payload) % 256 ≡ 8 + length payload
  length_again = big_again (8 + length payload) (omega arith)

  octets_length : length octets_of ≡ 28 + length payload
  unfolding octets_of ipv4_header udp_header big16 plain
  octets_length = omega arith

  datagram_again : sent_at octets_of ≡ plain a b c d e f g h p q payload
  unfolding octets_of ipv4_header udp_header big16 plain
  datagram_again =
      let count : (20 + (256 * ((8 + length payload) / 256 % 256) + (8 + length payload) % 256)) - 28 ≡ length payload = omega (arith, length_again) in
      let whole : take ((20 + (256 * ((8 + length payload) / 256 % 256) + (8 + length payload) % 256)) - 28) payload ≡ payload =
      ap (λ (n : ℕ). take n payload) count ∙ take_all (length payload) payload (omega arith) in
      let ports_p = big_again p small_p in
      let ports_q = big_again q small_q in
      λ i. record { sender = a ∷ b ∷ c ∷ d ∷ []; sender_port = ports_p i; destination = e ∷ f ∷ g ∷ h ∷ []; destination_port = ports_q i; payload = whole i }

  packet_again : reading_packet octets_of ≡ Ok (sent_at octets_of)
  unfolding octets_of ipv4_header udp_header big16 plain
  packet_again =
      lengths_pass (256 * ((28 + length payload) / 256 % 256) + (28 + length payload) % 256) (256 * ((8 + length payload) / 256 % 256) + (8 + length payload) % 256) (length octets_of) (length payload) (sent_at octets_of) total_again length_again octets_length

  link_again : reading_datagram RawIp octets_of ≡ reading_packet octets_of
  unfolding octets_of ipv4_header udp_header big16 plain
  link_again =
      let one : nat_le 1 (length octets_of) ≡ true = le-leb 1 (length octets_of) (omega (arith, octets_length)) in
      let found : ((if nat_le 1 (length octets_of) then Ok 0 else Err Cut) >>= (λ (at : ℕ). reading_packet (drop at octets_of))) ≡ reading_packet octets_of =
      λ i. (if one i then Ok 0 else Err Cut) >>= (λ (at : ℕ). reading_packet (drop at octets_of)) in
      found

  pub plain_again : frame_content (Some RawIp) (ipv4_header sum (plain a b c d e f g h p q payload) ++ udp_header (plain a b c d e f g h p q payload) ++ payload) ≡ Ok (plain a b c d e f g h p q payload)
  unfolding octets_of
  plain_again =
      let short : nat_le (length octets_of) 65535 ≡ true = le-leb (length octets_of) 65535 (omega (arith, octets_length)) in
      let kept : frame_content (Some RawIp) octets_of ≡ reading_datagram RawIp octets_of = λ i. if short i then reading_datagram RawIp octets_of else Err TooLong in
      kept ∙ link_again ∙ packet_again ∙ ap Ok datagram_again

four : (xs : List ℕ) → length xs ≡ 4 → xs ≡ get_or xs 0 0 ∷ get_or xs 1 0 ∷ get_or xs 2 0 ∷ get_or xs 3 0 ∷ []
four xs len =
    drop-cons xs 0 0 (omega arith)
    ∙ ap (λ (t : List ℕ). get_or xs 0 0 ∷ t)
    (drop-cons xs 1 0 (omega arith)
    ∙ ap (λ (t : List ℕ). get_or xs 1 0 ∷ t) (drop-cons xs 2 0 (omega arith) ∙ ap (λ (t : List ℕ). get_or xs 2 0 ∷ t) (drop-cons xs 3 0 (omega arith) ∙ ap (λ (t : List ℕ). get_or xs 3 0 ∷ t) (drop_all 4 xs (omega arith)))))

pub content_again : (sent : Sent) → length sent.sender ≡ 4 → length sent.destination ≡ 4 → sent.sender_port < 2 ^ 16 → sent.destination_port < 2 ^ 16 → length sent.payload ≤ 2048
    → frame_content (Some RawIp) (packet sent) ≡ Ok sent
unfolding packet plain
content_again sent from to small_p small_q few =
    let x = sent.sender in
    let y = sent.destination in
    let s = plain (get_or x 0 0) (get_or x 1 0) (get_or x 2 0) (get_or x 3 0) (get_or y 0 0) (get_or y 1 0) (get_or y 2 0) (get_or y 3 0) sent.sender_port sent.destination_port sent.payload in
    let sender = sym (four x from) in
    let destination = sym (four y to) in
    let same : s ≡ sent = λ i. record { sender = sender i; sender_port = sent.sender_port; destination = destination i; destination_port = sent.destination_port; payload = sent.payload } in
    subst (λ (z : Sent). frame_content (Some RawIp) (packet z) ≡ Ok z) same
    (plain_again (get_or x 0 0) (get_or x 1 0) (get_or x 2 0) (get_or x 3 0) (get_or y 0 0) (get_or y 1 0) (get_or y 2 0) (get_or y 3 0) sent.sender_port sent.destination_port (checksum (ipv4_header 0 s)) sent.payload small_p small_q few)

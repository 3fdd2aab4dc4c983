-- The headers, from the numbers that were put.
use Rattle.std.proofs.Common.{◌≡◌, ℕ, ◌+◌, List, [], ◌∷◌, ◌++◌, length, ap, ◌∙◌}
use Rattle.sacn_capture.specs.Frames.{Sent}
use Rattle.sacn_record.specs.Packets.{big16, checksum, ipv4_header, udp_header, packet}
use Rattle.sacn_record.specs.Writing.{shorts}
use Rattle.sacn_record.proofs.Joined.{joined}

first_numbers : ℕ → ℕ → List ℕ
first_numbers total sum = shorts (0x4500 ∷ total ∷ 0 ∷ 0x4000 ∷ 0x4011 ∷ sum ∷ [])

pub ipv4_put : (old o1 o2 o3 : List ℕ) (total sum : ℕ) (sent : Sent) → total ≡ 28 + length sent.payload → o1 ≡ old ++ shorts (0x4500 ∷ total ∷ 0 ∷ 0x4000 ∷ 0x4011 ∷ sum ∷ [])
    → o2 ≡ o1 ++ sent.sender → o3 ≡ o2 ++ sent.destination → o3 ≡ old ++ ipv4_header sum sent
unfolding ipv4_header big16 first_numbers
ipv4_put old o1 o2 o3 total sum sent is e1 e2 e3 =
    let two = joined old (first_numbers total sum) sent.sender o1 o2 e1 e2 in
    let all = joined old (first_numbers total sum ++ sent.sender) sent.destination o2 o3 two e3 in
    all ∙ ap (λ (n : ℕ). old ++ (first_numbers n sum ++ sent.sender ++ sent.destination)) is

pub udp_put : (old new : List ℕ) (len : ℕ) (sent : Sent) → len ≡ 8 + length sent.payload → new ≡ old ++ shorts (sent.sender_port ∷ sent.destination_port ∷ len ∷ 0 ∷ []) → new ≡ old ++ udp_header sent
unfolding udp_header big16
udp_put old new len sent is e = e ∙ ap (λ (n : ℕ). old ++ shorts (sent.sender_port ∷ sent.destination_port ∷ n ∷ 0 ∷ [])) is

pub packet_put : (old o1 o2 o3 : List ℕ) (sum : ℕ) (sent : Sent) → sum ≡ checksum (ipv4_header 0 sent) → o1 ≡ old ++ ipv4_header sum sent → o2 ≡ o1 ++ udp_header sent → o3 ≡ o2 ++ sent.payload
    → o3 ≡ old ++ packet sent
unfolding packet
packet_put old o1 o2 o3 sum sent is e1 e2 e3 =
    let two = joined old (ipv4_header sum sent) (udp_header sent) o1 o2 e1 e2 in
    let all = joined old (ipv4_header sum sent ++ udp_header sent) sent.payload o2 o3 two e3 in
    all ∙ ap (λ (s : ℕ). old ++ (ipv4_header s sent ++ udp_header sent ++ sent.payload)) is

-- The octets of a packet in the datagram's buffer.
use Rattle.std.proofs.Common.{◌≡◌, ℕ, ◌≤◌, Bool, false, List, [], ◌∷◌, ◌++◌, length, take, drop, refl, suc, zero, append-nil, arith, ap, ◌∙◌}
use Rattle.sacn_packets.specs.Data.{Data}
use Rattle.sacn_packets.specs.FramingText.{nothing}
use Rattle.sacn_packets.specs.PacketText.{data_text}
use Rattle.sacn_console.specs.Core.{packet_text, packet_with}
use Rattle.sacn_console.specs.Lines.{is_ending}
use Rattle.sacn_console.specs.declared.sender.Sender.{Sender}
use Rattle.sacn_console.specs.declared.line.UniverseLine.{UniverseLine}

none_left : (xs : List ℕ) (n : ℕ) → length xs ≤ n → drop n xs ≡ []
none_left [] zero le = refl
none_left [] (suc n) le = refl
none_left (x ∷ xs) zero le = absurd (omega arith)
none_left (x ∷ xs) (suc n) le = none_left xs n (omega arith)

joined : (a p t old rest : List ℕ) (n : ℕ) → a ≡ p → p ≡ t ++ drop n old → length old ≤ n → a ++ rest ≡ t ++ rest
joined a p t old rest n e f le =
    let g : p ≡ t = f ∙ (rw (none_left old n le) (append-nil t)) in
    ap (λ (xs : List ℕ). xs ++ rest) (e ∙ g)

abbrev pub said : Sender → UniverseLine → List ℕ → Bool → Data
said sender l slots ending = record {
  cid = sender.cid;
  name = sender.name;
  priority = sender.priority;
  number = l.sequence_number;
  preview = false;
  terminated = ending;
  universe = l.universe;
  start = 0;
  slots = slots;
}

pub filled_packet : (sender : Sender) (l : UniverseLine) (slots : List ℕ) (ending : Bool) (rest a p old : List ℕ) (n : ℕ) → ending ≡ is_ending l.state → a ≡ p → p ≡ data_text (said sender l slots ending) nothing ++ drop n old → length old ≤ n → a ++ rest ≡ packet_text (packet_with sender l slots) ++ rest
unfolding packet_text packet_with
filled_packet sender l slots ending rest a p old n b e f le =
    joined a p (data_text (said sender l slots (is_ending l.state)) nothing) old rest n e (rw b at f) le

taken_len : (n : ℕ) (xs : List ℕ) → length (take n xs) ≤ n
taken_len zero xs = omega arith
taken_len (suc n) [] = omega arith
taken_len (suc n) (x ∷ xs) = omega (arith, taken_len n xs)

-- the front of a list is no longer than its length says
pub front_len : (n : ℕ) (front xs : List ℕ) → front ≡ take n xs → length front ≤ n
front_len n front xs e = rw e (taken_len n xs)

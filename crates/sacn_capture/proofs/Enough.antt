-- No piece is empty, so there are no more pieces than octets.
use Rattle.std.proofs.Common.{◌≡◌, ℕ, ◌+◌, ◌≤◌, ◌-◌, zero, suc, Bool, true, false, List, [], ◌∷◌, ◌++◌, length, take, drop, Option, None, Some, Result, Ok, Err, refl, sym, ap, length-drop, arith}
use Rattle.std.specs.Prelude.{◌==◌, IfOk, nat_le, if◌then◌else◌}
use Rattle.sacn_capture.specs.declared.faults.FaultKind.{FaultKind}
use Rattle.sacn_capture.specs.declared.faults.FaultKind.TheVariants.{CutShort}
use Rattle.sacn_capture.specs.declared.octets.ByteOrder.{ByteOrder}
use Rattle.sacn_capture.specs.declared.octets.ByteOrder.TheVariants.{Big}
use Rattle.sacn_capture.specs.declared.pcap.PcapHeader.{PcapHeader}
use Rattle.sacn_capture.specs.declared.links.LinkType.{LinkType}
use Rattle.sacn_capture.specs.declared.headers.Format.{Format}
use Rattle.sacn_capture.specs.declared.headers.Format.TheVariants.{Pcap, Pcapng}
use Rattle.sacn_capture.specs.declared.pcapng.BlockKind.{BlockKind}
use Rattle.sacn_capture.specs.declared.pcapng.BlockKind.TheVariants.{Interface, Simple, Enhanced, Other}
use Rattle.sacn_capture.specs.Check.{◌>>=◌}
use Rattle.sacn_capture.specs.Octets.{number32}
use Rattle.sacn_capture.specs.Files.{Place, Reading, octets, says, gives, ◌▷◌}
use Rattle.sacn_capture.specs.Clocks.{milliseconds, shifted}
use Rattle.sacn_capture.specs.declared.pcapng.EnhancedHead.{EnhancedHead}
use Rattle.sacn_capture.specs.Pcapng.{Taken, section_type, reading_block, reading_enhanced, reading_simple}
use Rattle.sacn_capture.specs.Recordings.{State, Piece, Told, interface_at, framed, piece, piece_by, pieces, rest_of, told_by, with_frame, unless_ended, ends, record_behind, other_behind, block_piece, section_piece, section_behind, skipped, closed, interface_piece, packet_behind, enhanced_piece, enhanced_behind, simple_piece, simple_behind}
use Rattle.std.proofs.lemmas.Bool.{leb-true}

weaker : {A F : Type 0} (P Q : A → Type 0) (z : Result A F) → ((a : A) → P a → Q a) → IfOk z P → IfOk z Q
weaker P Q (Ok a) f h = f a h
weaker P Q (Err k) f h = tt

-- a reading takes at least so many octets
abbrev Takes : {A : Type 0} → ℕ → Reading A → Type 0
Takes n reading = (place : Place) → IfOk (reading place) (λ r. n + length r.1.left ≤ length place.left)

some_octets : (n at : ℕ) (xs : List ℕ) (b : Bool) → nat_le n (length xs) ≡ b → IfOk {T = List ℕ × Place} {E = FaultKind} (if b then Ok (take n xs, record { at = at; left = drop n xs }) else Err CutShort) (λ r. n + length r.1.left ≤ length xs)
some_octets n at xs true e = omega (arith, length-drop n xs, leb-true n (length xs) e)
some_octets n at xs false e = tt

octets_take : (n : ℕ) → Takes n (octets n)
octets_take n place = some_octets n _ place.left (nat_le n (length place.left)) refl

less : {A : Type 0} (n : ℕ) (p : Reading A) → Takes n p → Takes 0 p
less n p h place = weaker _ _ (p place) (λ r t. omega (arith, t)) (h place)

module _ {A B : Type 0} (n : ℕ) (p : Reading A) (q : A → Reading B) (rest : (x : A) → Takes 0 (q x)) where
  behind : (whole : ℕ) (z : Result (A × Place) FaultKind) → IfOk z (λ r. n + length r.1.left ≤ whole) → IfOk (z >>= (λ (r : A × Place). q r.0 r.1)) (λ r. n + length r.1.left ≤ whole)
  behind whole (Ok r) h = weaker _ _ (q r.0 r.1) (λ s t. omega (arith, t, h)) (rest r.0 r.1)
  behind whole (Err k) h = tt

  then_take : Takes n p → Takes n (p ▷ q)
  then_take first place = behind (length place.left) (p place) (first place)

says_take : {A : Type 0} (v : Result A FaultKind) → Takes 0 (says v)
says_take (Ok x) place = omega arith
says_take (Err k) place = tt

gives_take : {A : Type 0} (v : A) → Takes 0 (gives v)
gives_take v place = omega arith

closed_take : (order : ByteOrder) (size : ℕ) → Takes 0 (closed order size)
closed_take order size = then_take 0 (octets 4) _ (λ again. says_take _) (less 4 (octets 4) (octets_take 4))

skipped_take : (n : ℕ) (order : ByteOrder) (size : ℕ) → Takes 0 (skipped n order size)
skipped_take n order size = then_take 0 (octets n) _ (λ _. closed_take order size) (less n (octets n) (octets_take n))

section_take : (head : List ℕ) → Takes 0 (section_behind head)
section_take head =
    then_take 0 (octets 8) _ (λ more. then_take 0 (says _) _ (λ s. then_take 0 (skipped _ s.order s.length) _ (λ _. gives_take s.order) (skipped_take _ s.order s.length)) (says_take _)) (less 8 (octets 8) (octets_take 8))

section_piece_take : (state : State) (head : List ℕ) → Takes 0 (section_piece state head)
section_piece_take state head =
    then_take 0 (section_behind head) _ (λ order. gives_take {A = Piece} (record { frame = None; next = record state { format = Pcapng order; interfaces = [] } })) (section_take head)

interface_take : (order : ByteOrder) (size : ℕ) (state : State) → Takes 0 (interface_piece order size state)
interface_take order size state =
    then_take 0 (says _) _
    (λ n. then_take 0 (octets n) _
    (λ body. then_take 0 (says _) _ (λ interface. then_take 0 (closed order size) _ (λ _. gives_take {A = Piece} (record { frame = None; next = record state { interfaces = state.interfaces ++ interface ∷ [] } })) (closed_take order size)) (says_take _))
    (less n (octets n) (octets_take n)))
    (says_take _)

packet_take : (link : Option LinkType) (captured : ℕ) (moment : Option ℕ) (rest : ℕ) (order : ByteOrder) (size : ℕ) (state : State) → Takes 0 (packet_behind link captured moment rest order size state)
packet_take link captured moment rest order size state =
    then_take 0 (octets captured) _ (λ frame. then_take 0 (skipped rest order size) _ (λ _. gives_take {A = Piece} (framed link moment state frame)) (skipped_take rest order size)) (less captured (octets captured) (octets_take captured))

enhanced_behind_take : (order : ByteOrder) (size : ℕ) (state : State) (head : EnhancedHead) → Takes 0 (enhanced_behind order size state head)
enhanced_behind_take order size state head =
    then_take {A = Taken} {B = Piece} 0 (says (interface_at state head.interface))
    (λ interface. packet_behind interface.link head.captured (Some (shifted interface.shift (milliseconds head.ticks interface.units))) (size - 32 - head.captured) order size state)
    (λ interface. packet_take interface.link head.captured (Some (shifted interface.shift (milliseconds head.ticks interface.units))) (size - 32 - head.captured) order size state) (says_take (interface_at state head.interface))

enhanced_take : (order : ByteOrder) (size : ℕ) (state : State) → Takes 0 (enhanced_piece order size state)
enhanced_take order size state =
    then_take {B = Piece} 0 (octets 20) _
    (λ head. then_take {A = EnhancedHead} {B = Piece} 0 (says (reading_enhanced order size head)) (λ h. enhanced_behind order size state h) (λ h. enhanced_behind_take order size state h)
    (says_take (reading_enhanced order size head)))
    (less 20 (octets 20) (octets_take 20))

simple_behind_take : (order : ByteOrder) (size : ℕ) (state : State) (interface : Taken) → Takes 0 (simple_behind order size state interface)
simple_behind_take order size state interface =
    then_take {B = Piece} 0 (octets 4) _
    (λ head. then_take {A = ℕ} {B = Piece} 0 (says (reading_simple order size interface.longest head)) (λ captured. packet_behind interface.link captured state.moment (size - 16 - captured) order size state)
    (λ captured. packet_take interface.link captured state.moment (size - 16 - captured) order size state) (says_take (reading_simple order size interface.longest head)))
    (less 4 (octets 4) (octets_take 4))

simple_take : (order : ByteOrder) (size : ℕ) (state : State) → Takes 0 (simple_piece order size state)
simple_take order size state =
    then_take {A = Taken} {B = Piece} 0 (says (interface_at state 0)) (λ interface. simple_behind order size state interface) (λ interface. simple_behind_take order size state interface)
    (says_take (interface_at state 0))

block_take : (order : ByteOrder) (size : ℕ) (state : State) (kind : BlockKind) → Takes 0 (block_piece order size state kind)
block_take order size state Interface = interface_take order size state
block_take order size state Enhanced = enhanced_take order size state
block_take order size state Simple = simple_take order size state
block_take order size state Other = then_take 0 (skipped (size - 12) order size) _ (λ _. gives_take {A = Piece} (record { frame = None; next = state })) (skipped_take (size - 12) order size)

other_take : (order : ByteOrder) (state : State) (head : List ℕ) → Takes 0 (other_behind order state head)
other_take order state head = then_take {B = Piece} 0 (says (reading_block order head)) (λ h. block_piece order h.length state h.kind) (λ h. block_take order h.length state h.kind) (says_take (reading_block order head))

either_take : {A : Type 0} (b : Bool) (p q : Reading A) → Takes 0 p → Takes 0 q → Takes 0 (if b then p else q)
either_take true p q h g = h
either_take false p q h g = g

record_take : (header : PcapHeader) (state : State) (head : List ℕ) → Takes 0 (record_behind header state head)
record_take header state head = then_take 0 (says _) _ (λ h. then_take 0 (octets h.captured) _ (λ frame. gives_take {A = Piece} (framed (Some header.link) (Some h.moment) state frame)) (less h.captured (octets h.captured) (octets_take h.captured))) (says_take _)

one : {A : Type 0} (n : ℕ) (p : Reading A) → 1 ≤ n → Takes n p → Takes 1 p
one n p le h place = weaker _ _ (p place) (λ r t. omega (arith, t, le)) (h place)

by_format : (format : Format) (state : State) → Takes 1 (piece_by format state)
by_format (Pcap header) state = one 16 (piece_by (Pcap header) state) (omega arith) (then_take 16 (octets 16) _ (λ head. record_take header state head) (octets_take 16))
by_format (Pcapng order) state =
    one 8 (piece_by (Pcapng order) state) (omega arith)
    (then_take 8 (octets 8) _ (λ head. either_take (number32 Big head 0 == section_type) (section_piece state head) (other_behind order state head) (section_piece_take state head) (other_take order state head)) (octets_take 8))

pub piece_takes : (state : State) → Takes 1 (piece state)
piece_takes state = by_format state.format state

same_behind : (at : ℕ) (z : Result (Piece × Place) FaultKind) (f g : State → Place → Told) → IfOk z (λ r. f r.0.next r.1 ≡ g r.0.next r.1) → told_by at z f ≡ told_by at z g
same_behind at (Ok r) f g h = ap (with_frame r.0.frame) h
same_behind at (Err k) f g h = refl

none_left : (left : List ℕ) (told : Told) → length left ≤ 0 → unless_ended left told ≡ ends
none_left [] told e = refl
none_left (x ∷ xs) told e = absurd (omega (arith, e))

-- as many pieces as octets are enough
pub enough : (n m : ℕ) (state : State) (place : Place) → length place.left ≤ n → length place.left ≤ m → pieces n state place ≡ pieces m state place
enough zero zero state place h g = refl
enough zero (suc m) state place h g = sym (none_left place.left _ h)
enough (suc n) zero state place h g = none_left place.left _ g
enough (suc n) (suc m) state place h g =
    ap (unless_ended place.left)
    (same_behind place.at (piece state place) (pieces n) (pieces m)
    (weaker _ _ (piece state place) (λ r t. enough n m r.0.next r.1 (omega (arith, t, h)) (omega (arith, t, g))) (piece_takes state place)))

-- what is left tells what its first piece does, and then what is left behind it
first_told : (state : State) (at : ℕ) (x : ℕ) (xs : List ℕ)
    → rest_of state (record { at = at; left = x ∷ xs }) ≡ told_by at (piece state (record { at = at; left = x ∷ xs })) rest_of
first_told state at x xs =
    same_behind at (piece state (record { at = at; left = x ∷ xs })) (pieces (length xs)) rest_of
    (weaker _ _ (piece state (record { at = at; left = x ∷ xs })) (λ r t. enough (length xs) (length r.1.left) r.0.next r.1 (omega (arith, t)) (omega arith)) (piece_takes state (record { at = at; left = x ∷ xs })))

pub told_first : (state : State) (at : ℕ) (left : List ℕ) → (left ≡ [] → ⊥) → rest_of state (record { at = at; left = left }) ≡ told_by at (piece state (record { at = at; left = left })) rest_of
told_first state at [] some = absurd (some refl)
told_first state at (x ∷ xs) some = first_told state at x xs

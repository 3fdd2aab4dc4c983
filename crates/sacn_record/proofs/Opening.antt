-- A recording, read from its first octet.
use Rattle.std.proofs.Common.{◌≡◌, ℕ, ◌+◌, ◌-◌, ◌%◌, ◌^◌, ◌<◌, ◌≤◌, Bool, true, List, [], ◌∷◌, ◌++◌, length, map, drop, None, Result, Ok, Err, refl, ap, ◌∙◌, length-append, append_assoc, arith, eq-eqb}
use Rattle.std.specs.Prelude.{◌==◌, nat_le, if◌then◌else◌}
use Rattle.std.specs.List.{flat_map}
use Rattle.std.specs.Int.{w64, to_le_bytes}
use Rattle.std.proofs.lemmas.Bool.{le-leb}
use Rattle.sacn_capture.specs.declared.faults.FaultKind.{FaultKind}
use Rattle.sacn_capture.specs.declared.faults.FaultKind.TheVariants.{NotACapture, Version, Length}
use Rattle.sacn_capture.specs.declared.octets.ByteOrder.{ByteOrder}
use Rattle.sacn_capture.specs.declared.octets.ByteOrder.TheVariants.{Little}
use Rattle.sacn_capture.specs.declared.pcapng.Section.{Section}
use Rattle.sacn_capture.specs.declared.pcapng.BlockHead.{BlockHead}
use Rattle.sacn_capture.specs.declared.pcapng.BlockKind.TheVariants.{Interface}
use Rattle.sacn_capture.specs.declared.headers.Format.{Format}
use Rattle.sacn_capture.specs.declared.headers.Format.TheVariants.{Pcapng}
use Rattle.sacn_capture.specs.Check.{checked}
use Rattle.sacn_capture.specs.Files.{Place, octets, says, gives, ◌▷◌}
use Rattle.sacn_capture.specs.Pcapng as pcapng
use Rattle.sacn_capture.specs.Pcapng.{reading_section, reading_block, reading_interface}
use Rattle.sacn_capture.specs.Recordings.{Piece, piece, pieces, told_by, rest_of, start_of, section_behind, skipped, closed, block_behind, block_piece, interface_size, described_by, interface_body as interface_behind, interface_end, opening, opening_behind, told_of, first_octets, recording}
use Rattle.sacn_record.specs.Blocks.{little16, little32, padding, block, option, end_of_options, section_body, interface_body}
use Rattle.sacn_record.specs.Recordings.{Taken, beginning, datagram_block}
use Rattle.sacn_record.specs.Laws.{AllFit, shown_of, WhatWasRecordedIsRead}
use Rattle.sacn_record.proofs.Steps.{place, up, octets_front, behind, behind_said, closed_read, skipped_read}
use Rattle.sacn_record.proofs.Numbers.{little_again}
use Rattle.sacn_record.proofs.Heads.{tail_length, tail_again}
use Rattle.sacn_record.proofs.Whole.{section_body_length}
use Rattle.sacn_record.proofs.Pieces.{during, the_interface}
use Rattle.sacn_record.proofs.Reading.{all_read, few_blocks}

-- the first eight octets of a section, the next eight, and those behind them
abbrev first_of : ℕ → List ℕ
first_of s = little32 0x0a0d0d0a ++ little32 s

abbrev second_of : List ℕ
second_of = little32 0x1a2b3c4d ++ little16 1 ++ little16 0

abbrev options_of : List ℕ → List ℕ
options_of program = to_le_bytes w64 (2 ^ 64 - 1) ++ option 4 program ++ end_of_options

section_said : (s : ℕ) → s < 2 ^ 32 → 28 ≤ s → s % 4 ≡ 0 → reading_section (first_of s ++ second_of) ≡ Ok (record { order = Little; length = s })
unfolding little32 little16
section_said s small enough fours =
    let again = little_again s small in
    let a : nat_le 28 s ≡ true = le-leb 28 s enough in
    let b : (s % 4 == 0) ≡ true = eq-eqb (s % 4) 0 fours in
    let said : ℕ → Bool → Bool → Result Section FaultKind = λ n x y. checked ((true, Version) ∷ (x, Length) ∷ (y, Length) ∷ []) (record { order = Little; length = n }) in
    let first : reading_section (first_of s ++ second_of) ≡ said s (nat_le 28 s) (s % 4 == 0) = λ i. said (again i) (nat_le 28 (again i)) (again i % 4 == 0) in
    first ∙ (λ i. said s (a i) (b i))

first_length : (s : ℕ) → length (first_of s) ≡ 8
unfolding little32
first_length s = refl

second_length : length second_of ≡ 8
unfolding little32 little16
second_length = refl

options_length : (program : List ℕ) → length (section_body program) ≡ 8 + length (options_of program)
unfolding section_body little32 little16
options_length program = omega arith

is_section : (s : ℕ) (p : Place) → opening_behind (first_of s) p ≡ (section_behind (first_of s) ▷ λ (order : ByteOrder). gives (Pcapng order)) p
unfolding little32
is_section s p = refl

section_read : (s : ℕ) (options rest : List ℕ) → s < 2 ^ 32 → 28 ≤ s → s % 4 ≡ 0 → length options ≡ s - 20 → (at : ℕ)
    → section_behind (first_of s) (place at (second_of ++ (options ++ (little32 s ++ rest)))) ≡ Ok (Little, place (up (up (up at 8) (s - 20)) 4) rest)
section_read s options rest small enough fours len at =
    let a = up at 8 in
    let b = up (up a (s - 20)) 4 in
    let left = options ++ (little32 s ++ rest) in
    let found : Section = record { order = Little; length = s } in
    let r = Ok (Little, place b rest) in
    let last =
    behind (skipped (s - 20) Little s) (λ (x : ℕ). gives Little) (place a left) (place b rest) s r (skipped_read (s - 20) s a options (little32 s) rest len (tail_length s) (tail_again s small)) refl in
    let said =
    behind_said (reading_section (first_of s ++ second_of)) (λ (x : Section). skipped (x.length - 20) x.order x.length ▷ λ (y : ℕ). gives x.order) (place a left) found r (section_said s small enough fours) last in
    behind (octets 8) (λ (more : List ℕ). says (reading_section (first_of s ++ more)) ▷ λ (x : Section). skipped (x.length - 20) x.order x.length ▷ λ (y : ℕ). gives x.order) (place at (second_of ++ left)) (place a left) second_of r
    (octets_front 8 at second_of left second_length) said

opened : (s : ℕ) (options rest : List ℕ) → s < 2 ^ 32 → 28 ≤ s → s % 4 ≡ 0 → length options ≡ s - 20
    → opening (place 0 (first_of s ++ (second_of ++ (options ++ (little32 s ++ rest))))) ≡ Ok (Pcapng Little, place (up (up (up (up 0 8) 8) (s - 20)) 4) rest)
opened s options rest small enough fours len =
    let left = second_of ++ (options ++ (little32 s ++ rest)) in
    let a = up 0 8 in
    let b = up (up (up a 8) (s - 20)) 4 in
    let r : Result (Format × Place) FaultKind = Ok (Pcapng Little, place b rest) in
    let fits : nat_le 8 (length (first_of s ++ left)) ≡ true = le-leb 8 (length (first_of s ++ left)) (omega (arith, length-append (first_of s) left, first_length s)) in
    let eight : (if nat_le 8 (length (first_of s ++ left)) then octets 8 (place 0 (first_of s ++ left)) else Err NotACapture) ≡ Ok (first_of s, place a left) =
    ap (λ (t : Bool). if t then octets 8 (place 0 (first_of s ++ left)) else Err NotACapture) fits ∙ octets_front 8 0 (first_of s) left (first_length s) in
    let ordered =
    behind (section_behind (first_of s)) (λ (order : ByteOrder). gives (Pcapng order)) (place a left) (place b rest) Little r (section_read s options rest small enough fours len a) refl in
    behind first_octets opening_behind (place 0 (first_of s ++ left)) (place a left) (first_of s) r eight (is_section s (place a left) ∙ ordered)

-- the interface, whose octets are all known
interface_read : (at : ℕ) (rest : List ℕ) → (next : ℕ) × (piece (start_of (Pcapng Little)) (place at (block 1 interface_body ++ rest)) ≡ Ok (record { frame = None; next = during None }, place next rest))
unfolding block interface_body option padding little32 little16
interface_read at rest =
    let state = start_of (Pcapng Little) in
    let head : List ℕ = little32 1 ++ little32 32 in
    let tail : List ℕ = little32 32 in
    let after : List ℕ = interface_body ++ (tail ++ rest) in
    let a = up at 8 in
    let b = up a 20 in
    let c = up b 4 in
    let r : Result (Piece × Place) FaultKind = Ok (record { frame = None; next = during None }, place c rest) in
    let found : BlockHead = record { kind = Interface; length = 32 } in
    let last =
    behind (closed Little 32) (λ (x : ℕ). gives {A = Piece} (record { frame = None; next = during None })) (place b (tail ++ rest)) (place c rest) 32 r (closed_read 32 b tail rest refl refl) refl in
    let said = behind_said (reading_interface Little interface_body) (λ (x : pcapng.Taken). interface_end Little 32 state x) (place b (tail ++ rest)) the_interface r refl last in
    let body = behind (octets 20) (λ (x : List ℕ). interface_behind Little 32 state x) (place a after) (place b (tail ++ rest)) interface_body r (octets_front 20 a interface_body (tail ++ rest) refl) said in
    let sized = behind_said (interface_size 32 0) (λ (n : ℕ). described_by n Little 32 state) (place a after) 20 r refl body in
    let of_block = behind_said (reading_block Little head) (λ (x : BlockHead). block_piece Little x.length state x.kind) (place a after) found r refl sized in
    (c, behind (octets 8) (λ (x : List ℕ). block_behind Little state x) (place at (head ++ after)) (place a after) head r (octets_front 8 at head after refl) of_block)

after_opening : (all : List Taken) (at : ℕ) → AllFit all
    → rest_of (start_of (Pcapng Little)) (place at (block 1 interface_body ++ flat_map datagram_block all)) ≡ record { frames = map shown_of all; fault = None }
unfolding block interface_body option padding little32 little16
after_opening all at fit =
    let blocks = flat_map datagram_block all in
    let most = length (drop 1 (block 1 interface_body ++ blocks)) in
    let read = interface_read at blocks in
    let enough : length all ≤ most = omega (arith, few_blocks all) in
    ap (λ (r : Result (Piece × Place) FaultKind). told_by at r (pieces most)) read.1 ∙ all_read all most read.0 None fit enough

regroup : (k s m w o e i rest : List ℕ) → ((k ++ s ++ (m ++ w ++ o ++ e) ++ s) ++ i) ++ rest ≡ (k ++ s) ++ (m ++ ((w ++ o ++ e) ++ (s ++ (i ++ rest))))
regroup k s m w o e i rest = simp append_assoc

pub what_was_recorded_is_read : WhatWasRecordedIsRead
unfolding beginning block section_body
what_was_recorded_is_read program all short fit =
    let s = length (section_body program) + 12 in
    let size = section_body_length program in
    let pad : (4 - length program % 4) % 4 < 4 = omega arith in
    let small : s < 2 ^ 32 = omega (arith, size) in
    let enough : 28 ≤ s = omega (arith, size) in
    let fours : s % 4 ≡ 0 = omega (arith, size) in
    let len : length (options_of program) ≡ s - 20 = omega (arith, options_length program) in
    let blocks = flat_map datagram_block all in
    let file = regroup (little32 0x0a0d0d0a) (little32 s) second_of (to_le_bytes w64 (2 ^ 64 - 1)) (option 4 program) end_of_options (block 1 interface_body) blocks in
    ap recording file ∙ ap told_of (opened s (options_of program) (block 1 interface_body ++ blocks) small enough fours len) ∙ after_opening all _ fit

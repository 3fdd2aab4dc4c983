-- The block of a datagram, read.
use Rattle.std.proofs.Common.{◌≡◌, ℕ, ◌-◌, Bool, false, List, [], ◌∷◌, ◌++◌, length, Option, None, Some, Result, Ok, refl, ap, ◌∙◌}
use Rattle.std.specs.Prelude.{◌==◌, if◌then◌else◌}
use Rattle.sacn_capture.specs.declared.octets.ByteOrder.TheVariants.{Big, Little}
use Rattle.sacn_capture.specs.declared.links.LinkType.TheVariants.{RawIp}
use Rattle.sacn_capture.specs.declared.pcapng.BlockHead.{BlockHead}
use Rattle.sacn_capture.specs.declared.pcapng.BlockKind.TheVariants.{Enhanced}
use Rattle.sacn_capture.specs.declared.pcapng.EnhancedHead.{EnhancedHead}
use Rattle.sacn_capture.specs.declared.headers.Format.TheVariants.{Pcapng}
use Rattle.sacn_capture.specs.Clocks.{milliseconds, shifted}
use Rattle.sacn_capture.specs.Octets.{number32}
use Rattle.sacn_capture.specs.Frames.{Sent}
use Rattle.sacn_capture.specs.Files.{octets, says, gives, ◌▷◌}
use Rattle.sacn_capture.specs.Pcapng as pcapng
use Rattle.sacn_capture.specs.Pcapng.{section_type, reading_block, reading_enhanced}
use Rattle.sacn_capture.specs.Recordings.{State, Piece, piece, block_piece, section_piece, other_behind, block_behind, enhanced_behind, packet_behind, interface_at, skipped, framed, frame_content}
use Rattle.sacn_record.proofs.Steps.{place, up, octets_front, behind, behind_said, skipped_read}

abbrev pub the_interface : pcapng.Taken
the_interface = record { link = Some RawIp; longest = 0; units = 1000000; shift = None }

abbrev pub during : Option ℕ → State
during moment = record { format = Pcapng Little; interfaces = the_interface ∷ []; moment = moment }

abbrev pub packet_found : ℕ → Sent → Piece
packet_found moment sent = record { frame = Some (record { moment = Some moment; content = Ok sent }); next = during (Some moment) }

module _ (at s n t : ℕ) (m : Option ℕ) (head h p pad tail rest : List ℕ) (sent : Sent) where
  frame_read : length p ≡ n → length pad ≡ s - 32 - n → length tail ≡ 4 → number32 Little tail 0 ≡ s → frame_content (Some RawIp) p ≡ Ok sent
      → packet_behind (Some RawIp) n (Some (milliseconds t 1000000)) (s - 32 - n) Little s (during m) (place (up (up at 8) 20) (p ++ (pad ++ (tail ++ rest))))
      ≡ Ok (packet_found (milliseconds t 1000000) sent, place (up (up (up (up (up at 8) 20) n) (s - 32 - n)) 4) rest)
  frame_read lp lpad lt et content =
      let ms = milliseconds t 1000000 in
      let a = up (up at 8) 20 in
      let done = place (up (up (up a n) (s - 32 - n)) 4) rest in
      behind (octets n) (λ (frame : List ℕ). skipped (s - 32 - n) Little s ▷ λ (x : ℕ). gives (framed (Some RawIp) (Some ms) (during m) frame)) (place a (p ++ (pad ++ (tail ++ rest)))) (place (up a n) (pad ++ (tail ++ rest))) p (Ok (packet_found ms sent, done))
      (octets_front n a p (pad ++ (tail ++ rest)) lp)
      (behind (skipped (s - 32 - n) Little s) (λ (x : ℕ). gives (framed (Some RawIp) (Some ms) (during m) p)) (place (up a n) (pad ++ (tail ++ rest))) done s (Ok (packet_found ms sent, done))
      (skipped_read (s - 32 - n) s (up a n) pad tail rest lpad lt et)
      (ap (λ (c : Result Sent _). Ok (record { frame = Some (record { moment = Some ms; content = c }); next = during (Some ms) }, done)) content))

  pub piece_read : length head ≡ 8 → (number32 Big head 0 == section_type) ≡ false → reading_block Little head ≡ Ok (record { kind = Enhanced; length = s })
      → length h ≡ 20 → reading_enhanced Little s h ≡ Ok (record { interface = 0; ticks = t; captured = n })
      → length p ≡ n → length pad ≡ s - 32 - n → length tail ≡ 4 → number32 Little tail 0 ≡ s → frame_content (Some RawIp) p ≡ Ok sent
      → piece (during m) (place at (head ++ (h ++ (p ++ (pad ++ (tail ++ rest)))))) ≡ Ok (packet_found (milliseconds t 1000000) sent, place (up (up (up (up (up at 8) 20) n) (s - 32 - n)) 4) rest)
  piece_read lh other eb lb eh lp lpad lt et content =
      let ms = milliseconds t 1000000 in
      let a = up at 8 in
      let after = p ++ (pad ++ (tail ++ rest)) in
      let r = Ok (packet_found ms sent, place (up (up (up (up a 20) n) (s - 32 - n)) 4) rest) in
      let found : BlockHead = record { kind = Enhanced; length = s } in
      let enhanced : EnhancedHead = record { interface = 0; ticks = t; captured = n } in
      let of_interface =
      behind_said (interface_at (during m) 0) (λ (i : pcapng.Taken). packet_behind i.link n (Some (shifted i.shift (milliseconds t i.units))) (s - 32 - n) Little s (during m)) (place (up a 20) after) the_interface r refl (frame_read lp lpad lt et content) in
      let of_head = behind_said (reading_enhanced Little s h) (λ (e : EnhancedHead). enhanced_behind Little s (during m) e) (place (up a 20) after) enhanced r eh of_interface in
      let of_body =
      behind (octets 20) (λ (x : List ℕ). says (reading_enhanced Little s x) ▷ λ (e : EnhancedHead). enhanced_behind Little s (during m) e) (place a (h ++ after)) (place (up a 20) after) h r (octets_front 20 a h after lb) of_head in
      let of_block = behind_said (reading_block Little head) (λ (b : BlockHead). block_piece Little b.length (during m) b.kind) (place a (h ++ after)) found r eb of_body in
      let chosen : block_behind Little (during m) head (place a (h ++ after)) ≡ r =
      ap (λ (b : Bool). (if b then section_piece (during m) head else other_behind Little (during m) head) (place a (h ++ after))) other ∙ of_block in
      behind (octets 8) (λ (x : List ℕ). block_behind Little (during m) x) (place at (head ++ (h ++ after))) (place a (h ++ after)) head r (octets_front 8 at head (h ++ after) lh) chosen

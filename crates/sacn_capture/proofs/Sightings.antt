-- What was seen in a part of some octets, seen among all of them.
use Rattle.std.proofs.Common.{◌≡◌, ℕ, ◌+◌, ◌-◌, ◌≤◌, List, length, take, drop, slice_range, IfOk, Result, Ok, Err, refl, sym, ap, subst, ◌∙◌, length-take, arith}
use Rattle.std.proofs.lemmas.List.{drop-drop, drop-take, length-drop, take-take, take_all}
use Rattle.sacn_capture.specs.declared.frame.Sighting.{Sighting}
use Rattle.sacn_capture.specs.declared.links.LinkType.{LinkType}
use Rattle.sacn_capture.specs.declared.links.Passed.{Passed}
use Rattle.sacn_capture.specs.Check.{map_ok, ◌>>=◌}
use Rattle.sacn_capture.specs.Frames.{IsWithin, reading_datagram, reading_packet, seen_among}
use Rattle.sacn_capture.specs.Links.{place_of}

range_behind : (octets : List ℕ) (place b e : ℕ) → slice_range octets (b + place) (e + place) ≡ slice_range (drop place octets) b e
range_behind octets place b e =
    let count : (e + place) - (b + place) ≡ e - b = omega arith in
    let from : b + place ≡ place + b = omega arith in
    ap (λ n. take n (drop (b + place) octets)) count ∙ ap (λ n. take (e - b) (drop n octets)) from ∙ ap (take (e - b)) (sym (drop-drop b place octets))

range_in_front : (octets : List ℕ) (count b e : ℕ) → b ≤ e → e ≤ count → slice_range (take count octets) b e ≡ slice_range octets b e
range_in_front octets count b e order inside =
    let whole : count ≡ b + (count - b) = omega arith in
    ap (λ n. take (e - b) (drop b (take n octets))) whole ∙ ap (take (e - b)) (drop-take b (count - b) octets) ∙ take-take (e - b) (count - b) (drop b octets) (omega arith)

to_the_end : (octets : List ℕ) (place : ℕ) → slice_range octets place (length octets) ≡ drop place octets
to_the_end octets place = take_all (length octets - place) (drop place octets) (omega (arith, length-drop place octets))

-- a look at the packet that begins at a place
pub looked_behind : (link : LinkType) (frame : List ℕ) (place : ℕ) (s : Sighting) → Ok place ≡ place_of link frame
    → Ok (seen_among (slice_range frame place (length frame)) s) ≡ reading_packet (slice_range frame place (length frame))
    → Ok (seen_among frame (record s { begin = s.begin + place; end = s.end + place })) ≡ reading_datagram link frame
looked_behind link frame place s at seen =
    let there : Ok (seen_among (drop place frame) s) ≡ reading_packet (drop place frame) = subst (λ (packet : List ℕ). Ok (seen_among packet s) ≡ reading_packet packet) (to_the_end frame place) seen in
    ap (λ (payload : List ℕ). Ok (record (seen_among frame s) { payload = payload })) (range_behind frame place s.begin s.end) ∙ there
    ∙ ap (λ (found : Result ℕ Passed). found >>= (λ (p : ℕ). reading_packet (drop p frame))) at

-- a look at the front
pub looked_in_front : (octets : List ℕ) (count : ℕ) (looked : Result Sighting Passed) → IfOk looked (IsWithin (length (take count octets))) → map_ok (seen_among octets) looked ≡ map_ok (seen_among (take count octets)) looked
looked_in_front octets count (Ok s) h =
    ap (λ (payload : List ℕ). Ok (record (seen_among octets s) { payload = payload })) (sym (range_in_front octets count s.begin s.end h.0 (omega (arith, h.1, length-take count octets))))
looked_in_front octets count (Err passed) h = refl

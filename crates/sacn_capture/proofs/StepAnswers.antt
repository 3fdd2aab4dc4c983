-- What a step gives of what is to come, and what calls over steps give.
use Rattle.std.proofs.Common.{◌≡◌, ℕ, Bool, true, false, List, [], Option, None, Some, Result, Ok, Err, inl, inr, refl, sym, ap, subst, ◌∙◌}
use Rattle.std.specs.Prelude.{◌⊎◌, T, not}
use Rattle.std.specs.Io.KnownBytes.{Consumes, Keeps}
use Rattle.sacn_capture.specs.declared.faults.FaultKind.{FaultKind}
use Rattle.sacn_capture.specs.declared.faults.CaptureFault.{CaptureFault}
use Rattle.sacn_capture.specs.declared.buffer.Frame.{Frame}
use Rattle.sacn_capture.specs.declared.pcap.PcapHeader.{PcapHeader}
use Rattle.sacn_capture.specs.declared.pieces.Pieces.{Pieces}
use Rattle.sacn_capture.specs.declared.stream.Step.TheVariants.{Ended, Found, Nothing}
use Rattle.sacn_capture.specs.Files.{Place, Does, IsOutside, place_at}
use Rattle.sacn_capture.specs.Inputs.{TellsEnd}
use Rattle.sacn_capture.specs.Recordings.{State, Piece, Shown, Told, piece, faulted, rest_of, told_by}
use Rattle.sacn_capture.specs.Placement.{content_in}
use Rattle.sacn_capture.specs.declared.stream.Capture.{Capture}
use Rattle.sacn_capture.specs.Streams.{Gives, ReadsRecord, Stays, Steps, file_place, frame_shown, state_of, to_come, to_come_by}
use Rattle.sacn_capture.proofs.Enough.{told_first}

pub false_true : false ≡ true → ⊥
false_true e = subst (λ (b : Bool). T (not b)) e tt

consumes_kept : (a b c : Option (List ℕ)) (bs : List ℕ) → Keeps a b → Consumes b c bs → Consumes a c bs
consumes_kept None b c bs k h = tt
consumes_kept (Some xs) None c bs k h = absurd k
consumes_kept (Some xs) (Some ys) None bs k h = absurd h
consumes_kept (Some xs) (Some ys) (Some zs) bs k h = sym k ∙ h

pub record_kept : (header : PcapHeader) (frame : Frame) (moment : Option ℕ) (old mid new : Option (List ℕ)) (buffer : List ℕ)
    → Keeps old mid → ReadsRecord header frame moment mid new buffer → ReadsRecord header frame moment old new buffer
record_kept header frame moment old mid new buffer k r =
    record { head = r.head; between = r.between; head_read = consumes_kept old mid r.between r.head k r.head_read; frame_read = r.frame_read }

module _ {R : Type 0} (pieces : Pieces R) (s0 s1 : State) (at : ℕ) where
  -- the piece at a place that isn't the end
  told_here : (left : List ℕ) (read : Result (Piece × Place) FaultKind) → (left ≡ [] → ⊥) → piece s0 (record { at = at; left = left }) ≡ read → rest_of s0 (record { at = at; left = left }) ≡ told_by at read rest_of
  told_here left read some e = told_first s0 at left some ∙ ap (λ (z : Result (Piece × Place) FaultKind). told_by at z rest_of) e

  same_piece : (r : Result Piece FaultKind) (p1 p2 : Option Place) (place : Place) → s1 ≡ s0 → p1 ≡ Some place → Does (piece s1) p1 p2 r → Does (piece s0) (Some place) p2 r
  same_piece r p1 p2 place e f h = subst (λ (s : State). Does (piece s) (Some place) p2 r) e (subst (λ (p : Option Place). Does (piece s1) p p2 r) f h)

  pub step_found : (known : Option (List ℕ)) (p1 p2 : Option Place) (mark : ℕ) (frame : Frame) → TellsEnd (place_at at known) p1 (Ok false) → s1 ≡ s0
      → Does (piece s1) p1 p2 (Ok (record { frame = Some (frame_shown frame pieces); next = state_of pieces }))
      → Steps (Ok (Found frame)) mark pieces (to_come_by None s0 (place_at at known)) (to_come_by None (state_of pieces) p2)
  step_found None p1 p2 mark frame t e h = tt
  step_found (Some left) p1 p2 mark frame t e h =
      let did = same_piece _ p1 p2 (record { at = at; left = left }) e t.0 h in (
        rest_of (state_of pieces) did.0,
        ap (λ (p : Option Place). to_come_by None (state_of pieces) p) did.1,
        told_here left _ (λ none. false_true (t.1.1 none)) did.2,
      )

  pub step_nothing : (known : Option (List ℕ)) (p1 p2 : Option Place) (mark : ℕ) → TellsEnd (place_at at known) p1 (Ok false) → s1 ≡ s0
      → Does (piece s1) p1 p2 (Ok (record { frame = None; next = state_of pieces }))
      → Steps (Ok Nothing) mark pieces (to_come_by None s0 (place_at at known)) (to_come_by None (state_of pieces) p2)
  step_nothing None p1 p2 mark t e h = tt
  step_nothing (Some left) p1 p2 mark t e h =
      let did = same_piece _ p1 p2 (record { at = at; left = left }) e t.0 h in
      ap (λ (p : Option Place). to_come_by None (state_of pieces) p) did.1 ∙ ap Some (sym (told_here left _ (λ none. false_true (t.1.1 none)) did.2))

  wrong_here : (left : List ℕ) (kind : FaultKind) → (left ≡ [] → ⊥) → IsOutside kind ⊎ (piece s0 (record { at = at; left = left }) ≡ Err kind)
      → IsOutside kind ⊎ (rest_of s0 (record { at = at; left = left }) ≡ faulted (record { at = at; kind = kind }))
  wrong_here left kind some (inl out) = inl out
  wrong_here left kind some (inr e) = inr (told_here left _ some e)

  pub step_failed : (known : Option (List ℕ)) (p1 p2 : Option Place) (kind : FaultKind) (after : Option Told) → TellsEnd (place_at at known) p1 (Ok false) → s1 ≡ s0
      → Does (piece s1) p1 p2 (Err kind) → Steps (Err kind) at pieces (to_come_by None s0 (place_at at known)) after
  step_failed None p1 p2 kind after t e h = tt
  step_failed (Some left) p1 p2 kind after t e h = wrong_here left kind (λ none. false_true (t.1.1 none)) (same_piece _ p1 p2 (record { at = at; left = left }) e t.0 h)

module _ {R : Type 0} (pieces : Pieces R) where
  pub gives_end : (all mid after : Option Told) (mark : ℕ) → Stays all mid → Steps (Ok Ended) mark pieces mid after → Gives (Ok None) all after
  gives_end None mid after mark s h = tt
  gives_end (Some told) mid after mark s h = subst (λ (o : Option Told). Steps (Ok Ended) mark pieces o after) s h

  pub gives_found : (all mid after : Option Told) (mark : ℕ) (frame : Frame) → Stays all mid → Steps (Ok (Found frame)) mark pieces mid after → Gives (Ok (Some (frame_shown frame pieces))) all after
  gives_found None mid after mark frame s h = tt
  gives_found (Some told) mid after mark frame s h = subst (λ (o : Option Told). Steps (Ok (Found frame)) mark pieces o after) s h

  pub stays_on : (all mid after : Option Told) (mark : ℕ) → Stays all mid → Steps (Ok Nothing) mark pieces mid after → Stays all after
  stays_on None mid after mark s h = tt
  stays_on (Some told) mid after mark s h = subst (λ (o : Option Told). Steps (Ok Nothing) mark pieces o after) s h

  pub gives_fault : (all mid step after : Option Told) (mark : ℕ) (kind : FaultKind) → Stays all mid → Steps (Err kind) mark pieces mid step
      → after ≡ Some (faulted (record { at = mark; kind = kind })) → Gives (Err (record { at = mark; kind = kind })) all after
  gives_fault None mid step after mark kind s h e = tt
  gives_fault (Some told) mid step after mark kind s h e = (e, subst (λ (o : Option Told). Steps (Err kind) mark pieces o step) s h)

pub gives_outside : (all after : Option Told) (fault : CaptureFault) → IsOutside fault.kind → after ≡ Some (faulted fault) → Gives (Err fault) all after
gives_outside None after fault out e = tt
gives_outside (Some told) after fault out e = (e, inl out)

pub stays : (all : Option Told) → Stays all all
stays None = tt
stays (Some told) = refl

pub shown_is : {R : Type 0} (pieces : Pieces R) (frame : Frame) (shown : Shown) → pieces.moment ≡ shown.moment → content_in frame pieces.buffer.octets.items ≡ shown.content → frame_shown frame pieces ≡ shown
shown_is pieces frame shown m e = λ i. record { moment = m i; content = e i }

-- what is to come goes by the pieces and the fault alone
pub same_to_come : {R : Type 0} (remaining : R → Option (List ℕ)) (a b : Capture R) → a.pieces ≡ b.pieces → a.stopped ≡ b.stopped → to_come remaining a ≡ to_come remaining b
same_to_come remaining a b p s = λ i. to_come_by (s i) (state_of (p i)) (file_place remaining (p i))

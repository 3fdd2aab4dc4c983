-- What a writer has, from what a sink over it tells.
use Rattle.std.proofs.Common.{◌≡◌, ◌++◌, ◌∙◌, ap, sym, refl, Bool, true, false, ℕ, List, [], take, Option, Some, None, Result, Ok, Err, IsSome, OnOk, IfErr, inl, inr}
use Rattle.std.specs.Io.KnownBytes.{Appends}
use Rattle.sacn_edge.specs.Additions.{Adds}
use Rattle.sacn_text.specs.Decoding as decoding
use Rattle.sacn_text.specs.Decoding.{Decoded}
use Rattle.sacn_text.specs.Simulating as simulating
use Rattle.sacn_text.specs.Simulating.{Simulated, Ends, Breaks, BreaksOff}
use Rattle.sacn_text.specs.Printing.{Has}
use Rattle.sacn_text.specs.declared.fault.DecodeFault.{DecodeFault}
use Rattle.sacn_text.specs.declared.fault.DecodeFault.TheVariants.{OutOfMemory, Refused, WriteFailed}
use Rattle.sacn_text.specs.declared.fault.SimFault.{SimFault}
use Rattle.sacn_text.specs.declared.fault.SimFault.TheVariants as sim

abbrev known : Option (List ℕ) → List ℕ
known None = []
known (Some xs) = xs

appended : (a b : Option (List ℕ)) (more : List ℕ) → IsSome b → ((ys : List ℕ) → b ≡ Some ys → (xs : List ℕ) × (a ≡ Some xs) × (ys ≡ xs ++ more)) → Appends a b more
appended None b more some told = tt
appended (Some xs) None more some told = let bad : false ≡ true = some in cc
appended (Some xs) (Some ys) more some told =
    let t = told ys refl in
    t.2 ∙ ap (λ l. l ++ more) (sym (ap known t.1))

-- what a sink tells over the writer below: what that tells, where it always does
abbrev pub Told : {W M : Type 0} → (W → Option (List ℕ)) → (M → W) → M → List ℕ → Type 0
Told {W} contents below m xs = ((w : W) → IsSome (contents w)) × (contents (below m) ≡ Some xs)

-- what a sink adds to what it tells, the writer below has
pub has : {W M : Type 0} (contents : W → Option (List ℕ)) (below : M → W) (before after : M) (first : W) → below before ≡ first → (more : List ℕ) →
    Adds (Told contents below before) (Told contents below after) more → Has contents first (below after) more
has contents below before after first is more adds all =
    appended (contents first) (contents (below after)) more (all (below after))
    (λ ys told. let t = adds ys (all, told) in (t.0, sym (ap contents is) ∙ t.1.1, t.2))

module _ {A B : List ℕ → Type 0} (more : (xs : List ℕ) → A xs → B xs) where
  decoding_stops : (fault : DecodeFault) (failed : Bool) (d : Decoded) → decoding.Stops fault failed A d → decoding.Stops fault failed B d
  decoding_stops OutOfMemory failed d s = (s.0, (s.1.0, more (take s.1.0 d.text) s.1.1))
  decoding_stops (Refused i fault) failed d s = (s.0, s.1, more d.text s.2)
  decoding_stops WriteFailed failed d s = (s.0, (s.1.0, s.1.1, more (take s.1.0 d.text) s.1.2))

  pub decodes : {T : Type 0} (r : Result T DecodeFault) (failed : Bool) (d : Decoded) → IfErr r (λ fault. decoding.Stops fault failed A d) → IfErr r (λ fault. decoding.Stops fault failed B d)
  decodes (Ok x) failed d s = tt
  decodes (Err fault) failed d s = decoding_stops fault failed d s

  breaks : (fault : SimFault) (failed : Bool) (s : Simulated) → Breaks fault failed A s → Breaks fault failed B s
  breaks sim.OutOfMemory failed s b = (b.0, (b.1.0, more (take b.1.0 s.text) b.1.1))
  breaks (sim.Event i fault) failed s b = (b.0, b.1, more s.text b.2)
  breaks sim.WriteFailed failed s b = (b.0, (b.1.0, b.1.1, more (take b.1.0 s.text) b.1.2))
  breaks (sim.World fault) failed s b = absurd b
  breaks (sim.Schedule fault) failed s b = absurd b

  breaks_off : (fault : SimFault) (failed : Bool) (world schedule : List ℕ) → BreaksOff fault failed A world schedule → BreaksOff fault failed B world schedule
  breaks_off fault failed world schedule b = (b.0, b.1, b.2, breaks fault failed (simulating.simulated (simulating.world_at_start b.0) 0 b.1) b.3)

  simulating_stops : (fault : SimFault) (failed : Bool) (world schedule : List ℕ) → simulating.Stops fault failed A world schedule → simulating.Stops fault failed B world schedule
  simulating_stops (sim.World fault) failed world schedule s = (s.0, s.1, more [] s.2)
  simulating_stops (sim.Schedule fault) failed world schedule s = (s.0, (s.1.0, s.1.1, s.1.2, more [] s.1.3))
  simulating_stops sim.OutOfMemory failed world schedule (inl s) = inl (s.0, more [] s.1)
  simulating_stops sim.OutOfMemory failed world schedule (inr s) = inr (breaks_off sim.OutOfMemory failed world schedule s)
  simulating_stops (sim.Event i fault) failed world schedule s = breaks_off (sim.Event i fault) failed world schedule s
  simulating_stops sim.WriteFailed failed world schedule s = breaks_off sim.WriteFailed failed world schedule s

  pub simulates : {T : Type 0} (r : Result T SimFault) (failed : Bool) (world schedule : List ℕ) → IfErr r (λ fault. simulating.Stops fault failed A world schedule) → IfErr r (λ fault. simulating.Stops fault failed B world schedule)
  simulates (Ok x) failed world schedule s = tt
  simulates (Err fault) failed world schedule s = simulating_stops fault failed world schedule s

  ends : (failed : Bool) (world schedule : List ℕ) → failed ≡ false → Ends failed A world schedule → Ends false B world schedule
  ends failed world schedule is e = (refl, (e.1.0, e.1.1, e.1.2, e.1.3, more (simulating.simulated (simulating.world_at_start e.1.0) 0 e.1.1).text e.1.4))

  pub simulated_all : {T F : Type 0} (r : Result T F) (failed : Bool) (world schedule : List ℕ) → OnOk r (Ends failed A world schedule) → OnOk r (Ends false B world schedule)
  simulated_all (Ok x) failed world schedule e = ends failed world schedule e.0 e
  simulated_all (Err fault) failed world schedule e = tt

  pub decoded_all : {T F : Type 0} (P Q : Type 0) (r : Result T F) (text : List ℕ) → OnOk r (P × Q × A text) → OnOk r (Q × B text)
  decoded_all P Q (Ok x) text e = (e.1, more text e.2)
  decoded_all P Q (Err fault) text e = tt

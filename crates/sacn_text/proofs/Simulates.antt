-- One event more.
use Rattle.std.proofs.Common.{subst, inl, inr, Bool, true, false, ◌⊎◌, IfErr, ◌≡◌, ℕ, ◌+◌, ◌<◌, ◌≤◌, List, [], ◌++◌, length, get_or, take, drop, Some, None, Result, Ok, Err, refl, sym, ap, ◌∙◌, append_assoc, arith}
use Rattle.std.proofs.lemmas.List.{length-append, append-nil, drop_all, take-append-le, take_at}
use Rattle.sacn_world.specs.declared.answer.Answer.{Answer}
use Rattle.sacn_schedule.specs.declared.event.Event.{Event}
use Rattle.sacn_world.specs.declared.fault.WorldFault.{WorldFault}
use Rattle.sacn_world.specs.declared.fault.NewFault.{NewFault}
use Rattle.sacn_world.specs.declared.fault.NewFault.TheVariants as new
use Rattle.sacn_schedule.specs.Cids.{Desk, HaveOwnCids, has_same_cid}
use Rattle.sacn_schedule.proofs.OwnCids.{tested}
use Rattle.sacn_world.specs.Worlds.{World, Step, step}
use Rattle.sacn_schedule.specs.WorldFile.{WorldContent}
use Rattle.sacn_text.specs.declared.fault.SimFault.{SimFault}
use Rattle.sacn_text.specs.declared.fault.SimFault.TheVariants as sim
use Rattle.sacn_text.specs.Simulating.{Simulated, simulated, simulated_by, then_line, line_of, world_at_start, Reads, Breaks, Stops}
use Rattle.sacn_text.proofs.Decodes.{drop_first, take_past}

module _ (total : Simulated) (told : List ℕ) (w : World) (es : List Event) (i : ℕ) (so_far : total ≡ then_line told (simulated w i (drop i es))) where
  -- all that was written is the text's front
  pub told_part : take (length told) total.text ≡ told
  told_part = ap (λ (l : List ℕ). take (length told) l) (ap (λ (x : Simulated). x.text) so_far) ∙ take_at told (simulated w i (drop i es)).text (length told) refl

  module _ (e : Event) (lt : i < length es) where
    here : simulated w i (drop i es) ≡ simulated_by (get_or es i e) (step w (get_or es i e)) i (λ v. simulated v (i + 1) (drop (i + 1) es))
    here = ap (simulated w i) (drop_first es i e lt)

    module _ (answer : Answer) (v : World) (is : step w (get_or es i e) ≡ Ok (record { answer = answer; world = v })) where
      abbrev line : List ℕ
      line = line_of (get_or es i e) answer

      abbrev rest : Simulated
      rest = simulated v (i + 1) (drop (i + 1) es)

      one_more : total ≡ then_line told (then_line line rest)
      one_more = so_far ∙ ap (then_line told) (here ∙ ap (λ (x : Step). simulated_by (get_or es i e) x i (λ v. simulated v (i + 1) (drop (i + 1) es))) is)

      pub event_more : total ≡ then_line (told ++ line_of (get_or es i e) answer) (simulated v (i + 1) (drop (i + 1) es))
      event_more = one_more ∙ ap (λ (l : List ℕ). let x : Simulated = record { text = l; refused = rest.refused } in x) (sym (append_assoc told line rest.text))

      text_is : total.text ≡ told ++ (line ++ rest.text)
      text_is = ap (λ (x : Simulated). x.text) one_more

      pub written_part : (n : ℕ) → n < length (line_of (get_or es i e) answer) → (length told + n < length total.text) × (take (length told + n) total.text ≡ told ++ take n (line_of (get_or es i e) answer))
      written_part n less = (
        omega (arith, ap length text_is, length-append told (line ++ rest.text), length-append line rest.text),
        ap (λ (l : List ℕ). take (length told + n) l) text_is ∙ take_past told (line ++ rest.text) n ∙ ap (λ (l : List ℕ). told ++ l) (take-append-le n line rest.text (omega arith)),
      )

    pub is_refused : (fault : WorldFault) → step w (get_or es i e) ≡ Err fault → (total.refused ≡ Some (i, fault)) × (total.text ≡ told)
    is_refused fault is =
        let all : total ≡ then_line told (record { text = []; refused = Some (i, fault) }) = so_far ∙ ap (then_line told) (here ∙ ap (λ (x : Step). simulated_by (get_or es i e) x i (λ v. simulated v (i + 1) (drop (i + 1) es))) is) in
        (ap (λ (x : Simulated). x.refused) all, ap (λ (x : Simulated). x.text) all ∙ append-nil told)

  pub all_told : length es ≤ i → (total.refused ≡ None) × (total.text ≡ told)
  all_told le =
      let all : total ≡ then_line told (record { text = []; refused = None }) = so_far ∙ ap (λ l. then_line told (simulated w i l)) (drop_all i es le) in
      (ap (λ (x : Simulated). x.refused) all, ap (λ (x : Simulated). x.text) all ∙ append-nil told)

-- what breaks a run off stops the texts' run
pub stops_of : (fault : SimFault) (failed : Bool) (Written : List ℕ → Type 0) (world schedule : List ℕ) (content : WorldContent) (events : List Event) → Reads world schedule content events → Breaks fault failed Written (simulated (world_at_start content) 0 events) → Stops fault failed Written world schedule
stops_of sim.OutOfMemory failed Written world schedule content events reads b = inr (content, events, reads, b)
stops_of (sim.Event i f) failed Written world schedule content events reads b = (content, events, reads, b)
stops_of sim.WriteFailed failed Written world schedule content events reads b = (content, events, reads, b)
stops_of (sim.World f) failed Written world schedule content events reads b = absurd b
stops_of (sim.Schedule f) failed Written world schedule content events reads b = absurd b

pub stops_at : (r : Result Unit SimFault) (failed : Bool) (Written : List ℕ → Type 0) (world schedule : List ℕ) (content : WorldContent) (events : List Event) (w : World) (es : List Event) → Reads world schedule content events →
    w ≡ world_at_start content → es ≡ events → IfErr r (λ fault. Breaks fault failed Written (simulated w 0 es)) → IfErr r (λ fault. Stops fault failed Written world schedule)
stops_at (Ok x) failed Written world schedule content events w es reads same_world same_events b = tt
stops_at (Err fault) failed Written world schedule content events w es reads same_world same_events b =
    stops_of fault failed Written world schedule content events reads (subst (λ (s : Simulated). Breaks fault failed Written s) (ap (λ (v : World). simulated v 0 es) same_world ∙ ap (simulated (world_at_start content) 0) same_events) b)

-- of a world that was read no two consoles have one CID
pub never_twins : (desks : List Desk) (fault : NewFault) → HaveOwnCids desks → fault ≡ new.SameCid → ((fault ≡ new.SameCid) × (has_same_cid desks ≡ true)) ⊎ ((fault ≡ new.OutOfMemory) × (has_same_cid desks ≡ false)) → ⊥
never_twins desks fault own is (inl twins) = let bad : true ≡ false = sym twins.1 ∙ tested desks own in cc
never_twins desks fault own is (inr memory) = let bad : new.SameCid ≡ new.OutOfMemory = sym is ∙ memory.0 in cc

-- What marks tell of runs, and what runs write.
use Rattle.std.proofs.Common.{◌≡◌, ℕ, suc, zero, ◌+◌, ◌-◌, ◌<◌, ◌≤◌, Bool, true, false, cond, ◌&&◌, nat_le, List, length, set, get_or, map, drop, refl, sym, ap, subst, ◌∙◌, arith}
use Rattle.std.proofs.lemmas.Bool.Decides.{nat_tests}
use Rattle.std.proofs.lemmas.List.{length-map, get_or-map}
use Rattle.sacn_patch.specs.declared.part.Part.{Part}
use Rattle.sacn_patch.specs.declared.flat.Mark.{Mark}
use Rattle.sacn_patch.specs.Parts.{AreOctets}
use Rattle.sacn_patch.specs.Patch.{Place}
use Rattle.sacn_patch.specs.Flat.{Row, Shows, AreInStep, IsMark, AreMarks, mark_of, with_octet, with_run}
use Rattle.sacn_patch.proofs.Fills.{written, of_universe}
use Rattle.sacn_patch.proofs.Marks.{no_entry, entry_taken, entry_skipped}

abbrev pub no_mark : Mark
no_mark = record { slot = 0; run = 0; step = 0; octet = 0 }

-- a shorter run
pub fewer : (row : Row) (step run less place slot octet : ℕ) → less ≤ run → AreInStep row step run place slot octet → AreInStep row step less place slot octet
fewer row step run zero place slot octet le are = tt
fewer row step zero (suc less) place slot octet le are = absurd (omega arith)
fewer row step (suc run) (suc less) place slot octet le are = (are.0, fewer row step run less (place + 1) (slot + 1) (octet + step) (omega (arith, le)) are.1)

first : (row : Row) (step run place slot octet : ℕ) → 1 ≤ run → AreInStep row step run place slot octet → Shows row place slot octet
first row step zero place slot octet le are = absurd (omega arith)
first row step (suc run) place slot octet le are = are.0

-- a mark before a run in step with it
pub longer : (row : Row) (step run more place slot octet step-here run-here slot-next octet-next : ℕ) → 1 ≤ run-here → AreInStep row step-here run-here place slot octet → AreInStep row step run (place + 1) slot-next octet-next → slot-next ≡ slot + 1 → octet-next ≡ octet + step → more ≤ run + 1 → AreInStep row step more place slot octet
longer row step run zero place slot octet step-here run-here slot-next octet-next some here next slot-is octet-is le = tt
longer row step run (suc more) place slot octet step-here run-here slot-next octet-next some here next slot-is octet-is le =
    (first row step-here run-here place slot octet some here, rw (slot-is, octet-is) at (fewer row step run more (place + 1) slot-next octet-next (omega (arith, le)) next))

-- ---- marks

one_mark : (row : Row) (place : ℕ) (mark : Mark) → place < length row → ((d : Place × Part) → mark ≡ mark_of (get_or row place d)) → IsMark row place mark
one_mark row place mark lt is = subst (IsMark row place) (sym (is no_entry)) (omega arith, ((lt, λ e. (ap (λ (m : Mark). m.slot) (sym (is e) ∙ is no_entry), ap (λ (m : Mark). m.octet) (sym (is e) ∙ is no_entry))), tt))

pub first_marks : (row : Row) (marks : List Mark) → marks ≡ map mark_of row → AreMarks row marks
first_marks row marks is = (ap length is ∙ length-map row mark_of, λ place d lt. one_mark row place (get_or marks place d) lt (λ e. ap (λ (ms : List Mark). get_or ms place d) is ∙ get_or-map mark_of row place e d lt))

-- the mark of a place is that of the row
pub mark_there : (row same-row : Row) (marks same-marks : List Mark) (place : ℕ) (d : Mark) → AreMarks row marks → same-row ≡ row → same-marks ≡ marks → place < length same-row → IsMark same-row place (get_or same-marks place d)
mark_there row same-row marks same-marks place d are row-is marks-is lt = rw (row-is, marks-is) (are.1 place d (rw row-is at lt))

-- ---- what runs write

-- one slot more
pub run_on : (octets : List ℕ) (step left run slot at next octet octet-next : ℕ) (slots : List ℕ) → run ≡ suc left → at ≡ slot - 1 → next ≡ slot + 1 → octet-next ≡ octet + step → 1 ≤ slot → slot ≤ 512 → with_run octets step left next octet-next (set slots at (get_or octets octet 0)) ≡ with_run octets step run slot octet slots
run_on octets step left run slot at next octet octet-next slots run-is at-is next-is octet-is least most =
    let inside : (nat_le 1 slot && nat_le slot 512) ≡ true = grind (arith, nat_tests) in
    rw (run-is, at-is, next-is, octet-is, inside) refl

pub run_same : (octets : List ℕ) (step left run slot slot-same octet octet-same : ℕ) (slots : List ℕ) → left ≡ run → slot-same ≡ slot → octet-same ≡ octet → with_run octets step left slot-same octet-same slots ≡ with_run octets step run slot octet slots
run_same octets step left run slot slot-same octet octet-same slots run-is slot-is octet-is = rw (run-is, slot-is, octet-is) refl

pub run_ended : (octets : List ℕ) (step left slot octet : ℕ) (slots : List ℕ) → left ≡ 0 → slots ≡ with_run octets step left slot octet slots
run_ended octets step left slot octet slots is = rw is refl

module _ (level : ℕ → ℕ) (octets : List ℕ) (u : ℕ) (row : Row) (are : AreOctets level octets) where
  written_by : (place slot octet : ℕ) (slots : List ℕ) (d : Place × Part) → Shows row place slot octet → (get_or row place d).0.0 ≡ u → (b : Bool) → (nat_le 1 slot && nat_le slot 512) ≡ b → written level (of_universe u (drop (place + 1) row)) (cond b (set slots (slot - 1) (get_or octets octet 0)) slots) ≡ written level (of_universe u (drop place row)) slots
  written_by place slot octet slots d shows same true is = entry_taken level octets slots u place row d slot octet shows.0 (shows.1 d) are same is
  written_by place slot octet slots d shows same false is = entry_skipped level octets slots u place row d slot octet shows.0 (shows.1 d) is

  entry_written : (place slot octet : ℕ) (slots : List ℕ) (d : Place × Part) → Shows row place slot octet → (get_or row place d).0.0 ≡ u → written level (of_universe u (drop (place + 1) row)) (with_octet octets slot octet slots) ≡ written level (of_universe u (drop place row)) slots
  entry_written place slot octet slots d shows same = written_by place slot octet slots d shows same (nat_le 1 slot && nat_le slot 512) refl

  -- what a run writes is what its entries show
  pub run_written : (step run place slot octet : ℕ) (slots : List ℕ) (d : Place × Part) → AreInStep row step run place slot octet → ((k : ℕ) → place ≤ k → k < place + run → (get_or row k d).0.0 ≡ u) → written level (of_universe u (drop (place + run) row)) (with_run octets step run slot octet slots) ≡ written level (of_universe u (drop place row)) slots
  run_written step zero place slot octet slots d in_step same = let e : place + 0 ≡ place = omega arith in ap (λ (n : ℕ). written level (of_universe u (drop n row)) slots) e
  run_written step (suc run) place slot octet slots d in_step same =
      (let e : place + suc run ≡ place + 1 + run = omega arith in ap (λ (n : ℕ). written level (of_universe u (drop n row)) (with_run octets step run (slot + 1) (octet + step) (with_octet octets slot octet slots))) e)
      ∙ run_written step run (place + 1) (slot + 1) (octet + step) (with_octet octets slot octet slots) d in_step.1 (λ k le lt. same k (omega (arith, le)) (omega (arith, lt)))
      ∙ entry_written place slot octet slots d in_step.0 (same place (omega arith) (omega arith))

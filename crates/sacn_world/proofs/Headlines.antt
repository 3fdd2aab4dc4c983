-- The headline, from the laws of its parts.
use Rattle.std.proofs.Common.{◌≡◌, ℕ, zero, suc, ◌+◌, ◌≤◌, List, [], ◌∷◌, ◌++◌, map, take, drop, Some, refl, sym, ap, subst, ◌∙◌, arith, slice_get}
use Rattle.std.proofs.lemmas.Option.{same_Some}
use Rattle.std.proofs.lemmas.List.{take-append-drop, take-take, drop-take}
use Rattle.sacn_sources.specs.Merge.{MergesTheSet}
use Rattle.sacn_node.specs.Setup.{Port}
use Rattle.sacn_schedule.specs.declared.event.Event.{Event}
use Rattle.sacn_schedule.specs.declared.event.Event.TheVariants.{Deliver}
use Rattle.sacn_world.specs.Streams.{place_of}
use Rattle.sacn_schedule.specs.Cids.{Desk}
use Rattle.sacn_world.specs.Worlds.{World, step, left_by, after, new_console, new_world, Apart}
use Rattle.sacn_world.specs.Runs.{Ran, ran}
use Rattle.sacn_world.specs.Counts.{Count, count_step, count_run, no_count}
use Rattle.sacn_world.specs.Laws.{reached}
use Rattle.sacn_world.specs.Entries.{HoldsFrom, TakesItsPlace}
use Rattle.sacn_world.specs.RunLaws.{HoldsLive}
use Rattle.sacn_world.specs.Headline.{NoneGivesWayToAnEarlierOne, ALaterOneTakesOver, TheTwentyFirstInARowIsHeld, Headline}
use Rattle.sacn_world.proofs.Reaching.{each_answered, joined, held_at_twenty_one}
use Rattle.sacn_world.proofs.Lasting.{no_way_given}
use Rattle.sacn_world.proofs.Admission.{admissible_runs}
use Rattle.sacn_world.proofs.Frames.{frames_merge, equal_slots}

take_since : {X : Type 0} (j c : ℕ) (xs : List X) → take (j + c) xs ≡ take j xs ++ take c (drop j xs)
take_since j c xs =
    sym (take-append-drop j (take (j + c) xs)) ∙ ap (λ ys. ys ++ drop j (take (j + c) xs)) (take-take j (j + c) xs (omega arith)) ∙ ap (λ ys. take j xs ++ ys) (drop-take j c xs)

-- the event after the first c
next_at : {X : Type 0} (j c : ℕ) (xs : List X) (x : X) → slice_get xs (j + c) ≡ Some x → take (c + 1) (drop j xs) ≡ take c (drop j xs) ++ x ∷ []
next_at zero zero [] x e = absurd (cc)
next_at zero zero (y ∷ ys) x e = ap (λ z. z ∷ []) (same_Some y x e)
next_at zero (suc c) [] x e = absurd (cc)
next_at zero (suc c) (y ∷ ys) x e =
    let n : suc c + 1 ≡ suc (c + 1) = omega arith in
    let m : zero + suc c ≡ suc (zero + c) = omega arith in
    let e' : slice_get ys (zero + c) ≡ Some x = sym (ap (slice_get (y ∷ ys)) m) ∙ e in
    ap (λ k. take k (y ∷ ys)) n ∙ ap (λ zs. y ∷ zs) (next_at zero c ys x e')
next_at (suc j) c [] x e = absurd (let m : suc j + c ≡ suc (j + c) = omega arith in let e' : slice_get [] (suc (j + c)) ≡ Some x = sym (ap (slice_get []) m) ∙ e in cc)
next_at (suc j) c (y ∷ ys) x e =
    let m : suc j + c ≡ suc (j + c) = omega arith in
    next_at j c ys x (sym (ap (slice_get (y ∷ ys)) m) ∙ e)

count_joined : (w : World) (i : ℕ) (s : List ℕ) (u : ℕ) (es fs : List Event) (c : Count) → count_run w i s u (es ++ fs) c ≡ count_run (after w es) i s u fs (count_run w i s u es c)
count_joined w i s u [] fs c = refl
count_joined w i s u (e ∷ es) fs c = count_joined (left_by w (step w e)) i s u es fs (count_step w i s u e c)

module _ (shows : List Desk) (setups : List (List Port)) (events : List Event) where
  world_since : (j c : ℕ) → reached shows setups (take (j + c) events) ≡ after (reached shows setups (take j events)) (take c (drop j events))
  world_since j c = ap (after (new_world shows setups)) (take_since j c events) ∙ joined (new_world shows setups) (take j events) (take c (drop j events))

  module _ (run : Ran) (is : ran (new_world shows setups) events ≡ Some run) where
    goes_forward : NoneGivesWayToAnEarlierOne shows setups events run.answers
    goes_forward j c i s u p here lasts =
        subst (λ (v : World). HoldsFrom v i s u p) (sym (world_since j c)) (no_way_given.stays (reached shows setups (take j events)) (take c (drop j events)) i s u p here lasts)

    takes_over : ALaterOneTakesOver shows setups events run.answers
    takes_over j k i m answer x d ev an takes ex ed =
        let a = each_answered (new_world shows setups) events run j (Deliver k i m) is ev in
        let same' : answer ≡ a.answer = same_Some _ _ (sym an ∙ a.is_answer) in
        no_way_given.moves (reached shows setups (take j events)) i k m x d (record { answer = a.answer; world = reached shows setups (take (j + 1) events) }) ex ed a.stepped (subst TakesItsPlace same' takes)

    catches_up : Apart (map new_console shows) → TheTwentyFirstInARowIsHeld shows setups events run.answers
    catches_up apart j c k i m n g x d ev en eg ex ed big =
        let a = each_answered (new_world shows setups) events run (j + c) (Deliver k i m) is ev in
        let w = reached shows setups (take j events) in
        let es = take c (drop j events) in
        let s = x.source in
        let u = d.universe in
        let world = world_since j c in
        let counted : count_run w i s u (take (c + 1) (drop j events)) no_count ≡ count_step (after w es) i s u (Deliver k i m) (count_run w i s u es no_count) =
        ap (λ zs. count_run w i s u zs no_count) (next_at j c events (Deliver k i m) ev) ∙ count_joined w i s u es (Deliver k i m ∷ []) no_count in
        let out = reached shows setups (take (j + c + 1) events) in
        subst (λ (v : World). HoldsLive out i s u (place_of s u k v.sent) d) (sym world)
        (held_at_twenty_one shows setups (take j events) es i k m n g x d (record { answer = a.answer; world = out }) apart
        (ap (λ (v : World). slice_get v.nodes i) (sym world) ∙ en) (ap (λ (v : World). slice_get v.sent k) (sym world) ∙ ex) ed eg (ap (λ (v : World). step v (Deliver k i m)) (sym world) ∙ a.stepped)
        (subst (λ (z : Count). 21 ≤ z.count) counted big))

pub the_headline : MergesTheSet → Headline
the_headline merges = record {
  accepted = admissible_runs;
  holds = λ shows setups events run apart is. record {
    merged = frames_merge shows setups events run apart is;
    forward = goes_forward shows setups events run is;
    later = takes_over shows setups events run is;
    equal = (equal_slots merges).one shows setups events run apart is;
    caught_up = catches_up shows setups events run is apart;
  };
}

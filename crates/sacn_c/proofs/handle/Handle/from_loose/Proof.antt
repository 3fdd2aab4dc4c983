-- `from_loose` takes the one apart and makes the other. Assumes `Logic`.
use Rattle.std.proofs.Common.{◌≡◌, List, [], ◌∷◌, ◌++◌, refl, sym, subst, Some}
use mir.Syntax.{Fn}
use mir.Val.{Val, vptr}
use base.Logic.{SProp, ent, emp, id⊢}
use base.Fml.{ftrue}
use prog.Wp.{WpFn}
use contract.Monad.{fact, fact_i}
use contract.Running.{tables}
use types.Kit.{‵, raw, ◌⊛◌, ◌$◌, ◌∵◌, !, qed, by, move, drop, keep, use0, split, suffices, fsplit, fjoin}
use types.Part.{whole, sub, agg}
use types.Run.{stop, fld, of_opd, no_more, and_then, returns, enter}
use types.ByLocal.{alloc_all, pass_all, free_all, look_at, get, get_in, sets}
use denote.RattleType.{RattleType, owns}
use denote.RawPtr.{block_ptr}
use denote.Signature.{types_at, plain}
use denote.Steps.{nothing}
use denote.Triple.Entry.{alive}
use denote.Triple.Walked.{Stays, stay_dropped, walk_of}
use Rattle.core.proofs.alloc.Calls.{Goes-blank}
use Rattle.std.proofs.raw_atomic.Walks.{proved_at, leaves}
use Rattle.std_heap.specs.contracts.Global as Heap
use Rattle.std_heap.specs.contracts.GlobalAllocator.TheImpl.{ghosts}
use Rattle.std_heap.proofs.Global.TheLaws as heap
use Rattle.sacn_c.specs.contracts.held_value.Held as Held
use Rattle.sacn_c.specs.contracts.loose.Loose as Loose
use Rattle.sacn_c.proofs.Values.{both, loose_good, loose_out}
use Rattle.sacn_c.proofs.Handles.{handle_in}
use Rattle.sacn_c.specs.contracts.handle.Handle.from_loose.{ended, clauses}
use Rattle.sacn_c.specs.contracts.handle.Handle.from_loose.Key.{name as #self}
use Rattle.sacn_c.proofs.handle.Handle.from_loose.Statement.{statement}
use Rattle.sacn_c.proofs.handle.Handle.from_loose.Code as code

pub from_loose_spec : {M : Type 1} → statement M
from_loose_spec 𝓤 𝓛 𝓜 𝓡 wired =
    let H = 𝓛.H in
    let c = clauses 𝓛 𝓜.mem 𝓡.returns in
    let fn : Fn = code.function in
    let C = (tables 𝓤 H 𝓜 𝓡 𝓡.env).C in
    let Λ = (tables 𝓤 H 𝓜 𝓡 𝓡.env).Λ in
    let Given : RattleType = Loose.the_row Held.the_row Heap.the_row ghosts in
    let hs : Stays ended.signature.params ended.kept = (stay_dropped (plain (λ _. Given)) ended.kept.0, tt) in
    proved_at 𝓛 ended hs c 𝓜 𝓡 (Goes-blank 𝓛 0 (plain (λ _. Given)) ended.kept.0 (λ κs x f. tt), tt) #self fn (code.unfolded 𝓤 H 𝓜 𝓡 wired) (λ z are.
    let Post : Val → SProp 𝓤 = (walk_of 𝓛 ended hs c).post z in
    let v = z.0.3.0 in
    let Run : List Val → SProp 𝓤 = λ ws. WpFn 𝓤 H C Λ fn ws Post in
    qed 𝓛 ((raw (alive 𝓛 ended.signature z.0.0 z.0.1) ⊛ ‵ (owns (types_at ended.signature.params z.0.0) z.0.3 z.0.4)) ∷ ‵ ftrue ∷ []) ∵ move ! (1 ∷ []) $ drop ! $ split ! $ move ! (1 ∷ []) $ fsplit ! $
    loose_out Held.the_row Heap.the_row heap.the_row_laws ghosts ! v z.0.4.0 (λ b o h e ws fits.
    let typed = loose_good Held.the_row Heap.the_row heap.the_row_laws ghosts b o h fits in
    let w : Val = both (vptr b o) h in
    suffices ! (Run (w ∷ [])) (subst (λ (us : List Val). ent 𝓤 (Run (w ∷ [])) (Run us)) (sym (λ i. ws i ++ [])) (id⊢ 𝓤 (Run (w ∷ [])))) $
    enter ! C Λ fn (w ∷ []) Post $
    alloc_all ! (λ l. pass_all ! refl (typed, tt) $
    sets ! (of_opd ! (get_in ! (fld ! refl (stop !)) (sub ! 0 refl (whole !)))) refl (tt, tt) $
    sets ! (of_opd ! (get_in ! (fld ! refl (stop !)) (sub ! 1 refl (whole !)))) refl fits $
    sets ! (agg ! (and_then ! (get ! refl) (and_then ! (get ! refl) (no_more !)))) refl typed $
    handle_in ! (block_ptr b o) h v.alloc (Some v.value) $
    use0 𝓛 (raw (fact 𝓤 (Some v.value ≡ Some v.value))) (fact_i 𝓤 (Some v.value ≡ Some v.value) (emp 𝓤) refl) $ nothing ! $ nothing ! $ fjoin ! $
    returns ! (look_at ! 0 refl) $ free_all ! refl $ keep ! (4 ∷ 0 ∷ 2 ∷ 1 ∷ []) $ by ! (leaves 𝓛 ended hs c z w (record { at = block_ptr b o; alloc = v.alloc; value = Some v.value }) (tt, tt) (tt, tt)))))

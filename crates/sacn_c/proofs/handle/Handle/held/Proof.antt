-- `held` lends the value in the block, and the handle follows it. Assumes `Logic`.
use Rattle.std.proofs.Common.{◌≡◌, ℕ, List, [], ◌∷◌, refl, sym, is_some, true, Some}
use seplogic.Ra.Ura.{Ura}
use base.Fraction.{full_share}
use mir.Syntax.{named}
use mir.Raw.{raw as bare}
use mir.Val.{Val, vptr}
use base.Logic.{ent, sep}
use base.Fml.{Fml, GName, ftrue, flft, fsep}
use contract.Monad.{fact}
use contract.Running.{tables}
use types.Logic.{Logic, sem}
use types.Kit.{‵, raw, ◌⊛◌, some, later, at_ret, ◌$◌, ◌∵◌, !, qed, done, move, keep, drop, use1, split, join, fsplit, fsplit3, fjoin, fpack, pick, await, rewrite, suffices, frame, group}
use types.Part.{whole, sub, look_in}
use types.Run.{enter, of_opd, addr, load, stop, fld, first, blocks, exec, returns}
use types.ByLocal.{alloc_all, pass_all, free_all, look_at, get, through, sets, sets_last, env}
use denote.Exit.{no}
use denote.Follow.{follows, lends_Part}
use denote.Memory.{mem, part_at, part_of, cell_at}
use denote.Param.{layout}
use denote.RawPtr.{Ptr, block_ptr, ptr_val}
use denote.RattleType.{RattleType}
use denote.Ref.{MutRef, mut_vals, mut_Tells}
use denote.Signature.{plain, mut_ref_to}
use denote.Steps.{nothing, opens, heard}
use denote.Triple.Walked.{Stays, walk_of, says, stay_dropped, Goes-spent_ref, ends_at}
use Rattle.std.proofs.VecSteps.Shapes.{after}
use Rattle.std.proofs.raw_atomic.Walks.{proved}
use Rattle.std_heap.specs.contracts.Global as Heap
use Rattle.std_heap.specs.contracts.GlobalAllocator.TheImpl.{ghosts}
use Rattle.sacn_c.specs.Ownership.{owned}
use Rattle.sacn_c.specs.contracts.held_value.Held as Held
use Rattle.sacn_c.specs.contracts.handle.Handle as Handle
use Rattle.sacn_c.proofs.Values.{both}
use Rattle.sacn_c.proofs.Handles.{handle_out, handle_in}
use Rattle.sacn_c.specs.contracts.handle.Handle.held as f
use Rattle.sacn_c.proofs.handle.Handle.held.Statement.{statement}
use Rattle.sacn_c.proofs.handle.Handle.held.Code as code

abbrev R : RattleType
R = Handle.the_row

abbrev T : RattleType
T = Held.the_row

abbrev stayed : Stays f.ended.signature.params f.ended.kept
stayed = (stay_dropped (mut_ref_to (0 ∷ []) tt (plain (λ _. R))) no, tt)

module _ (h : R.Denot) (b o : ℕ) (v : Val) (rb ro : ℕ) where
  -- the handle after the borrow
  abbrev with_value : T.Denot → R.Denot
  with_value w = record h { value = Some w }

  -- all of the handle but its value
  abbrev Rest : Fml
  Rest = fsep (fsep (ghosts.dealloc_token h.alloc (bare (layout T)) (block_ptr b o)) ((Heap.the_row).own_val h.alloc (v ∷ []))) (cell_at full_share R.mir (both (vptr b o) v ∷ []) rb ro)

  module _ {M : Type 1} {𝓤 : Ura M} (𝓛 : Logic 𝓤) where
    back : h.at ≡ block_ptr b o → (w : T.Denot) → ent 𝓤 (sep 𝓤 (sem 𝓛 ((mem T).own_at w b o)) (sem 𝓛 Rest)) (sem 𝓛 ((mem R).own_at (with_value w) rb ro))
    unfolding part_of
    back at_b w =
        qed 𝓛 (‵ (part_at T full_share w b o) ∷ ‵ Rest ∷ []) ∵ move ! (1 ∷ []) $ fsplit ! $ fsplit ! $ move ! (3 ∷ []) $ fjoin ! $
        rewrite ! 0 (λ (p : Ptr). ‵ (owned h.alloc p (Some w))) (sym at_b) refl $ handle_in ! h.at v h.alloc (Some w) $
        rewrite ! 1 (λ (p : Ptr). ‵ (cell_at full_share R.mir (both (ptr_val p) v ∷ []) rb ro)) (sym at_b) refl $ move ! (1 ∷ 0 ∷ []) $ fjoin ! $
        fpack ! (List Val) (λ us. fsep (cell_at full_share R.mir us rb ro) (R.own_val (with_value w) us)) (both (ptr_val h.at) v ∷ []) $ done !

pub held_spec : {M : Type 1} → statement M
held_spec 𝓤 𝓛 𝓜 𝓡 wired =
    let c = f.clauses 𝓛 𝓜.mem 𝓡.returns in let W = walk_of 𝓛 f.ended stayed c in let 𝓣 = tables 𝓤 𝓛.H 𝓜 𝓡 𝓡.env in
    proved 𝓛 f.ended stayed c 𝓜 𝓡 (Goes-spent_ref 𝓛 1 (0 ∷ []) tt (plain (λ _. R)), tt)
    f.Key.name code.function (code.unfolded 𝓤 𝓛.H 𝓜 𝓡 wired)
    (λ κs. (mut_vals, tt)) (λ κs. (mut_Tells (named 0) κs.0 R, tt)) (λ κs qs bounds a _ are.
    let κ = κs.0 in let q = qs.0 in let rb = a.0.ref_ptr.0 in let ro = a.0.ref_ptr.1 in let γ = a.0.ghost_name in let h = a.0.now in let vs = mut_vals a.0 in
    let y : W.Ghost = ((κs, qs, bounds, a, (vs, tt)), tt) in let Asked : Type 0 = is_some h.value ≡ true in
    qed 𝓛 (((‵ (flft κ q) ⊛ ‵ ftrue) ⊛ ‵ ((MutRef (named 0) κ R).own_val a.0 vs) ⊛ ‵ ftrue) ∷ raw (fact 𝓤 Asked) ∷ []) ∵ move ! (1 ∷ []) $ heard ! Asked (λ asked.
    split ! $ split ! $ move ! (2 ∷ []) $ split ! $ keep ! (0 ∷ 2 ∷ []) $
    enter ! _ _ _ _ _ $ alloc_all ! (λ l. pass_all ! refl ((tt, tt), tt) $
    fsplit3 ! $ drop ! $ opens ! tt R rb ro (λ us. move ! (1 ∷ []) $ handle_out ! h asked us (λ x is b o v at_b word fits.
    fsplit ! $ move ! (1 ∷ 2 ∷ []) $ fjoin ! $ move ! (1 ∷ []) $ rewrite ! 2 (λ (ws : List Val). ‵ (cell_at full_share R.mir ws rb ro)) word refl $
    -- [the value; the right to free its block, with the allocator; the handle's cell; the open borrow, in three entries]
    first ! $ blocks ! $
    sets ! (of_opd ! (load ! (through ! refl (fld ! refl (stop !))) (look_in ! 2 (sub ! 0 refl (whole !))))) refl (tt, tt) $
    sets_last ! (addr ! (through ! refl (stop !))) refl (tt, tt) $
    exec ! 𝓣.C 𝓣.Λ (env code.Mir.locals l) (after 1 (code.function).body) (at_ret _ (W.post y)) $
    sets ! (of_opd ! (get ! refl)) refl (tt, tt) $
    move ! (1 ∷ 2 ∷ []) $ fjoin ! $ move ! (2 ∷ 3 ∷ 4 ∷ 1 ∷ 0 ∷ []) $ group ! 5 $
    use1 𝓛 (later (some (λ (γ' : GName). ‵ ((MutRef (named 0) κ T).own_val (record { ref_ptr = (b, o); ghost_name = γ'; now = x }) (vptr b o ∷ [])) ⊛ ‵ (flft κ q) ⊛ ‵ (follows R T γ γ' (with_value h b o v rb ro)))))
    (lends_Part 𝓛 R T (with_value h b o v rb ro) (named 0) κ q rb ro b o γ (sem 𝓛 (Rest h b o v rb ro)) (back h b o v rb ro 𝓛 at_b) (R.coded.code h) (R.coded.code h) x) $ await ! tt $ pick ! (λ γ'. split ! $ move ! (1 ∷ []) $ split ! $ move ! (2 ∷ []) $
    -- [the reference to the value; the token; that the handle follows it]
    returns ! (look_at ! 0 refl) $ free_all ! refl $ keep ! (0 ∷ 1 ∷ 2 ∷ []) $
    suffices ! _ (ends_at 𝓛 f.ended stayed c y (vptr b o) (record { ref_ptr = (b, o); ghost_name = γ'; now = x }) (tt, tt) (tt, tt)) $
    nothing ! $ nothing ! $ fjoin ! $ join ! $ nothing ! $ move ! (2 ∷ 0 ∷ []) $ join ! $ join ! $ frame ! $ says ! is $ done !))))))

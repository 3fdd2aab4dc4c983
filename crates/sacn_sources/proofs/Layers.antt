-- The layers that a table hands to the merge, and the live sources that it loses.
use Rattle.std.proofs.Common.{◌≡◌, ℕ, ◌+◌, ◌<◌, ◌≤◌, List, [], ◌∷◌, ◌++◌, length, map, take, set, get_or, Option, Some, None, is_some, refl, sym, ap, ◌∙◌, arith, append-nil}
use Rattle.std.specs.List.{filter_map, cons_option}
use Rattle.std.proofs.lemmas.List.{take_more, take_more_set, map-append}
use Rattle.std.proofs.lemmas.List.Elements.{filter_map-append}
use Rattle.slab.specs.Slab.{get}
use Rattle.sacn_sources.specs.Merge.{Shown}
use Rattle.sacn_sources.specs.declared.slots.merge.Layer.{Layer}
use Rattle.sacn_sources.specs.Layers.{shown_of}
use Rattle.sacn_sources.specs.declared.entry.Entry.{Entry}
use Rattle.sacn_sources.specs.Rows.{layers}
use Rattle.sacn_sources.specs.Storage.{Frames, row_in, rows_in}

abbrev pub shows : Frames → Entry → Option Shown
shows fr e = (row_in fr e).shown

-- what the rows show is what the entries show
pub shown_is : (fr : Frames) (es : List Entry) → layers (rows_in fr es) ≡ filter_map (shows fr) es
shown_is fr [] = refl
shown_is fr (e ∷ es) = ap (cons_option (shows fr e)) (shown_is fr es)

module _ {E : Type 0} (h : E → Option Shown) (es : List E) (i : ℕ) (d : E) (within : i < length es) where
  more : filter_map h (take (i + 1) es) ≡ filter_map h (take i es) ++ cons_option (h (get_or es i d)) []
  more = ap (filter_map h) (take_more es i d within) ∙ filter_map-append h (take i es) (get_or es i d ∷ [])

  pub more_none : h (get_or es i d) ≡ None → filter_map h (take (i + 1) es) ≡ filter_map h (take i es)
  more_none none = more ∙ ap (λ o. filter_map h (take i es) ++ cons_option o []) none ∙ append-nil (filter_map h (take i es))

  pub more_some : (ls : List Layer) (count : ℕ) (layer : Layer) → count < length ls → map shown_of (take count ls) ≡ filter_map h (take i es) → h (get_or es i d) ≡ Some (shown_of layer) → map shown_of (take (count + 1) (set ls count layer)) ≡ filter_map h (take (i + 1) es)
  more_some ls count layer room same some =
      ap (map shown_of) (take_more_set ls count layer room) ∙ map-append shown_of (take count ls) (layer ∷ [])
      ∙ ap (λ l. l ++ shown_of layer ∷ []) same
      ∙ sym (more ∙ ap (λ o. filter_map h (take i es) ++ cons_option o []) some)

-- a live entry shows its priority and its stored levels
pub shows_live : (fr : Frames) (e : Entry) (priority : ℕ) (levels : List ℕ) → e.priority ≡ Some priority → get fr e.key ≡ Some levels → shows fr e ≡ Some (record { priority = priority; levels = levels })
shows_live fr e priority levels live stored = rw (live, stored) refl

pub shows_ended : (fr : Frames) (e : Entry) → e.priority ≡ None → shows fr e ≡ None
shows_ended fr e ended = rw ended refl

pub shown_none : (fr : Frames) (es : List Entry) → length es ≤ 0 → filter_map (shows fr) es ≡ []
shown_none fr [] none = refl
shown_none fr (e ∷ es) none = absurd (omega arith)

pub live_test : (fr : Frames) (e : Entry) (o : Option ℕ) → e.priority ≡ o → is_some (row_in fr e).shown ≡ is_some o
live_test fr e None is = rw is refl
live_test fr e (Some p) is = rw is refl

-- One delivery: the table's answer is the holding's.
use Rattle.std.proofs.Common.{◌≡◌, ℕ, Bool, true, false, not, List, length, Option, Some, None, refl, sym, ap, ◌∙◌}
use Rattle.std.proofs.lemmas.List.{length-map}
use Rattle.sacn_sources.specs.declared.limits.TheConstants.{MAX_SOURCES}
use Rattle.sacn_world.proofs.Lists.{row_of_seen, put_seen}
use Rattle.std.specs.Prelude.{option_map, nat_lt}
use Rattle.sacn_world.specs.Streams.{priority, levels, Sent, at, number_at, is_live, priority, levels, stream_of, follows, late}
use Rattle.sacn_world.specs.Holdings.{Hold, hold_of, answer_unknown, answer_known, answer_by, answer, holding_after}
use Rattle.sacn_world.specs.RowsOfPlaces.{shown_by, packet_at, seen, rows_of}
use Rattle.sacn_world.specs.Streams.{kind_by}
use Rattle.sacn_sources.specs.Rows.{row_of, put_row, take_unknown, take_known, take_by, taken, rows_after}
use Rattle.sacn_sources.specs.declared.answer.Taken.{Taken}
use Rattle.sacn_sources.specs.declared.answer.Taken.TheVariants.{UnknownIgnored, Held, EndedNow, Observed, OutOfSequence, SourcesExceeded}

unknown_same : (live room : Bool) → take_unknown (kind_by live) room ≡ answer_unknown live room
unknown_same true true = refl
unknown_same true false = refl
unknown_same false room = refl

known_same : (live late follows : Bool) → not late ≡ follows → take_known (kind_by live) late ≡ answer_known live follows
known_same live true true e = cc
known_same live true false e = refl
known_same true false true e = refl
known_same false false true e = refl
known_same live false false e = cc

module _ (u : ℕ) (sent : List Sent) where
  -- by cases on what is held of the source
  by_seen : (s : List ℕ) (q : ℕ) (room : Bool) (o : Option Hold) → ((h : Hold) → o ≡ Some h → not (late (number_at (stream_of h.source u sent) h.place) (number_at (stream_of s u sent) q)) ≡ follows (stream_of s u sent) h.place q) → take_by (packet_at s (stream_of s u sent) q) room (option_map (seen u sent) o) ≡ answer_by (stream_of s u sent) q room o
  unfolding late
  by_seen s q room None rule = unknown_same _ room
  by_seen s q room (Some h) rule = known_same _ _ _ (rule h refl)

  pub taken_seen : (s : List ℕ) (q : ℕ) (hs : List Hold) → ((h : Hold) → hold_of s hs ≡ Some h → not (late (number_at (stream_of h.source u sent) h.place) (number_at (stream_of s u sent) q)) ≡ follows (stream_of s u sent) h.place q) → taken (packet_at s (stream_of s u sent) q) (rows_of u sent hs) ≡ answer (stream_of s u sent) s q hs
  taken_seen s q hs rule =
      let x = packet_at s (stream_of s u sent) q in
      ap (λ n. take_by x (nat_lt n MAX_SOURCES) (row_of s (rows_of u sent hs))) (length-map hs (seen u sent))
      ∙ ap (λ o. take_by x (nat_lt (length hs) MAX_SOURCES) o) (row_of_seen u sent s hs)
      ∙ by_seen s q (nat_lt (length hs) MAX_SOURCES) (hold_of s hs) rule

  pub rows_seen : (a : Taken) (s : List ℕ) (q t : ℕ) (hs : List Hold) → (a ≡ Held → (is_live (at (stream_of s u sent) q)) ≡ true) → (a ≡ EndedNow → (is_live (at (stream_of s u sent) q)) ≡ false) → (a ≡ Observed → ⊥) → rows_after a (packet_at s (stream_of s u sent) q) t (rows_of u sent hs) ≡ rows_of u sent (holding_after a (record { source = s; place = q; moment = t }) hs)
  rows_seen Held s q t hs is_it ended other =
      let x = at (stream_of s u sent) q in
      ap (λ b. put_row (record { source = s; sequence_number = number_at (stream_of s u sent) q; shown = shown_by b (priority x) (levels x); moment = t }) (rows_of u sent hs)) (sym (is_it refl))
      ∙ put_seen u sent (record { source = s; place = q; moment = t }) hs
  rows_seen EndedNow s q t hs live ended other =
      let x = at (stream_of s u sent) q in
      ap (λ b. put_row (record { source = s; sequence_number = number_at (stream_of s u sent) q; shown = shown_by b (priority x) (levels x); moment = t }) (rows_of u sent hs)) (sym (ended refl))
      ∙ put_seen u sent (record { source = s; place = q; moment = t }) hs
  rows_seen Observed s q t hs live ended other = absurd (other refl)
  rows_seen OutOfSequence s q t hs live ended other = refl
  rows_seen SourcesExceeded s q t hs live ended other = refl
  rows_seen UnknownIgnored s q t hs live ended other = refl

-- what each answer says of the packet
unknown_held : (live room : Bool) → answer_unknown live room ≡ Held → live ≡ true
unknown_held true room e = refl
unknown_held false room e = cc

known_held : (live f : Bool) → answer_known live f ≡ Held → live ≡ true
known_held true f e = refl
known_held false true e = cc
known_held false false e = cc

unknown_ended : (live room : Bool) → answer_unknown live room ≡ EndedNow → live ≡ false
unknown_ended true true e = cc
unknown_ended true false e = cc
unknown_ended false room e = refl

known_ended : (live f : Bool) → answer_known live f ≡ EndedNow → live ≡ false
known_ended true true e = cc
known_ended true false e = cc
known_ended false f e = refl

unknown_plain : (live room : Bool) → answer_unknown live room ≡ Observed → ⊥
unknown_plain true true e = cc
unknown_plain true false e = cc
unknown_plain false room e = cc

known_plain : (live f : Bool) → answer_known live f ≡ Observed → ⊥
known_plain true true e = cc
known_plain true false e = cc
known_plain false true e = cc
known_plain false false e = cc

pub held_live : (st : List Sent) (q : ℕ) (room : Bool) (o : Option Hold) → answer_by st q room o ≡ Held → (is_live (at st q)) ≡ true
held_live st q room None e = unknown_held _ room e
held_live st q room (Some h) e = known_held _ (follows st h.place q) e

pub ended_not : (st : List Sent) (q : ℕ) (room : Bool) (o : Option Hold) → answer_by st q room o ≡ EndedNow → (is_live (at st q)) ≡ false
ended_not st q room None e = unknown_ended _ room e
ended_not st q room (Some h) e = known_ended _ (follows st h.place q) e

pub never_observed : (st : List Sent) (q : ℕ) (room : Bool) (o : Option Hold) → answer_by st q room o ≡ Observed → ⊥
never_observed st q room None e = unknown_plain _ room e
never_observed st q room (Some h) e = known_plain _ (follows st h.place q) e

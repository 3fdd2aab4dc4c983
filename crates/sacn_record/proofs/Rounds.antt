-- One receive after another, and one round after another, of a recorder.
use Rattle.std.proofs.Common.{◌≡◌, ℕ, zero, suc, ◌+◌, ◌-◌, ◌^◌, ◌<◌, ◌≤◌, min, Bool, true, false, List, [], ◌∷◌, ◌++◌, length, Option, None, Some, inl, inr, refl, sym, ap, subst, ◌∙◌, append_assoc, append-nil, length-append, arith}
use Rattle.std.specs.Prelude.{if◌then◌else◌}
use Rattle.std.specs.List.{flat_map}
use Rattle.std.proofs.lemmas.Grind.{flat_map-append}
use Rattle.sacn_edge.specs.Additions.{Extends}
use Rattle.sacn_edge.proofs.NodeLemmas.{Extends-append}
use Rattle.sacn_record.specs.declared.plan.RecordPlan.{RecordPlan}
use Rattle.sacn_record.specs.declared.totals.Totals.{Totals}
use Rattle.sacn_record.specs.Recordings.{Taken, datagram_block}
use Rattle.sacn_record.specs.Laws.{AllFit}
use Rattle.sacn_packets.specs.PacketReading.{Reading, reading_packet}
use Rattle.sacn_record.specs.Hearing.{Catch, Datagram, caught_by, destination_of, is_asked, taken_by, in_order, reading_after, reading_by, asked_of, asked_in, asked_by}
use Rattle.sacn_record.specs.Sessions.{Deed, Begun, Put, AreBefore, IsOver, begun_by, begun_for, counted, counted_on, deeds_by, deeds_for, is_full, octets_in, opening, totals_by}
use Rattle.sacn_record.proofs.Taping.{fit_both}
use Rattle.sacn_record.proofs.Reading.{some_octets}

pub Extends-none : {X : Type 0} (a : Option (List X)) → Extends a a []
Extends-none None = tt
Extends-none (Some xs) = sym (append-nil xs)

-- what was told stays, where a call tells nothing more
pub told_still : {X : Type 0} (a b c : Option (List X)) (xs : List X) → Extends a b xs → c ≡ b → Extends a c xs
told_still a b c xs told same = subst (λ t. Extends a t xs) (sym same) told

-- the blocks of some datagrams, and then of others
pub blocks_more : (old mid new : List ℕ) (xs ys : List Taken) → mid ≡ old ++ flat_map datagram_block xs → new ≡ mid ++ flat_map datagram_block ys → new ≡ old ++ flat_map datagram_block (xs ++ ys)
blocks_more old mid new xs ys first next =
    next
    ∙ ap (λ (o : List ℕ). o ++ flat_map datagram_block ys) first
    ∙ append_assoc old (flat_map datagram_block xs) (flat_map datagram_block ys)
    ∙ sym (ap (λ (o : List ℕ). old ++ o) (flat_map-append datagram_block xs ys))

-- some more than none
pub counted_some : (old n : ℕ) → 1 ≤ n → counted_on old n ≡ counted (old + n)
counted_some old zero some = absurd (omega (arith, some))
counted_some old (suc n) some = refl

-- counted on twice
pub counted_more : (old a b : ℕ) → counted_on (counted_on old a) b ≡ counted_on old (a + b)
counted_more old zero b = let same : b ≡ 0 + b = omega arith in ap (λ (n : ℕ). counted_on old n) same
counted_more old (suc a) zero = let same : suc a ≡ suc a + zero = omega arith in ap (λ (n : ℕ). counted_on old n) same
counted_more old (suc a) (suc b) =
    let sum : counted (counted (old + suc a) + suc b) ≡ counted (old + (suc a + suc b)) = omega arith in
    sum ∙ sym (counted_some old (suc a + suc b) (omega arith))

pub count_more : (old mid new : ℕ) (xs ys : List Taken) → mid ≡ counted_on old (length xs) → new ≡ counted_on mid (length ys) → new ≡ counted_on old (length (xs ++ ys))
count_more old mid new xs ys first next =
    next ∙ ap (λ (m : ℕ). counted_on m (length ys)) first ∙ counted_more old (length xs) (length ys) ∙ ap (λ (n : ℕ). counted_on old n) (sym (length-append xs ys))

-- from nothing
pub counted_from : (n : ℕ) → counted_on 0 n ≡ counted n
counted_from zero = refl
counted_from (suc n) = let same : 0 + suc n ≡ suc n = omega arith in ap counted same

-- counted on from what is counted
pub counted_again : (a b : ℕ) → counted_on (counted a) b ≡ counted (a + b)
counted_again a zero = omega arith
counted_again a (suc b) = omega arith

pub octets_append : (xs ys : List Deed) → octets_in (xs ++ ys) ≡ octets_in xs + octets_in ys
octets_append [] ys = omega arith
octets_append (Begun ∷ xs) ys = octets_append xs ys
octets_append (Put octets ∷ xs) ys = let rest : octets_in (xs ++ ys) ≡ octets_in xs + octets_in ys = octets_append xs ys in omega (arith, rest)

-- ---- what a round brought, kept

module _ (plan : RecordPlan) (begun now : ℕ) where
  -- nothing
  pub kept_none : (told : Option (List Deed)) (items : List ℕ) (count d o : ℕ) (ts : List Taken) → items ≡ flat_map datagram_block ts → count ≡ counted (length ts) → count ≡ 0
      → Extends told told (deeds_for plan begun now ts)
      × (begun ≡ begun_for plan begun now ts)
      × (count ≡ 0)
      × (items ≡ [])
      × (d ≡ counted_on d (length ts))
      × (o ≡ counted_on o (octets_in (deeds_for plan begun now ts)))
  kept_none told items count d o [] blocks counts zeros = (Extends-none told, refl, zeros, blocks, refl, refl)
  kept_none told items count d o (t ∷ ts) blocks counts zeros = absurd (omega (arith, counts, zeros))

  some_blocks : (t : Taken) (ts : List Taken) → 1 ≤ length (flat_map datagram_block (t ∷ ts))
  some_blocks t ts = omega (arith, length-append (datagram_block t) (flat_map datagram_block ts), some_octets t)

  -- in the latest file
  pub kept_here : (a b : Option (List Deed)) (items : List ℕ) (count d e o p : ℕ) (ts : List Taken) → items ≡ flat_map datagram_block ts → count ≡ counted (length ts) → 1 ≤ count
      → is_full plan begun now ≡ false → Extends a b (Put items ∷ []) → e ≡ counted (d + count) → p ≡ counted (o + length items)
      → Extends a b (deeds_for plan begun now ts)
      × (begun ≡ begun_for plan begun now ts)
      × (e ≡ counted_on d (length ts))
      × (p ≡ counted_on o (octets_in (deeds_for plan begun now ts)))
  kept_here a b items count d e o p [] blocks counts some full told de op = absurd (omega (arith, counts, some))
  kept_here a b items count d e o p (t ∷ ts) blocks counts some full told de op =
      let bs = flat_map datagram_block (t ∷ ts) in
      let length_is : length items ≡ length (flat_map datagram_block (t ∷ ts)) = ap (λ (xs : List ℕ). length xs) blocks in
      let counted_ts : e ≡ counted (d + length (t ∷ ts)) = omega (arith, de, counts) in
      let sum : p ≡ counted (o + (length bs + 0)) = omega (arith, op, length_is) in
      let more : 1 ≤ length bs + 0 = omega (arith, some_blocks t ts) in (
        subst (λ (f : Bool). Extends a b (if f then opening plan ++ Put bs ∷ [] else Put bs ∷ [])) (sym full) (subst (λ (xs : List ℕ). Extends a b (Put xs ∷ [])) blocks told),
        subst (λ (f : Bool). begun ≡ (if f then now else begun)) (sym full) refl,
        counted_ts,
        subst (λ (f : Bool). p ≡ counted_on o (octets_in (if f then opening plan ++ Put bs ∷ [] else Put bs ∷ []))) (sym full) (sum ∙ sym (counted_some o (length bs + 0) more)),
      )

  -- in another one
  pub kept_anew : (a b : Option (List Deed)) (items : List ℕ) (count d e o p : ℕ) (ts : List Taken) → items ≡ flat_map datagram_block ts → count ≡ counted (length ts) → 1 ≤ count
      → is_full plan begun now ≡ true → Extends a b (opening plan ++ Put items ∷ []) → e ≡ counted (d + count) → p ≡ counted (o + (octets_in (opening plan) + length items))
      → Extends a b (deeds_for plan begun now ts)
      × (now ≡ begun_for plan begun now ts)
      × (e ≡ counted_on d (length ts))
      × (p ≡ counted_on o (octets_in (deeds_for plan begun now ts)))
  kept_anew a b items count d e o p [] blocks counts some full told de op = absurd (omega (arith, counts, some))
  kept_anew a b items count d e o p (t ∷ ts) blocks counts some full told de op =
      let bs = flat_map datagram_block (t ∷ ts) in
      let length_is : length items ≡ length (flat_map datagram_block (t ∷ ts)) = ap (λ (xs : List ℕ). length xs) blocks in
      let counted_ts : e ≡ counted (d + length (t ∷ ts)) = omega (arith, de, counts) in
      let alls : octets_in (opening plan ++ Put bs ∷ []) ≡ octets_in (opening plan) + (length bs + 0) = octets_append (opening plan) (Put bs ∷ []) in
      let sum : p ≡ counted (o + octets_in (opening plan ++ Put bs ∷ [])) = omega (arith, op, length_is, alls) in
      let more : 1 ≤ octets_in (opening plan ++ Put bs ∷ []) = omega (arith, some_blocks t ts, alls) in (
        subst (λ (f : Bool). Extends a b (if f then opening plan ++ Put bs ∷ [] else Put bs ∷ [])) (sym full) (subst (λ (xs : List ℕ). Extends a b (opening plan ++ Put xs ∷ [])) blocks told),
        subst (λ (f : Bool). now ≡ (if f then now else begun)) (sym full) refl,
        counted_ts,
        subst (λ (f : Bool). p ≡ counted_on o (octets_in (if f then opening plan ++ Put bs ∷ [] else Put bs ∷ []))) (sym full) (sum ∙ sym (counted_some o (octets_in (opening plan ++ Put bs ∷ [])) more)),
      )

-- ---- one round more

pub totals_first : (plan : RecordPlan) (old new : Totals) → old ≡ record { datagrams = 0; octets = 0; millis = 0 } → new.octets ≡ counted (old.octets + octets_in (opening plan)) → new.datagrams ≡ old.datagrams
    → new.millis ≡ old.millis → new ≡ totals_by plan []
totals_first plan old new was os ds ms =
    let no_octets : old.octets ≡ 0 = ap (λ (t : Totals). t.octets) was in
    let no_datagrams : old.datagrams ≡ 0 = ap (λ (t : Totals). t.datagrams) was in
    let octets : new.octets ≡ counted (octets_in (opening plan)) = omega (arith, os, no_octets) in
    let datagrams : new.datagrams ≡ counted 0 = omega (arith, ds, no_datagrams) in
    let millis : new.millis ≡ 0 = ms ∙ ap (λ (t : Totals). t.millis) was in
    λ i. record { datagrams = datagrams i; octets = octets i; millis = millis i }

module _ (plan : RecordPlan) (cs : List Catch) (rounds : List (List Catch)) (begun now : ℕ) (at : begun ≡ begun_by plan rounds) (reads : now ≡ reading_by (cs ∷ rounds)) where
  pub deeds_more : (a b c : Option (List Deed)) → Extends a b (deeds_by plan rounds) → Extends b c (deeds_for plan begun now (asked_in plan cs)) → Extends a c (deeds_by plan (cs ∷ rounds))
  deeds_more a b c sofar more =
      Extends-append a b c (deeds_by plan rounds) (deeds_for plan (begun_by plan rounds) (reading_by (cs ∷ rounds)) (asked_in plan cs)) sofar
      (subst (λ (x : ℕ). Extends b c (deeds_for plan x (reading_by (cs ∷ rounds)) (asked_in plan cs))) at (subst (λ (n : ℕ). Extends b c (deeds_for plan begun n (asked_in plan cs))) reads more))

  pub begun_more : (latest : ℕ) → latest ≡ begun_for plan begun now (asked_in plan cs) → latest ≡ begun_by plan (cs ∷ rounds)
  begun_more latest is =
      is ∙ ap (λ (b : ℕ). begun_for plan b now (asked_in plan cs)) at ∙ ap (λ (n : ℕ). begun_for plan (begun_by plan rounds) n (asked_in plan cs)) reads

  pub totals_more : (old new : Totals) → old ≡ totals_by plan rounds → new.millis ≡ now → new.datagrams ≡ counted_on old.datagrams (length (asked_in plan cs))
      → new.octets ≡ counted_on old.octets (octets_in (deeds_for plan begun now (asked_in plan cs))) → new ≡ totals_by plan (cs ∷ rounds)
  totals_more old new was ms d o =
      let deeds = deeds_for plan (begun_by plan rounds) (reading_by (cs ∷ rounds)) (asked_in plan cs) in
      let datagrams =
      d
      ∙ ap (λ (t : Totals). counted_on t.datagrams (length (asked_in plan cs))) was
      ∙ counted_again (length (asked_by plan rounds)) (length (asked_in plan cs))
      ∙ ap counted (sym (length-append (asked_by plan rounds) (asked_in plan cs))) in
      let octets =
      o
      ∙ ap (λ (b : ℕ). counted_on old.octets (octets_in (deeds_for plan b now (asked_in plan cs)))) at
      ∙ ap (λ (n : ℕ). counted_on old.octets (octets_in (deeds_for plan (begun_by plan rounds) n (asked_in plan cs)))) reads
      ∙ ap (λ (t : Totals). counted_on t.octets (octets_in deeds)) was
      ∙ counted_again (octets_in (deeds_by plan rounds)) (octets_in deeds)
      ∙ ap counted (sym (octets_append (deeds_by plan rounds) deeds)) in
      let millis = ms ∙ reads in
      λ i. record { datagrams = datagrams i; octets = octets i; millis = millis i }

-- a recorder of as many rounds as 64 bits count
pub rounds_end : (until : ℕ) (Ended : Type 0) (rounds : List (List Catch)) → AreBefore until rounds → length rounds ≡ 2 ^ 64 - 1 → IsOver until Ended rounds
rounds_end until Ended [] before all = absurd (omega (arith, all))
rounds_end until Ended (cs ∷ rounds) before all = (before.1, inr (inr all))

-- ---- what is asked for of one datagram

asked_if : (plan : RecordPlan) (d : Datagram) (reading : Reading) (asked : Bool) → reading ≡ reading_packet d.payload → asked ≡ is_asked plan.universes.now reading
    → asked_of plan (Some d) ≡ (if asked then taken_by plan d ∷ [] else [])
asked_if plan d reading asked reads is =
    ap (λ (r : Reading). if is_asked plan.universes.now r then taken_by plan d ∷ [] else []) (sym reads) ∙ ap (λ (b : Bool). if b then taken_by plan d ∷ [] else []) (sym is)

pub asked_none : (plan : RecordPlan) (d : Datagram) (reading : Reading) (asked : Bool) → reading ≡ reading_packet d.payload → asked ≡ is_asked plan.universes.now reading → asked ≡ false → asked_of plan (Some d) ≡ []
asked_none plan d reading asked reads is left_out = asked_if plan d reading asked reads is ∙ ap (λ (b : Bool). if b then taken_by plan d ∷ [] else []) left_out

-- a datagram as it is recorded, that went to an address
abbrev pub taken_to : RecordPlan → Datagram → List ℕ → Taken
taken_to plan d to = record { moment = d.moment; sent = record { sender = d.sender; sender_port = d.sender_port; destination = to; destination_port = plan.port; payload = d.payload } }

pub asked_one : (plan : RecordPlan) (d : Datagram) (reading : Reading) (asked : Bool) (to : List ℕ) → reading ≡ reading_packet d.payload → asked ≡ is_asked plan.universes.now reading → asked ≡ true
    → to ≡ destination_of plan.host reading → asked_of plan (Some d) ≡ taken_to plan d to ∷ []
asked_one plan d reading asked to reads is wanted goes =
    let there : destination_of plan.host (reading_packet d.payload) ≡ to = ap (λ (r : Reading). destination_of plan.host r) (sym reads) ∙ sym goes in
    asked_if plan d reading asked reads is
    ∙ ap (λ (b : Bool). if b then taken_by plan d ∷ [] else []) wanted
    ∙ ap (λ (t : List ℕ). taken_to plan d t ∷ []) there

-- its block
pub one_block : (old new : List ℕ) (t : Taken) (ts : List Taken) → ts ≡ t ∷ [] → new ≡ old ++ datagram_block t → new ≡ old ++ flat_map datagram_block ts
one_block old new t ts is grew =
    grew ∙ ap (λ (xs : List ℕ). old ++ xs) (sym (append-nil (datagram_block t))) ∙ ap (λ (xs : List Taken). old ++ flat_map datagram_block xs) (sym is)

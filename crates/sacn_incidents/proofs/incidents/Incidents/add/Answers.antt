use Rattle.std.proofs.Common.{◌≡◌, ◌<◌, ◌∙◌, ◌++◌, ◌∷◌, [], List, Some, None, ℕ, length, set, get_or, sym, ap, false, arith}
use Rattle.std.specs.List.{position}
use Rattle.std.proofs.lemmas.List.Quantifiers.{position-Some}
use Rattle.sacn_incidents.specs.declared.deed.Deed.{Deed}
use Rattle.sacn_incidents.specs.declared.incident.Incident.{Incident}
use Rattle.sacn_incidents.specs.declared.limits.TheConstants.{MAX_OPEN}
use Rattle.sacn_incidents.specs.Gathering.{begun, joined, lacks_room, takes, with_deed}
use Rattle.sacn_incidents.proofs.Placing.{at_place, behind_all, none_passes, room_at}
use Rattle.sacn_incidents.proofs.incidents.Incidents.add.Goals as goal

-- the incident at the first place that takes a deed, with it
joined_at : (d : Deed) (is : List Incident) (place : ℕ) (e new : Incident) → position (takes d) is ≡ Some place → e ≡ get_or is place e → new ≡ joined d e
    → set is place new ≡ with_deed d is
joined_at d is place e new found there joined_is =
    let at = position-Some (takes d) is place e found in
    ap (set is place) (joined_is ∙ ap (joined d) there) ∙ sym (at_place d is place e at.0 at.1 at.2)

room_for : (d : Deed) (is : List Incident) → position (takes d) is ≡ None → lacks_room d is ≡ false → length is < MAX_OPEN
room_for d is found has = room_at d is has (none_passes (takes d) is found)

pub returns-in-Some : goal.returns-in-Some
returns-in-Some c =
    joined_at c.args.deed.now c.self.inside.open.items c.in-Some.place c.index_mut.result.now c.add.new.self
    (sym (ap (position (takes c.args.deed.now)) c.as_slice.ensures.value) ∙ sym c.place_in.ensures ∙ c.in-Some.is) c.index_mut.ensures.value c.add.ensures
    ∙ ap (with_deed c.args.deed.now) c.self.view_is

pub returns-in-None : goal.returns-in-None
returns-in-None c =
    let d : Deed = c.args.deed.now in
    let is : List Incident = c.self.inside.open.items in
    let found : position (takes d) is ≡ None = sym (ap (position (takes d)) c.as_slice.ensures.value) ∙ sym c.place_in.ensures ∙ c.in-None.is in
    let behind : with_deed d is ≡ is ++ begun d ∷ [] = behind_all d is (none_passes (takes d) is found) in
    c.push_reserved.ensures.items ∙ ap (λ (i : Incident). is ++ i ∷ []) c.begin.ensures ∙ sym behind ∙ ap (with_deed d) c.self.view_is

pub push_reserved-requires : goal.push_reserved-requires
push_reserved-requires c =
    let d : Deed = c.args.deed.now in
    let is : List Incident = c.self.inside.open.items in
    let found : position (takes d) is ≡ None = sym (ap (position (takes d)) c.as_slice.ensures.value) ∙ sym c.place_in.ensures ∙ c.in-None.is in
    let low : length is < MAX_OPEN = room_for d is found (ap (lacks_room d) c.self.view_is ∙ c.requires) in
    omega (arith, low, c.self.invariant)

pub invariant_of-self-in-None : goal.invariant_of-self-in-None
invariant_of-self-in-None c =
    let d : Deed = c.args.deed.now in
    let is : List Incident = c.self.inside.open.items in
    let found : position (takes d) is ≡ None = sym (ap (position (takes d)) c.as_slice.ensures.value) ∙ sym c.place_in.ensures ∙ c.in-None.is in
    let low : length is < MAX_OPEN = room_for d is found (ap (lacks_room d) c.self.view_is ∙ c.requires) in
    (omega (arith, low, c.self.invariant, c.push_reserved.ensures.capacity), omega (arith, low, c.push_reserved.ensures.len))

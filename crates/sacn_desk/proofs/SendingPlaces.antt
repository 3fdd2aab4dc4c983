-- What goes to hosts, and then to a group.
use Rattle.std.proofs.Common.{◌≡◌, ◌==◌, ℕ, Bool, ◌&&◌, List, ◌++◌, sym, ap, subst, ◌∙◌, Option, Some}
use Rattle.std.specs.Option.{option_map}
use Rattle.sacn_edge.specs.Additions.{Extends}
use Rattle.sacn_edge.proofs.NodeLemmas.{Extends-append}
use Rattle.sacn_machine.specs.Sendings.{Sending}
use Rattle.sacn_packets.specs.PacketReading.{reading_packet}
use Rattle.sacn_desk.specs.declared.destinations.Destination.{Destination}
use Rattle.sacn_desk.specs.declared.destinations.Destinations.{Destinations}
use Rattle.sacn_desk.specs.Groups.{group_told, universe_read}
use Rattle.sacn_desk.specs.SentTo.{receivers, failures, hosts_of, hosts_told, AllCarry, AreGroups, IsSentTo}
use Rattle.sacn_desk.proofs.SendingLists.{AreSent, receivers-append, failures-append, carry-append, none_of_both}

-- the sends to the group
abbrev pub AreGrouped : Option (List Sending) → Option (List Sending) → Bool → Option ℕ → List ℕ → Bool → Type 0
AreGrouped old new is_multicast universe octets taken =
    (ss : List Sending) × Extends old new ss × AreGroups is_multicast (Some (group_told universe)) (receivers ss) × AllCarry octets ss × (taken ≡ (failures ss == 0))

pub sent_where : (a b c : Option (List Sending)) (places : Destinations) (hosts : List Destination) (octets sent : List ℕ) (universe : Option ℕ) (failed : ℕ) (taken : Bool)
    → universe_read (reading_packet octets) ≡ Some universe
    → hosts ≡ places.hosts.items → sent ≡ octets
    → AreSent a b (hosts_of universe hosts) sent failed
    → AreGrouped b c places.is_multicast universe sent taken
    → (ss : List Sending) × Extends a c ss × IsSentTo places octets (receivers ss) × AllCarry octets ss × (((failed == 0) && taken) ≡ (failures ss == 0))
sent_where a b c places hosts octets sent universe failed taken read are same sends groups =
    let first : AreSent a b (hosts_of universe places.hosts.items) octets failed =
    subst (λ hs. AreSent a b (hosts_of universe hs) octets failed) are (subst (λ os. AreSent a b (hosts_of universe hosts) os failed) same sends) in
    let second : AreGrouped b c places.is_multicast universe octets taken = subst (λ os. AreGrouped b c places.is_multicast universe os taken) same groups in
    let ss = first.0 in
    let ts = second.0 in (
      ss ++ ts,
      Extends-append a b c ss ts first.1 second.1,
      (
        receivers ts,
        receivers-append ss ts
            ∙ ap (λ to. to ++ receivers ts) (first.2 ∙ ap (λ told. hosts_told told places.hosts.items) (sym read)),
        subst (λ told. AreGroups places.is_multicast (option_map group_told told) (receivers ts)) (sym read) second.2,
      ),
      carry-append octets ss ts first.3 second.3,
      ap (λ n. (n == 0) && taken) first.4
          ∙ ap (λ b. (failures ss == 0) && b) second.4
          ∙ sym (none_of_both (failures ss) (failures ts))
          ∙ ap (λ n. n == 0) (sym (failures-append ss ts)),
    )

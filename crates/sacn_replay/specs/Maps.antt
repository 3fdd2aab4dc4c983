-- Universes that go out under other numbers.
use Rattle.std.specs.Prelude.{◌≡◌, ℕ, nat_le, ◌==◌, Bool, true, not, ◌&&◌, ◌||◌, List, [], ◌∷◌, ◌++◌, length, Option, None, Some, Result, Ok, Err, if◌then◌else◌}
use Rattle.std.specs.Int.{w16, to_be_bytes}
use Rattle.std.specs.List.{All, list_any}
use Rattle.sacn_packets.specs.declared.framing.packet.Packet.TheVariants.{DataPacket, PagePacket, SyncPacket}
use Rattle.sacn_packets.specs.Data.{Data}
use Rattle.sacn_packets.specs.PacketReading.{Reading, reading_packet}
use Rattle.sacn_packets.specs.PacketText.{ReadsData}
use Rattle.sacn_packets.specs.Universe.{IsUniverse}
use Rattle.sacn_packets.specs.Writing.{put_at}
use Rattle.sacn_replay.specs.declared.fault.ReplayFault.{ReplayFault}
use Rattle.sacn_replay.specs.declared.fault.ReplayFault.TheVariants.{MappedTwice, SameTarget, TooMany, Universe}
use Rattle.sacn_replay.specs.declared.universes.Mapping.{Mapping}
use Rattle.sacn_replay.specs.declared.universes.TheConstants.{MAX_MAPPED}

abbrev pub carries_data : ℕ → Bool
carries_data universe = nat_le 1 universe && nat_le universe 63999

-- why a mapping is refused
abbrev pub fault_of : Mapping → List Mapping → Option ReplayFault
fault_of p ps =
    if not (carries_data p.from) || not (carries_data p.to) then Some Universe
    else (if list_any (λ q. q.from == p.from) ps then Some MappedTwice
    else (if list_any (λ q. q.to == p.to) ps then Some SameTarget else (if nat_le MAX_MAPPED (length ps) then Some TooMany else None)))

abbrev pub answer_by : Option ReplayFault → Result (Unit {0}) ReplayFault
answer_by None = Ok tt
answer_by (Some fault) = Err fault

abbrev pub answer_to : Mapping → List Mapping → Result (Unit {0}) ReplayFault
answer_to p ps = answer_by (fault_of p ps)

abbrev pub with_mapping_by : Option ReplayFault → Mapping → List Mapping → List Mapping
with_mapping_by None p ps = ps ++ p ∷ []
with_mapping_by (Some fault) p ps = ps

abbrev pub with_mapping : Mapping → List Mapping → List Mapping
with_mapping p ps = with_mapping_by (fault_of p ps) p ps

-- the number under which a universe goes out; one that isn't listed keeps its own
abbrev pub mapped : List Mapping → ℕ → ℕ
mapped [] universe = universe
mapped (p ∷ ps) universe = if p.from == universe then p.to else mapped ps universe

abbrev pub universe_by : Reading → Option ℕ
universe_by (Ok (DataPacket d)) = Some d.universe
universe_by (Ok (PagePacket p)) = None
universe_by (Ok SyncPacket) = None
universe_by (Err fault) = None

-- the universe of a data packet
abbrev pub universe_in : List ℕ → Option ℕ
universe_in octets = universe_by (reading_packet octets)

-- octets 113 and 114 are another universe's
abbrev pub with_universe : ℕ → List ℕ → List ℕ
with_universe universe octets = put_at octets 113 (to_be_bytes w16 universe)

abbrev pub rewritten_by : List Mapping → Option ℕ → List ℕ → List ℕ
rewritten_by ps None octets = octets
rewritten_by ps (Some universe) octets = with_universe (mapped ps universe) octets

abbrev pub rewritten : List Mapping → List ℕ → List ℕ
rewritten ps octets = rewritten_by ps (universe_in octets) octets

-- A data packet that is rewritten is read as itself, but for its universe.
abbrev pub RewritingChangesTheUniverse : Type 0
RewritingChangesTheUniverse = (ps : List Mapping) (octets : List ℕ) (d : Data) → All (λ (p : Mapping). IsUniverse p.to) ps → ReadsData octets d
    → reading_packet (rewritten ps octets) ≡ Ok (DataPacket (record d { universe = mapped ps d.universe }))

-- a list as it is made, the latest mapping first
abbrev pub all_added : List Mapping → List Mapping
all_added [] = []
all_added (p ∷ earlier) = with_mapping p (all_added earlier)

abbrev pub is_listed : ℕ → List Mapping → Bool
is_listed universe ps = list_any (λ p. p.from == universe) ps

-- Two universes of a list that go out under one number are one.
abbrev pub NumbersAreApart : Type 0
NumbersAreApart = (asked : List Mapping) (a b : ℕ) → is_listed a (all_added asked) ≡ true → is_listed b (all_added asked) ≡ true
    → mapped (all_added asked) a ≡ mapped (all_added asked) b → a ≡ b

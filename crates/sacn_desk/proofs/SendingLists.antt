-- Sends, one after another.
use Rattle.std.proofs.Common.{◌≡◌, ◌==◌, ◌<◌, ◌+◌, ℕ, zero, suc, Bool, false, ◌&&◌, not, cond, List, [], ◌∷◌, ◌++◌, take, map, filter, length, get_or, sym, ap, ◌∙◌, Option, zero-add, arith}
use Rattle.std.proofs.lemmas.List.{map-append}
use Rattle.std.proofs.lemmas.List.Elements.{All-append, filter-append}
use Rattle.std.proofs.lemmas.List.Sums.{sum_by-append}
use Rattle.std.proofs.lemmas.Grind.{take_at_read}
use Rattle.std.specs.declared.net.socket_addr.SocketAddrV4.{SocketAddrV4}
use Rattle.sacn_edge.specs.Additions.{Extends}
use Rattle.sacn_edge.proofs.NodeLemmas.{Extends-append}
use Rattle.sacn_machine.specs.Sendings.{Sending}
use Rattle.sacn_desk.specs.declared.destinations.Destination.{Destination}
use Rattle.sacn_desk.specs.SentTo.{receivers, failures, hosts_of, takes, AllCarry}

pub receivers-append : (ss ts : List Sending) → receivers (ss ++ ts) ≡ receivers ss ++ receivers ts
receivers-append ss ts = map-append (λ (s : Sending). s.to) ss ts

pub failures-append : (ss ts : List Sending) → failures (ss ++ ts) ≡ failures ss + failures ts
failures-append ss ts = sum_by-append (λ (s : Sending). cond (not s.taken) 1 0) ss ts

pub carry-append : (octets : List ℕ) (ss ts : List Sending) → AllCarry octets ss → AllCarry octets ts → AllCarry octets (ss ++ ts)
carry-append octets ss ts p q = All-append (λ (s : Sending). s.octets ≡ octets) ss ts p q

hosts-append : (universe : Option ℕ) (xs ys : List Destination) → hosts_of universe (xs ++ ys) ≡ hosts_of universe xs ++ hosts_of universe ys
hosts-append universe xs ys =
    ap (map (λ (host : Destination). host.address)) (filter-append (takes universe) xs ys)
    ∙ map-append (λ (host : Destination). host.address) (filter (takes universe) xs) (filter (takes universe) ys)

above_zero : (n : ℕ) → 0 < n → (n == 0) ≡ false
above_zero n lt = grind arith

-- no send failed where none of the first did and none of the others
pub none_of_both : (a b : ℕ) → (a + b == 0) ≡ ((a == 0) && (b == 0))
none_of_both zero b = ap (λ n. n == 0) (zero-add b)
none_of_both (suc a) b = above_zero (suc a + b) (omega arith) ∙ ap (λ t. t && (b == 0)) (sym (above_zero (suc a) (omega arith)))

-- the sends to the first hosts
abbrev pub AreSent : Option (List Sending) → Option (List Sending) → List SocketAddrV4 → List ℕ → ℕ → Type 0
AreSent old new hosts octets failed =
    (ss : List Sending) × Extends old new ss × (receivers ss ≡ hosts) × AllCarry octets ss × (failed ≡ failures ss)

pub one_more : (a b c : Option (List Sending)) (universe : Option ℕ) (hosts : List Destination) (octets : List ℕ) (i : ℕ) (d host : Destination) (failed one new : ℕ)
    → i < length hosts → host ≡ get_or hosts i d
    → AreSent a b (hosts_of universe (take i hosts)) octets failed → AreSent b c (hosts_of universe (host ∷ [])) octets one → new ≡ failed + one
    → AreSent a c (hosts_of universe (take (i + 1) hosts)) octets new
one_more a b c universe hosts octets i d host failed one new below is sofar more counts =
    let ss = sofar.0 in
    let ts = more.0 in (
      ss ++ ts,
      Extends-append a b c ss ts sofar.1 more.1,
      receivers-append ss ts
          ∙ ap (λ t. t ++ receivers ts) sofar.2
          ∙ ap (λ t. hosts_of universe (take i hosts) ++ t) more.2
          ∙ sym (hosts-append universe (take i hosts) (host ∷ []))
          ∙ ap (λ x. hosts_of universe (take i hosts ++ x ∷ [])) is
          ∙ ap (hosts_of universe) (sym (take_at_read hosts i d below).1),
      carry-append octets ss ts sofar.3 more.3,
      counts
          ∙ ap (λ n. n + one) sofar.4
          ∙ ap (λ n. failures ss + n) more.4
          ∙ sym (failures-append ss ts),
    )

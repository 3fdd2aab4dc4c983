-- What is asked for is asked by a GET of one of a server's own names.
use Rattle.std.proofs.Common.{◌≡◌, ℕ, List, Result, Ok, Err, Option, Some, map, codes, drop, sym, subst, ◌∙◌}
use Rattle.std.specs.Prelude.{IsTrue, IsOk, OnOk, option_copied}
use Rattle.httparse.specs.declared.borrowed.Request.{Request}
use Rattle.httparse.specs.Borrowed.{HoldsSomeRequest, header_parts}
use Rattle.sacn_page.specs.Requests.{is_own, IsOwnGet, OnAsked}
use Rattle.sacn_page.specs.declared.request.Target.{Target}
use Rattle.sacn_page.specs.declared.request.RequestRefusal.{RequestRefusal}
use Rattle.sacn_page.specs.declared.request.RequestReading.{RequestReading}
use Rattle.sacn_page.specs.declared.request.RequestReading.TheVariants as reading

abbrev given : List ℕ → Option (List ℕ)
given xs = Some xs

same : (xs ys : List ℕ) → given xs ≡ given ys → xs ≡ ys
same xs ys e = cc

pub own_get : (names : List (List ℕ)) (octets : List ℕ) (r : Request) (len : ℕ) (asked : Result Target RequestRefusal) (answer : RequestReading)
    → HoldsSomeRequest octets r len
    → OnOk asked (IsTrue (is_own names (map header_parts r.headers.now)))
    → OnOk asked (option_copied r.method ≡ Some (codes "GET"))
    → OnAsked answer (IsOk asked) → OnAsked answer (IsOwnGet names octets)
own_get names octets r len asked reading.More holds own method ok = tt
own_get names octets r len asked (reading.Refused refusal) holds own method ok = tt
own_get names octets r len (Err fault) (reading.Asked asked) holds own method ok = absurd cc
own_get names octets r len (Ok found) (reading.Asked asked) holds own method ok =
    record {
      head = holds.0;
      rest = drop len octets;
      reads = holds.1.reads;
      method = same holds.0.method (codes "GET") (sym holds.1.method ∙ method);
      host = subst (λ fields. IsTrue (is_own names fields)) holds.1.fields own;
    }

-- What the polls of a source hand over.
use Rattle.std.proofs.Common.{◌≡◌, ℕ, suc, ◌+◌, false, true≢false, Bool, List, [], ◌∷◌, ◌++◌, length, take, Option, Some, None, is_some, refl, sym, ap, ◌∙◌, arith}
use Rattle.std.specs.Option.{option_map}
use Rattle.sacn_console.specs.declared.sender.Sender.{Sender}
use Rattle.sacn_console.specs.declared.console.DueDatagram.{DueDatagram}
use Rattle.sacn_console.specs.Lines.{Datagram}
use Rattle.sacn_console.specs.Core.{IsLawful, due_datagram, over, size, text}
use Rattle.sacn_edge.specs.ConsoleSends.{Handed, datagrams, handed_of, octets_of}
use Rattle.sacn_edge.proofs.ConsoleLemmas.{front}
use Rattle.sacn_desk.proofs.Handing.{given_fits}
use Rattle.sacn_source.specs.Source as source
use Rattle.sacn_source.specs.Source.{Source, due, at}
use Rattle.sacn_played_source.specs.Played.{Played, after_poll}
use Rattle.sacn_played_source.specs.Calls.{Poll}
use Rattle.sacn_played_run.specs.Calls.{after, given_by, polled, polls}
use Rattle.sacn_played_run.proofs.Calling.{given_more}

-- the octets that are handed over are those of the datagram that is due
pub handed_is : (sender : Sender) (o : Option Datagram) (g : DueDatagram) → Some g ≡ option_map due_datagram o → ((d : Datagram) → o ≡ Some d → IsLawful sender d)
    → (out old : List ℕ) → out ≡ over sender o old → length out ≡ 1144 → length old ≡ 1144 → (taken : Bool)
    → (take g.len out, taken) ∷ [] ≡ handed_of (octets_of sender o) (Some taken)
handed_is sender None g e lawful out old is long before taken = absurd (cc)
handed_is sender (Some d) g e lawful out old is long before taken =
    let len : g.len ≡ size d = ap (λ (o : Option DueDatagram). len_or 0 o) e in
    let fits = given_fits sender (Some d) g e lawful in
    let octets : take g.len out ≡ text sender d = ap (λ (n : ℕ). take n out) len ∙ front (text sender d) out old (size d) is long before (omega (arith, fits, len)) in
    ap (λ (os : List ℕ). let hs : Handed = (os, taken) ∷ [] in hs) octets
  where
    len_or : ℕ → Option DueDatagram → ℕ
    len_or n None = n
    len_or n (Some g) = g.len

-- one poll more
module _ (now n : ℕ) (first s t : Played) (was : s ≡ after (polls now n) first) (is : t ≡ after_poll now s) where
  one_more : suc n ≡ n + 1
  one_more = omega arith

  pub poll_after : t ≡ after (polls now (n + 1)) first
  poll_after = is ∙ ap (after_poll now) was ∙ ap (λ (m : ℕ). after (polls now m) first) one_more

  datagrams_of : (sender : Sender) (d : Option Datagram) (sent : Option Bool) → is_some sent ≡ is_some d → datagrams (handed_of (octets_of sender d) sent) ≡ octets_of sender d
  datagrams_of sender None None same = refl
  datagrams_of sender None (Some b) same = absurd (cc)
  datagrams_of sender (Some d) None same = absurd (cc)
  datagrams_of sender (Some d) (Some b) same = refl

  pub poll_given : (hs : Handed) (sent : Option Bool) → is_some sent ≡ is_some (due (at now s.source)) → datagrams hs ≡ given_by (polls now n) first
      → datagrams (hs ++ handed_of (polled now s) sent) ≡ given_by (polls now (n + 1)) first
  poll_given hs sent same sofar =
      given_more (Poll now ∷ []) (polls now n) first s was hs (handed_of (polled now s) sent) sofar (datagrams_of s.source.sender (due (at now s.source)) sent same)
      ∙ ap (λ (m : ℕ). given_by (polls now m) first) one_more

  -- where nothing was sent, nothing is due
  pub poll_quiet : (sent : Option Bool) → is_some sent ≡ is_some (due (at now s.source)) → is_some sent ≡ false → due t.source ≡ None
  poll_quiet sent same none = by_due (due (at now s.source)) refl
    where
      by_due : (d : Option Datagram) → due (at now s.source) ≡ d → due t.source ≡ None
      by_due None e = ap (λ (p : Played). due p.source) is ∙ ap (λ (d : Option Datagram). due (source.given d (at now s.source))) e ∙ e
      by_due (Some d) e = absurd (true≢false (sym (ap is_some e) ∙ sym same ∙ none))

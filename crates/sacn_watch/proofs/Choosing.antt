-- What a screen shows follows its calls, choices and looks.
use Rattle.std.proofs.Common.{◌≡◌, ℕ, Bool, true, false, List, [], ◌∷◌, Option, None, Some, inl, inr, refl, sym, ap, subst, ◌∙◌}
use Rattle.sacn_packets.specs.declared.root.fault.PacketFault.{PacketFault}
use Rattle.sacn_packets.specs.declared.framing.packet.Packet.{Packet}
use Rattle.std.specs.Prelude.{Result, Ok, Err, OnOk, OnErr, is_some, unwrap_or, if◌then◌else◌}
use Rattle.sacn_packets.specs.PacketReading.{reading_packet}
use Rattle.sacn_monitor.specs.declared.account.Endpoint.{Endpoint}
use Rattle.sacn_monitor.specs.Histories.{Call, Take, Tick}
use Rattle.sacn_sources.specs.LatestMerge.{Kept, new_kept}
use Rattle.sacn_tell.specs.Following.{Follows}
use Rattle.sacn_network.specs.declared.ledger.Ledger.{Ledger}
use Rattle.sacn_watch.specs.declared.terminal.Terminal.{Terminal}
use Rattle.sacn_watch.specs.Screens.{IsShowing, KeepsShowing}
use Rattle.sacn_watch.specs.Views.{Shown, Deed, Handed, Chosen, Looked, calls_of, shown_after, nothing_shown, after_reading, after_choice, after_look, after_look_where, shown_of, IsShownBy, IsSteered}

abbrev shown_like : Option ℕ → Kept → Bool → Shown
shown_like universe sources is_heard = record { universe = universe; sources = sources; is_heard = is_heard }

shown_as : (u v : Option ℕ) (k l : Kept) (b d : Bool) → u ≡ v → k ≡ l → b ≡ d → shown_like u k b ≡ shown_like v l d
shown_as u v k l b d us ks bs = ap (λ (x : Option ℕ). shown_like x k b) us ∙ ap (λ (x : Kept). shown_like v x b) ks ∙ ap (λ (x : Bool). shown_like v l x) bs

-- a screen at its start: a universe that is asked for is chosen then
pub started : (asked universe : Option ℕ) (sources : Kept) (is_heard : Bool) → universe ≡ asked → sources ≡ new_kept → is_heard ≡ false
    → IsShownBy [] (shown_like universe sources is_heard)
started None universe sources is_heard at new unheard = ([], refl, shown_as universe None sources new_kept is_heard false at new unheard)
started (Some asked) universe sources is_heard at new unheard = (Chosen asked ∷ [], refl, shown_as universe (Some asked) sources new_kept is_heard false at new unheard)

abbrev chosen_where : Bool → ℕ → Option ℕ
chosen_where is_chosen universe = if is_chosen then Some universe else None

-- what is asked for is chosen at the start
pub chosen_as_asked : (asked : Option ℕ) (is_chosen : Bool) (number universe : ℕ) → is_chosen ≡ is_some asked → number ≡ unwrap_or asked 0 → universe ≡ number
    → chosen_where is_chosen universe ≡ asked
chosen_as_asked None is_chosen number universe is or same = ap (λ (b : Bool). chosen_where b universe) is
chosen_as_asked (Some asked) is_chosen number universe is or same = ap (λ (b : Bool). chosen_where b universe) is ∙ ap Some (same ∙ or)

module _ (calls : List Call) (now : ℕ) (old new : Shown) (was : IsShownBy calls old) where
  pub taken_shown : (sender : Endpoint) (octets : List ℕ) (reading : Result Packet PacketFault) → reading ≡ reading_packet octets → new ≡ after_reading now reading old
      → IsShownBy (Take now sender octets ∷ calls) new
  taken_shown sender octets reading read is = (
    Handed (Take now sender octets) ∷ was.0,
    ap (λ (cs : List Call). Take now sender octets ∷ cs) was.1,
    is ∙ ap (λ (r : Result Packet PacketFault). after_reading now r old) read ∙ ap (λ (s : Shown). after_reading now (reading_packet octets) s) was.2,
  )

  pub ticked_shown : new ≡ old → IsShownBy (Tick now ∷ calls) new
  ticked_shown same = (Handed (Tick now) ∷ was.0, ap (λ (cs : List Call). Tick now ∷ cs) was.1, same ∙ was.2)

  pub look_shown : new ≡ after_look now old → IsShownBy calls new
  look_shown is = (Looked now ∷ was.0, was.1, is ∙ ap (after_look now) was.2)

  pub looked_shown : (is_looked : Bool) → new ≡ after_look_where is_looked now old → IsShownBy calls new
  looked_shown true is = look_shown is
  looked_shown false same = (was.0, was.1, same ∙ was.2)

  pub steered_shown : IsSteered old new → IsShownBy calls new
  steered_shown (inl same) = (was.0, was.1, same ∙ was.2)
  steered_shown (inr (universe, is)) = (Chosen universe ∷ was.0, was.1, is ∙ ap (after_choice universe) was.2)

-- a universe was chosen, unless memory was refused
pub chosen_or_kept : {T E : Type 0} (universe : ℕ) (r : Result T E) (old mid new : Shown) → mid ≡ old → OnOk r (new ≡ after_choice universe mid) → OnErr r (new ≡ mid) → IsSteered old new
chosen_or_kept universe (Ok x) old mid new same chosen kept = inr (universe, chosen ∙ ap (after_choice universe) same)
chosen_or_kept universe (Err e) old mid new same chosen kept = inl (kept ∙ same)

-- a terminal whose levels were looked at, and whose universe was chosen then, or not
pub keeps : {O : Type 0} (now : ℕ) (old new : Terminal O) (looked : Shown) → new.view.network ≡ old.view.network → looked ≡ after_look now (shown_of old.view)
    → IsSteered looked (shown_of new.view) → KeepsShowing old new
keeps now old new looked network look steered =
    λ calls was. record {
      book = subst (Follows calls) (sym (ap (λ (n : Ledger). n.monitor) network)) was.book;
      moment = ap (λ (n : Ledger). n.monitor.moment) network ∙ was.moment;
      shown = steered_shown calls now looked (shown_of new.view) (look_shown calls now (shown_of old.view) looked was.shown look) steered;
    }

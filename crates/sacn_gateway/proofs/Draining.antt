-- One receive after another in a turn of a gateway.
use Rattle.std.proofs.Common.{◌≡◌, ℕ, ◌-◌, ◌<◌, ◌==◌, ◌||◌, nat_lt, Bool, true, false, not, List, [], ◌∷◌, length, refl, sym, ap, ◌∙◌, arith}
use Rattle.std.proofs.lemmas.Bool.{ne_eqb, eq-eqb}
use Rattle.sacn_node.specs.Cores.{Node}
use Rattle.sacn_node.specs.Calls.{step}
use Rattle.sacn_edge.specs.NodeText.{call_at, node_after}
use Rattle.sacn_gateway.specs.declared.backlog.Backlog.{Backlog}
use Rattle.sacn_machine.specs.Hearings.{Hearing, Came, ends_with_datagram}
use Rattle.sacn_gateway.specs.GatewayTurns.{turns_of, heard_of, backlog_after, backlog_with}
use Rattle.sacn_gateway.specs.GatewayRun.{latest_reading, first_reading, has_ended}
use Rattle.sacn_machine.specs.declared.limits.TheConstants.{MAX_BURST}
use Rattle.sacn_gateway.specs.declared.limits.TheConstants.{TURN_SPAN}

-- one hearing more
pub node_more : (senders : List (List ℕ)) (start waits : Backlog) (now : ℕ) (came : Came) (hs : List Hearing) (first old new : Node)
    → waits ≡ backlog_after start hs → old ≡ node_after first (turns_of senders start hs)
    → new ≡ step (call_at now (heard_of senders waits now came)) old
    → new ≡ node_after first (turns_of senders start (record { now = now; came = came } ∷ hs))
node_more senders start waits now came hs first old new at was is =
    is ∙ ap (λ e. step (call_at now (heard_of senders e now came)) old) at
    ∙ ap (step (call_at now (heard_of senders (backlog_after start hs) now came))) was

pub backlog_more : (start waits : Backlog) (now : ℕ) (new : Backlog) (came : Came) (hs : List Hearing) → waits ≡ backlog_after start hs → new ≡ backlog_with waits now came
    → new ≡ backlog_after start (record { now = now; came = came } ∷ hs)
backlog_more start waits now new came hs at is = is ∙ ap (λ e. backlog_with e now came) at

-- ---- where a turn ends

-- by what is known after a receive: that there was a datagram, and the readings
pub ended_is : (hs : List Hearing) (more : Bool) (now first : ℕ) → ends_with_datagram hs ≡ more → now ≡ latest_reading hs → first ≡ first_reading hs
    → has_ended hs ≡ ((not more || not (nat_lt (now - first) TURN_SPAN)) || (length hs == MAX_BURST))
ended_is hs more now first ends at from =
    sym (
    ap (λ b. (not b || not (nat_lt (now - first) TURN_SPAN)) || (length hs == MAX_BURST)) (sym ends)
    ∙ ap (λ k. (not (ends_with_datagram hs) || not (nat_lt (k - first) TURN_SPAN)) || (length hs == MAX_BURST)) at
    ∙ ap (λ k. (not (ends_with_datagram hs) || not (nat_lt (latest_reading hs - k) TURN_SPAN)) || (length hs == MAX_BURST)) from
    )

pub ended_over : (is over : Bool) (hs : List Hearing) → has_ended hs ≡ (is || (length hs == MAX_BURST)) → over ≡ is → over ≡ true → has_ended hs ≡ true
ended_over is over hs ended same ends = ended ∙ ap (λ b. b || (length hs == MAX_BURST)) (sym same ∙ ends)

pub goes_on : (is over : Bool) (hs : List Hearing) → has_ended hs ≡ (is || (length hs == MAX_BURST)) → over ≡ is → over ≡ false → length hs < MAX_BURST → has_ended hs ≡ false
goes_on is over hs ended same ends few =
    ended ∙ ap (λ b. b || (length hs == MAX_BURST)) (sym same ∙ ends) ∙ ne_eqb (length hs) MAX_BURST (λ full. omega (arith, few, full))

pub ended_full : (is : Bool) (hs : List Hearing) → has_ended hs ≡ (is || (length hs == MAX_BURST)) → length hs ≡ MAX_BURST → has_ended hs ≡ true
ended_full is hs ended full = ended ∙ ap (λ b. is || b) (eq-eqb (length hs) MAX_BURST full) ∙ or_true is
  where
    or_true : (b : Bool) → (b || true) ≡ true
    or_true true = refl
    or_true false = refl

-- a node keeps its ports
pub ports_kept : (senders : List (List ℕ)) (start : Backlog) (hs : List Hearing) (first new : Node) → new ≡ node_after first (turns_of senders start hs) → new.ports ≡ first.ports
ports_kept senders start hs first new is = ap (λ (n : Node). n.ports) is ∙ kept hs
  where
    kept : (hs : List Hearing) → (node_after first (turns_of senders start hs)).ports ≡ first.ports
    kept [] = refl
    kept (h ∷ hs) = kept hs

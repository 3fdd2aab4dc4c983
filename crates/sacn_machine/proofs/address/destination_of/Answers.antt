use Rattle.std.proofs.Common.{◌∙◌, inl, inr, sym, subst}
use Rattle.std.specs.Net.Socket.{v4_ip}
use Rattle.std.specs.Net.Grammar.{IsSocketV4Text}
use Rattle.sacn_machine.proofs.address.destination_of.Goals as goal

pub returns-then-port-eq0 : goal.returns-then-port-eq0
returns-then-port-eq0 c =
    inr (
      c.in-Ok.destination,
      inr (subst (λ t. IsSocketV4Text t c.in-Ok.destination) c.as_bytes.ensures.value c.in-Ok.ensures),
      sym c.port.ensures ∙ c.if-port-eq0.true,
    )

pub returns-then-has_port : goal.returns-then-has_port
returns-then-has_port c = inl (λ a spelled. elim spelled as (λ _. ⊥) [
  | inl alone ↦ c.in-Err-host_of.ensures.reads (v4_ip a) alone.0
  | inr full ↦ c.in-Err.ensures a (subst (λ t. IsSocketV4Text t a) (sym c.as_bytes.ensures.value) full)
])

pub returns-else-has_port : goal.returns-else-has_port
returns-else-has_port c = inl (λ a spelled. elim spelled as (λ _. ⊥) [
  | inl alone ↦ c.in-Err-host_of.ensures.reads (v4_ip a) alone.0
  | inr full ↦ c.in-Err.ensures a (subst (λ t. IsSocketV4Text t a) (sym c.as_bytes.ensures.value) full)
])

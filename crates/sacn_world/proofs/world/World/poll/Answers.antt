use Rattle.std.proofs.Common.{rules, refl, sym, ap, subst, ◌∙◌, ◌++◌, ◌∷◌, [], arith, inl, inr}
use Rattle.std.proofs.lemmas.Option.{slice_get_read}
use Rattle.sacn_world.specs.declared.console.Console.{Console}
use Rattle.sacn_world.specs.declared.datagram.SentDatagram.{SentDatagram}
use Rattle.sacn_world.specs.Invariants.{seen_world}
use Rattle.sacn_world.specs.Wire.{AreFiled}
use Rattle.sacn_world.proofs.Keeping.{no_console_poll, there_is}
use Rattle.sacn_world.proofs.Filing.{are_filed}
use Rattle.sacn_world.proofs.Posting.{poll_is, idle_done, idle_as, none_due, due_fits, posted_done, done_as}
use Rattle.sacn_world.proofs.world.World.poll.Goals as goal

pub returns-then-console-len : goal.returns-then-console-len
returns-then-console-len c =
    let s = c.self.inside in
    (inl (no_console_poll s.consoles.items s.sent.items s.nodes.items c.self.invariant c.args.self.now c.self.view_is c.args.console c.args.now (omega arith)), refl)

pub returns-in_default : goal.returns-in_default
returns-in_default c =
    let s = c.self.inside in
    let y = there_is s.consoles.items c.args.console (omega arith) in
    (inr (refl, poll_is s.consoles.items s.sent.items s.nodes.items c.self.invariant c.args.self.now c.self.view_is c.args.console c.args.now y.0 y.1), refl)

pub returns-in_default-reserve : goal.returns-in_default-reserve
returns-in_default-reserve c =
    let s = c.self.inside in
    let y = there_is s.consoles.items c.args.console (omega arith) in (
      inr (refl, poll_is s.consoles.items s.sent.items s.nodes.items c.self.invariant c.args.self.now c.self.view_is c.args.console c.args.now y.0 y.1),
      ap (λ fs. seen_world s.consoles.items fs s.nodes.items) c.in_default-reserve.ensures.items ∙ c.self.view_is,
    )

pub invariant_of-self-in_default-poll_with_universe : goal.invariant_of-self-in_default-poll_with_universe
invariant_of-self-in_default-poll_with_universe c =
    let s = c.self.inside in
    let y : Console = c.index_mut.result.now in
    let ey = slice_get_read s.consoles.items s.consoles.len c.args.console y (search rules) (omega arith) c.index_mut.ensures.value in
    let none = none_due _ (sym c.in_default-poll_with_universe.ensures.answer) in
    (idle_as (idle_done s.consoles.items s.sent.items s.nodes.items c.self.invariant c.args.self.now c.self.view_is c.args.console c.args.now y ey none c.poll_with_universe.new.self c.in_default-poll_with_universe.ensures.core) (sym c.in-Ok-reserve.ensures.items)).kept

pub returns-in_default-poll_with_universe : goal.returns-in_default-poll_with_universe
returns-in_default-poll_with_universe c =
    let s = c.self.inside in
    let y : Console = c.index_mut.result.now in
    let ey = slice_get_read s.consoles.items s.consoles.len c.args.console y (search rules) (omega arith) c.index_mut.ensures.value in
    let none = none_due _ (sym c.in_default-poll_with_universe.ensures.answer) in
    (idle_as (idle_done s.consoles.items s.sent.items s.nodes.items c.self.invariant c.args.self.now c.self.view_is c.args.console c.args.now y ey none c.poll_with_universe.new.self c.in_default-poll_with_universe.ensures.core) (sym c.in-Ok-reserve.ensures.items)).step

pub in_own_length-octets-requires-clause-len : goal.in_own_length-octets-requires-clause-len
in_own_length-octets-requires-clause-len c =
    due_fits c.index_mut.result.now.core.sender _ c.in-Some.given (sym c.in-Some.ensures.answer) c.in-Some.ensures.lawful

pub invariant_of-self-2 : goal.invariant_of-self-2
invariant_of-self-2 c =
    let s = c.self.inside in
    let y : Console = c.index_mut.result.now in
    let ey = slice_get_read s.consoles.items s.consoles.len c.args.console y (search rules) (omega arith) c.index_mut.ensures.value in
    let z : Console = c.index.result.now in
    let ez = slice_get_read _ s.consoles.len c.args.console z (search rules) (omega arith) c.index.ensures in
    let f : SentDatagram = c.sent_datagram-datagram.result in
    let ef = c.sent_datagram-datagram.ensures ∙ ap (λ fs. Rattle.sacn_world.specs.Wire.sent_datagram z fs c.in-Some.given.universe c.in_own_length-octets.result) (c.as_slice.ensures.value ∙ c.in-Ok-reserve.ensures.items) in
    let d = posted_done c.written_is_read.ensures c.written_page_is_read.ensures s.consoles.items s.sent.items s.nodes.items c.self.invariant c.args.self.now c.self.view_is c.args.console c.args.now y ey c.in-Some.given c.poll_with_universe.new.out _ c.poll_with_universe.new.self z c.in_own_length-octets.result f (sym c.in-Some.ensures.answer) c.in-Some.ensures.octets c.in-Some.ensures.lawful (omega arith) refl c.in-Some.ensures.core c.in_own_length-octets.ensures ez ef in
    (done_as d (sym (c.push_reserved.ensures.items ∙ ap (λ fs. fs ++ f ∷ []) c.in-Ok-reserve.ensures.items)) refl).kept

pub returns : goal.returns
returns c =
    let s = c.self.inside in
    let y : Console = c.index_mut.result.now in
    let ey = slice_get_read s.consoles.items s.consoles.len c.args.console y (search rules) (omega arith) c.index_mut.ensures.value in
    let z : Console = c.index.result.now in
    let ez = slice_get_read _ s.consoles.len c.args.console z (search rules) (omega arith) c.index.ensures in
    let f : SentDatagram = c.sent_datagram-datagram.result in
    let ef = c.sent_datagram-datagram.ensures ∙ ap (λ fs. Rattle.sacn_world.specs.Wire.sent_datagram z fs c.in-Some.given.universe c.in_own_length-octets.result) (c.as_slice.ensures.value ∙ c.in-Ok-reserve.ensures.items) in
    let d = posted_done c.written_is_read.ensures c.written_page_is_read.ensures s.consoles.items s.sent.items s.nodes.items c.self.invariant c.args.self.now c.self.view_is c.args.console c.args.now y ey c.in-Some.given c.poll_with_universe.new.out _ c.poll_with_universe.new.self z c.in_own_length-octets.result f (sym c.in-Some.ensures.answer) c.in-Some.ensures.octets c.in-Some.ensures.lawful (omega arith) refl c.in-Some.ensures.core c.in_own_length-octets.ensures ez ef in
    (done_as d (sym (c.push_reserved.ensures.items ∙ ap (λ fs. fs ++ f ∷ []) c.in-Ok-reserve.ensures.items)) (omega (arith, c.len-place.ensures, c.in-Ok-reserve.ensures.len))).step

pub sent_datagram-datagram-requires : goal.sent_datagram-datagram-requires
sent_datagram-datagram-requires c =
    let s = c.self.inside in
    record { filed = subst AreFiled (sym (c.as_slice.ensures.value ∙ c.in-Ok-reserve.ensures.items)) (are_filed s.consoles.items s.sent.items s.nodes.items c.self.invariant) }

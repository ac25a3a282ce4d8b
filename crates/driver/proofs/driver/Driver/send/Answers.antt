-- The frame's slot, `next_transmit`, is the slot after the outstanding slots.
use Rattle.std.proofs.Common.{◌≡◌, ◌+◌, ◌%◌, ℕ, length, true, sym, ap, subst, ◌∙◌, arith}
use Rattle.adapter.proofs.Keeping.{keeps-on}
use Rattle.adapter.proofs.TransmitRuns.{run-sends}
use Rattle.adapter.specs.DriverState.{DriverState, holding, transmit_slot, transmit_tail}
use Rattle.adapter.specs.Calls.{Ran, at, transmit_buffer, whole_descriptor}
use Rattle.driver.proofs.SentFrames.{next-slot, sending-more}
use Rattle.driver.specs.SendSteps.{sent_now}
use Rattle.driver.specs.InsideDriver.{IsSending}
use Rattle.driver.proofs.driver.Driver.send.Goals as goal

pub transmit_buffer-buffer-requires : goal.transmit_buffer-buffer-requires
transmit_buffer-buffer-requires g c = let s =
    c.self.inside in next-slot s.layout s.oldest_transmit s.next_transmit s.sending c.self.invariant.sends

pub descriptor_address-requires : goal.descriptor_address-requires
descriptor_address-requires g c = let s =
    c.self.inside in next-slot s.layout s.oldest_transmit s.next_transmit s.sending c.self.invariant.sends

pub invariant_of-self : goal.invariant_of-self
invariant_of-self g c =
    let s = c.self.inside in
    let count = ap (λ (d : DriverState). d.layout.tx) c.self.view_is in
    let sending = ap (λ (d : DriverState). d.sending) c.self.view_is in
    record {
      receives = c.self.invariant.receives;
      resets = c.self.invariant.resets;
      sums = c.self.invariant.sums;
      sends =
          subst (λ (n : ℕ). IsSending s.layout s.oldest_transmit ((s.next_transmit + 1) % n) (s.sending + 1)) (sym c.tx.ensures.count)
          (sending-more s.layout s.oldest_transmit s.next_transmit s.sending
          (omega (arith, c.requires.room, count, sending)) c.self.invariant.sends);
    }

pub returns-clause-sends : goal.returns-clause-sends
returns-clause-sends g c held is =
    let s = c.self.inside in
    let d = holding held c.args.self.now in
    let frame = c.args.frame.now in
    let next = c.self.invariant.sends.next_slot in
    let first = c.store.ensures.keeps.honest is.honest in
    let second = c.store-2.ensures.keeps.honest first in
    let buffer : c.transmit_buffer-buffer.result ≡ transmit_buffer d.layout (transmit_tail d) =
    c.transmit_buffer-buffer.ensures.start ∙ ap (transmit_buffer s.layout) next
    ∙ ap (λ (state : DriverState). transmit_buffer state.layout (transmit_tail state)) c.self.view_is in
    let slot : c.descriptor_address.result ≡ transmit_slot d.layout (transmit_tail d) =
    c.descriptor_address.ensures.start ∙ ap (transmit_slot s.layout) next
    ∙ ap (λ (state : DriverState). transmit_slot state.layout (transmit_tail state)) c.self.view_is in
    let bytes : c.whole_descriptor-descriptor.result ≡ whole_descriptor (transmit_buffer d.layout (transmit_tail d)) (length frame) =
    c.whole_descriptor-descriptor.ensures ∙ ap (λ (address : ℕ). whole_descriptor address (length frame)) buffer in
    let tail : c.from.result ≡ (transmit_tail d + 1) % d.layout.tx =
    c.from.ensures ∙ ap (λ (n : ℕ). (s.next_transmit + 1) % n) c.tx.ensures.count ∙ ap (λ (place : ℕ). (place + 1) % s.layout.tx) next
    ∙ ap (λ (state : DriverState). (transmit_tail state + 1) % state.layout.tx) c.self.view_is in
    let ran =
    run-sends g.B.Bus g.met.B.Bus.composes.joins c.args.bus.now c.store.new.self c.store-2.new.self
    c.write.new.self d frame c.requires.room c.requires.least c.requires.most
    c.transmit_buffer-buffer.result c.descriptor_address.result c.from.result c.whole_descriptor-descriptor.result buffer slot bytes tail
    (c.store.ensures.acts is.honest) (c.store-2.ensures.acts first) (c.write.ensures.acts second) is.ready in
    let sent = ap (λ (state : DriverState). let more : DriverState = record (holding held state) { sending = state.sending + 1 } in more)
    (sym c.self.view_is) in
    subst (λ (state : DriverState). Ran g.B.Bus true (sent_now d frame) (at c.args.bus.now d) (at c.write.new.self state)) sent ran

pub returns-clause-keeps : goal.returns-clause-keeps
returns-clause-keeps g c =
    let on = keeps-on g.B.Bus g.met.B.Bus.composes.lent_stays_on c.args.bus.now in
    on c.store-2.new.self c.write.new.self (on c.store.new.self c.store-2.new.self c.store.ensures.keeps c.store-2.ensures.keeps)
    c.write.ensures.keeps

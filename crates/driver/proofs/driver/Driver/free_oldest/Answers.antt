-- The oldest transmit slot is freed if the load of its descriptor shows DD.
use Rattle.std.proofs.Common.{◌≡◌, ◌<◌, ◌+◌, ◌-◌, ◌%◌, ℕ, sym, ap, subst, ◌∙◌, arith}
use Rattle.adapter.proofs.OfferedAndFreedSlots.{none_is_written_back}
use Rattle.std.proofs.Common.{inl, min, true}
use Rattle.adapter.specs.DriverState.{DriverState, holding, transmit_slot}
use Rattle.adapter.specs.Calls.{Ran, at, only}
use Rattle.adapter.specs.TransmitSteps.{with_freed}
use Rattle.driver.proofs.FreedSlots.{frees-none, frees-oldest, sending-freed, waits-oldest}
use Rattle.driver.specs.SendSteps.{oldest_loads}
use Rattle.driver.specs.InsideDriver.{IsSending, driver_state_of}
use Rattle.driver.proofs.driver.Driver.free_oldest.Given.{Over}
use Rattle.driver.proofs.driver.Driver.free_oldest.Goals.{After-shows_done}
use Rattle.driver.proofs.driver.Driver.free_oldest.Goals as goal

pub returns-then-self-eq0-clause-looks : goal.returns-then-self-eq0-clause-looks
returns-then-self-eq0-clause-looks g c held is =
    let d = holding held c.args.self.now in
    let none : d.sending ≡ 0 = sym (ap (λ (s : DriverState). s.sending) c.self.view_is) ∙ c.if-self-eq0.true in
    record {
      ran = frees-none g.B.Bus g.met.B.Bus.composes.stays c.args.bus.now d none is.ready;
      none = none_is_written_back d (g.B.Bus.world c.args.bus.now) is.ready (inl none);
    }

-- The load is that of the oldest slot's descriptor.
slot : (g : Over) (c : After-shows_done g)
    → c.descriptor_address.result ≡ transmit_slot c.args.self.now.layout c.args.self.now.oldest_transmit
slot g c = c.descriptor_address.ensures.start ∙ ap (λ (s : DriverState). transmit_slot s.layout s.oldest_transmit) c.self.view_is

some : (g : Over) (c : After-shows_done g) → 0 < c.args.self.now.sending
some g c = omega (arith, ap (λ (s : DriverState). s.sending) c.self.view_is, c.if-self-eq0.false)

pub returns-then-not-shows_done-clause-looks : goal.returns-then-not-shows_done-clause-looks
returns-then-not-shows_done-clause-looks g c held is =
    let there = (goal.at.returns-then-not-shows_done-clause-looks g c).After-shows_done in
    let waits = waits-oldest g.B.Bus c.args.bus.now c.load.new.self (holding held c.args.self.now) c.descriptor_address.result
    c.load.new.into (slot g there) (some g there) (sym c.shows_done.ensures ∙ c.if-not-shows_done.true) (c.load.ensures.acts is.honest)
    is.ready in
    record { ran = waits.ran; none = waits.behind }

pub invariant_of-self : goal.invariant_of-self
invariant_of-self g c =
    let s = c.self.inside in
    record {
      receives = c.self.invariant.receives;
      resets = c.self.invariant.resets;
      sums = c.self.invariant.sums;
      sends =
          subst (λ (n : ℕ). IsSending s.layout ((s.oldest_transmit + 1) % n) s.next_transmit (s.sending - 1)) (sym c.tx.ensures.count)
          (sending-freed s.layout s.oldest_transmit s.next_transmit s.sending (omega (arith, c.if-self-eq0.false)) c.self.invariant.sends);
    }

pub returns-clause-looks : goal.returns-clause-looks
returns-clause-looks g c held is =
    let d = holding held c.args.self.now in
    let s = c.self.inside in
    let there = (goal.at.returns-clause-looks g c).After-shows_done in
    let ran = frees-oldest g.B.Bus c.args.bus.now c.load.new.self d c.descriptor_address.result c.load.new.into (slot g there)
    (some g there) (sym c.shows_done.ensures ∙ c.if-not-shows_done.false) (c.load.ensures.acts is.honest) is.ready in
    let freed = sym (ap (λ (state : DriverState). with_freed (holding held state)) c.self.view_is)
    ∙ ap (λ (n : ℕ). let state : DriverState = record (holding held (driver_state_of s))
    { oldest_transmit = (s.oldest_transmit + 1) % n; sending = s.sending - 1 } in state) (sym c.tx.ensures.count) in
    record {
      ran = subst (λ (state : DriverState). Ran g.B.Bus true (only (oldest_loads d (min d.sending 1))) (at c.args.bus.now d)
          (at c.load.new.self state)) freed ran;
      none = tt;
    }

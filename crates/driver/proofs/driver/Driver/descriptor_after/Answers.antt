use Rattle.std.proofs.Common.{◌≡◌, ◌%◌, ◌+◌, ◌*◌, ℕ, ap, subst, sym, ◌∙◌, arith}
use Rattle.descriptors.specs.declared.rx_desc.RxDesc.{RxDesc}
use Rattle.adapter.proofs.ReceiveAccesses.{ran_by-looks}
use Rattle.adapter.specs.Calls.{at}
use Rattle.adapter.specs.DriverState.{holding, receive_slot}
use Rattle.adapter.specs.OldestSlot.{LooksAtSlot, slot_after_oldest}
use Rattle.driver.specs.InsideDriver.{driver_state_of}
use Rattle.driver.proofs.BufferQueue.{queue-split}
use Rattle.adapter.proofs.Places.{place-sum}
use Rattle.driver.proofs.driver.Driver.descriptor_after.Goals as goal

pub overflow_add-slot : goal.overflow_add-slot
overflow_add-slot g c =
    let below = rw (← c.self.view_is) at c.requires.outstanding in
    let receives = c.self.invariant.receives in
    omega (
      arith,
      below,
      (queue-split c.self.inside receives).outstanding,
      receives.room,
      receives.oldest_slot,
      c.rx.ensures.allowed.most,
      c.from.ensures,
    )

pub returns-clause-looks : goal.returns-clause-looks
returns-clause-looks g c = rw (← c.self.view_is) (λ up held is.
    let d = holding held (driver_state_of c.self.inside) in
    let old = c.args.bus.now in
    let new = c.load.new.self in
    let below = rw (← c.self.view_is) at c.requires.outstanding in
    let at_slot : c.receive_slot.result ≡ receive_slot (slot_after_oldest d c.args.places) =
    c.receive_slot.ensures
    ∙ ap (λ (n : ℕ). 16 * ((c.from.result + c.args.places) % n)) (c.from-count.ensures ∙ c.rx.ensures.count)
    ∙ ap (λ (oldest : ℕ). 16 * ((oldest + c.args.places) % d.layout.rx)) c.from.ensures
    ∙ ap (λ (slot : ℕ). 16 * slot) (sym (place-sum d.layout.rx d.oldest_receive c.args.places c.self.invariant.receives.oldest_slot)) in
    subst (λ (desc : RxDesc). LooksAtSlot g.B.Bus up c.args.places desc (at old d) new) (sym c.from_bytes.ensures)
    (ran_by-looks g.B.Bus old new d c.args.places c.receive_slot.result c.load.new.into below at_slot
    (c.load.ensures.acts is.honest) is.ready))

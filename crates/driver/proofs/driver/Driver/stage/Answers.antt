use Rattle.std.proofs.Common.{◌≡◌, ◌<◌, ◌+◌, ◌*◌, ◌%◌, ◌∷◌, [], ℕ, length, sym, refl, inl, inr, ap, subst, ◌∙◌, arith}
use Rattle.adapter.proofs.Keeping.{keeps-here}
use Rattle.dma_memory.specs.Layout.{ReceiveRing}
use Rattle.dma_memory.specs.LayoutLaws.{place-below_size}
use Rattle.dma_memory.specs.Numbers.{Numbers}
use Rattle.descriptors.specs.Laws.{length-rx_desc_bytes}
use Rattle.adapter.proofs.ReceiveAccesses.{ran_by-stages}
use Rattle.adapter.specs.Calls.{Ran, at, only, stores_from}
use Rattle.adapter.specs.DriverState.{DriverState, buffer_at, holding, next_receive}
use Rattle.adapter.specs.ReadyDrivers.{empty_descriptor}
use Rattle.driver.specs.InsideDriver.{IsConsistentDriver, driver_state_of}
use Rattle.driver.specs.declared.driver.Driver.TheInside.{Inside}
use Rattle.driver.proofs.BufferQueue.{queue-split, room-inside, slots-inside, staged-inside}
use Rattle.driver.proofs.driver.Driver.stage.Goals as goal

pub store-requires : goal.store-requires
store-requires g c =
    let d = c.self.inside in
    let long : length c.to_bytes.result ≡ 16 = ap length c.to_bytes.ensures ∙ length-rx_desc_bytes _ in
    let ends = place-below_size d.layout ReceiveRing tt in
    let memory = rw (← c.self.view_is) at c.requires.memory in
    let split = queue-split d c.self.invariant.receives in
    omega (arith, memory, c.receive_slot.ensures, long, ends, split.next_slot)

pub overflow_add-self : goal.overflow_add-self
overflow_add-self g c =
    let split = queue-split c.self.inside c.self.invariant.receives in
    omega (arith, split.next_slot, c.rx-count.ensures.count, c.rx-count.ensures.allowed.most)

pub invariant_of-self-2 : goal.invariant_of-self-2
invariant_of-self-2 g c =
    let d = c.self.inside in
    let receives = c.self.invariant.receives in
    let room : length d.buffers.items + 1 < d.layout.rx = omega
    (arith, receives.room, c.if-len-from.false, c.len.ensures.len, c.from.ensures, c.rx-count.ensures.count) in
    let moved : (d.next_receive + 1) % c.rx-count.result
    ≡ (d.next_receive + 1) % d.layout.rx = ap (λ (n : ℕ). (d.next_receive + 1) % n) c.rx-count.ensures.count in
    record {
      receives = (staged-inside d _ c.in-Some.buffer c.push_back.new.self c.take.new.self receives room moved c.push_back.ensures.items
          c.take.ensures.buffers c.in-Some.ensures.taken).receives;
      sends = c.self.invariant.sends;
      resets = c.self.invariant.resets;
      sums = c.self.invariant.sums;
    }

pub returns-clause-stages : goal.returns-clause-stages
returns-clause-stages g c =
    let d = c.self.inside in
    let m = c.in-Some.buffer in
    let old = c.args.bus.now in
    let new = c.store.new.self in
    let receives = c.self.invariant.receives in
    let split = queue-split d receives in
    let room : length d.buffers.items + 1 < d.layout.rx = omega
    (arith, receives.room, c.if-len-from.false, c.len.ensures.len, c.from.ensures, c.rx-count.ensures.count) in
    let moved : (d.next_receive + 1) % c.rx-count.result
    ≡ (d.next_receive + 1) % d.layout.rx = ap (λ (n : ℕ). (d.next_receive + 1) % n) c.rx-count.ensures.count in
    let staged = staged-inside d _ m c.push_back.new.self c.take.new.self receives room moved c.push_back.ensures.items
    c.take.ensures.buffers c.in-Some.ensures.taken in
    let bytes : c.to_bytes.result ≡ empty_descriptor (buffer_at d.layout m) =
    c.to_bytes.ensures ∙ c.descriptor_of-descriptor.ensures
    ∙ ap empty_descriptor (c.receive_buffer.ensures.start ∙ ap (buffer_at d.layout) c.number.ensures) in
    let slot_is : c.receive_slot.result ≡ 16 * next_receive (driver_state_of d) = c.receive_slot.ensures
    ∙ ap (λ (slot : ℕ). 16 * slot) split.next in
    let fits : length (driver_state_of d).buffers + length (driver_state_of d).staged + 1 < d.layout.rx = omega
    (arith, room, split.outstanding, split.staged) in
    rw (← c.self.view_is) (
      m,
      record {
        others = staged.view;
        pool = c.in-Some.ensures.taken;
        ran = λ up held is.
            subst (λ (s : DriverState). Ran g.B.Bus up (only (stores_from d.layout (next_receive (driver_state_of d)) (m ∷ [])))
            (at old (holding held (driver_state_of d))) (at new (holding held s))) (sym staged.view)
            (ran_by-stages g.B.Bus old new
            (holding held (driver_state_of d)) m c.receive_slot.result c.take.new.self.free c.to_bytes.result fits
            (omega (arith, c.in-Some.ensures.known, receives.buffers)) c.in-Some.ensures.taken slot_is bytes
            (c.store.ensures.acts is.honest) is.ready);
      },
    )

pub returns-then-len-from : goal.returns-then-len-from
returns-then-len-from g c =
    let d = c.args.self.now in
    let slots = slots-inside c.self.inside d c.self.invariant.receives c.self.view_is in
    let rx = ap (λ (s : DriverState). s.layout.rx) c.self.view_is in
    record {
      keeps = keeps-here g.B.Bus g.met.B.Bus.composes.lent_stays_here c.args.bus.now;
      stages = tt;
      room = room-inside c.self.inside d c.self.invariant.receives c.self.view_is;
      stays = refl;
      still = refl;
      full = inr (omega (arith, slots, rx, c.if-len-from.true, c.len.ensures.len, c.from.ensures, c.rx-count.ensures.count));
    }

pub invariant_of-self : goal.invariant_of-self
invariant_of-self g c =
    subst (λ (pool : Numbers). IsConsistentDriver (record c.self.inside { pool = pool })) (sym c.in_default.ensures.stays) c.self.invariant

pub returns-in_default : goal.returns-in_default
returns-in_default g c =
    let with_pool : Numbers → Inside = λ pool. record c.self.inside { pool = pool } in
    let is = c.in_default.ensures in
    record {
      keeps = keeps-here g.B.Bus g.met.B.Bus.composes.lent_stays_here c.args.bus.now;
      stages = tt;
      room = room-inside (with_pool c.take.new.self) (driver_state_of (with_pool c.take.new.self)) (invariant_of-self g c).receives refl;
      stays = ap (λ (pool : Numbers). driver_state_of (with_pool pool)) is.stays ∙ c.self.view_is;
      still = refl;
      full = inl (ap (λ (pool : Numbers). pool.free) is.stays ∙ is.none.0 refl);
    }

pub returns-clause-room : goal.returns-clause-room
returns-clause-room g c =
    let after : Inside = record c.self.inside {
      next_receive = (c.self.inside.next_receive + 1) % c.rx-count.result;
      buffers = c.push_back.new.self;
      staged = c.self.inside.staged + 1;
      pool = c.take.new.self;
    } in
    room-inside after (driver_state_of after) (invariant_of-self-2 g c).receives refl

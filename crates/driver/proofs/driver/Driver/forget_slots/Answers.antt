use Rattle.std.proofs.Common.{◌++◌, ℕ, List, length, refl, sym, ap, subst, ◌∙◌, arith}
use Rattle.dma_memory.specs.Owners.{copies}
use Rattle.dma_memory.specs.OwnersLaws.{copies-append}
use Rattle.descriptors.specs.RingLaws.{place}
use Rattle.driver.proofs.BufferQueue.{queue-split}
use Rattle.driver.proofs.driver.Driver.forget_slots.Goals as goal

pub give_buffers-requires : goal.give_buffers-requires
give_buffers-requires c =
    subst (λ (n : ℕ). Rattle.dma_memory.specs.Owners.HasNoSecondOwner n (c.self.inside.pool.free ++ c.self.inside.buffers.items))
    (sym c.self.invariant.receives.buffers) c.self.invariant.receives.owners

pub invariant_of-self : goal.invariant_of-self
invariant_of-self c =
    let d = c.self.inside in
    let receives = c.self.invariant.receives in
    let sends = c.self.invariant.sends in
    let none = c.give_buffers.ensures.none in
    let items = c.give_buffers.new.buffers.items in
    record {
      receives = record {
        oldest_slot = omega (arith, receives.oldest_slot);
        room = omega (arith, ap length none, receives.oldest_slot);
        next_slot = sym (ap (λ (list : List ℕ). place d.layout.rx 0 (length list)) none);
        capacity = c.give_buffers.ensures.capacity ∙ receives.capacity;
        some_staged = omega arith;
        buffers = c.give_buffers.ensures.buffers ∙ receives.buffers;
        owners = λ k.
            let given = c.give_buffers.ensures.given k in
            let once = receives.owners k in
            let empty = ap (copies k) none in
            let sum = copies-append k c.give_buffers.new.pool.free items in
            omega (arith, given, once, empty, sum);
      };
      sends = record {
        oldest_slot = omega (arith, sends.oldest_slot);
        room = omega (arith, sends.oldest_slot);
        next_slot = refl;
      };
      resets = c.self.invariant.resets;
      sums = c.self.invariant.sums;
    }

pub returns-clause-pool : goal.returns-clause-pool
returns-clause-pool c = rw (← c.self.view_is) (λ k.
    ap (λ (queue : List ℕ). copies k (c.self.inside.pool.free ++ queue)) (queue-split c.self.inside c.self.invariant.receives).whole
    ∙ c.give_buffers.ensures.given k)

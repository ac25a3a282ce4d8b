use Rattle.std.proofs.Common.{◌≡◌, ◌+◌, ◌%◌, ◌++◌, ℕ, List, length, length-take, take, drop, sym, ap, subst, ◌∙◌, arith}
use Rattle.circular_buffer.specs.Buffer.{buffer}
use Rattle.dma_memory.specs.Owners.{HasNoSecondOwner}
use Rattle.adapter.specs.DriverState.{DriverState, owners}
use Rattle.driver.specs.InsideDriver.{driver_state_of}
use Rattle.driver.specs.Parts.{buffers_in}
use Rattle.driver.proofs.TakenBuffers.{HasTaken, taken-inside, with_queue}
use Rattle.driver.proofs.driver.Driver.take_run.Goals as goal

count : (c : goal.After-self-1) → length (take c.args.run.now.count c.args.run.now.lengths) ≡ c.args.run.now.count
count c = omega (arith, length-take c.args.run.now.count c.args.run.now.lengths, c.requires.size, c.requires.few)

-- the place of the oldest slot after the run left the ring
abbrev next : goal.After-self-1 → ℕ
next c = (c.self.inside.oldest_receive + c.args.run.now.count) % c.rx.result

-- the buffers of the slots that remain outstanding
abbrev others : goal.After-self-1 → List ℕ
others c = (driver_state_of (with_queue c.self.inside (next c) c.take_parts-parts.new.queue)).buffers

taken : (c : goal.After-self-1) → HasTaken c.self.inside (next c) c.args.run.now.count c.take_parts-parts.new.queue
taken c =
    let d = c.self.inside in
    let n = c.args.run.now.count in
    taken-inside d _ n c.take_parts-parts.new.queue c.self.invariant.receives
    (omega (arith, c.requires.enough, ap (λ (s : DriverState). length s.buffers) c.self.view_is))
    (ap (λ (k : ℕ). (d.oldest_receive + n) % k) c.rx.ensures.count)
    (c.take_parts-parts.ensures.left ∙ ap (λ (k : ℕ). buffer (drop k d.buffers.items) d.buffers.capacity) (count c))

first : (c : goal.After-self-1) → buffers_in c.take_parts-parts.result ≡ take c.args.run.now.count c.self.inside.buffers.items
first c = c.take_parts-parts.ensures.buffers ∙ ap (λ (k : ℕ). take k c.self.inside.buffers.items) (count c)

pub invariant_of-self : goal.invariant_of-self
invariant_of-self c = record {
  receives = (taken c).receives;
  sends = c.self.invariant.sends;
  resets = c.self.invariant.resets;
  sums = c.self.invariant.sums;
}

pub returns-clause-leaves : goal.returns-clause-leaves
returns-clause-leaves c = rw (← c.self.view_is) (record {
  first = (taken c).first ∙ ap (λ (list : List ℕ). list ++ others c) (sym (first c));
  lengths = c.take_parts-parts.ensures.lengths;
  others = (taken c).view;
})

pub returns-clause-one_owner : goal.returns-clause-one_owner
returns-clause-one_owner c =
    subst (λ (list : List ℕ). HasNoSecondOwner c.self.inside.layout.buffers (list ++ owners (driver_state_of
    (with_queue c.self.inside (next c) c.take_parts-parts.new.queue))))
    (sym (first c)) (taken c).one_owner

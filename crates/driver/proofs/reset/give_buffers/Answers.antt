use Rattle.std.proofs.Common.{◌++◌, ℕ, List, drop, length, refl, sym, ap, subst, ◌∙◌, arith}
use Rattle.dma_memory.specs.Owners.{HasNoSecondOwner, HaveSameNumbers, copies}
use Rattle.dma_memory.specs.OwnersLaws.{copies-append}
use Rattle.circular_buffer.specs.Buffer.{Buffer}
use Rattle.std.proofs.lemmas.List.{append-nil}
use Rattle.driver.proofs.BuffersGiven.{Splits, can-return, front-first, none-left, returned, splits-queue}
use Rattle.driver.proofs.reset.give_buffers.Goals.{In-Some}
use Rattle.driver.proofs.reset.give_buffers.Goals as goal

pub loop-buffer-init : goal.loop-buffer-init
loop-buffer-init c = record { same = λ k. refl; buffers = refl; capacity = refl }

left : (c : In-Some)
    → Splits (c.args.pool.now.free ++ c.args.buffers.now.items) c.in-Some.buffer (drop 1 c.loop-buffer.buffers.items)
    c.loop-buffer.pool.free
left c = splits-queue _ c.loop-buffer.buffers.items _ c.in-Some.ensures.value c.loop-buffer.invariant.same

pub give-requires : goal.give-requires
give-requires c =
    let can = can-return (left (goal.at.give-requires c).In-Some)
    (subst (λ (n : ℕ). HasNoSecondOwner n (c.args.pool.now.free ++ c.args.buffers.now.items)) (sym c.loop-buffer.invariant.buffers)
    c.requires) in
    record { known = can.known; out = can.out }

pub loop-buffer-smaller : goal.loop-buffer-smaller
loop-buffer-smaller c =
    let items = c.loop-buffer.buffers.items in
    let first = ap length (front-first items c.in-Some.buffer c.in-Some.ensures.value) in
    let left = ap (λ (b : Buffer ℕ). length b.items) c.in-Some.ensures.items in
    omega (arith, first, left)

pub loop-buffer-preserved : goal.loop-buffer-preserved
loop-buffer-preserved c =
    let i = c.loop-buffer.invariant in
    let rest = drop 1 c.loop-buffer.buffers.items in
    let free = c.give.new.self.free in
    let given = returned free (left (goal.at.loop-buffer-preserved c).In-Some) c.give.ensures.given in
    record {
      same = subst (λ (b : Buffer ℕ). HaveSameNumbers (c.args.pool.now.free ++ c.args.buffers.now.items) (free ++ b.items))
          (sym c.in-Some.ensures.items) (λ k. omega (arith, given k, copies-append k rest free, copies-append k free rest));
      buffers = c.give.ensures.buffers ∙ i.buffers;
      capacity = ap (λ (b : Buffer ℕ). b.capacity) c.in-Some.ensures.items ∙ i.capacity;
    }

pub returns-clause-given : goal.returns-clause-given
returns-clause-given c k =
    let free = c.loop-buffer.pool.free in
    c.loop-buffer.invariant.same k
    ∙ ap (λ (items : List ℕ). copies k (free ++ items)) (none-left c.loop-buffer.buffers.items c.in_default.ensures.value)
    ∙ ap (copies k) (append-nil free)

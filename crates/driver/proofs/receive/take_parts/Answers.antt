use Rattle.std.proofs.Common.{◌∙◌, ap, arith, length, length-take, refl, sym}
use Rattle.std.proofs.lemmas.List.{length-map}
use Rattle.driver.specs.declared.parts.Part.{Part}
use Rattle.driver.proofs.TakenBuffers.{one-more, some-first}
use Rattle.driver.proofs.receive.take_parts.Goals.{in-Some, in_default}
use Rattle.driver.proofs.receive.take_parts.Goals as goal

pub loop-length-preserved : goal.loop-length-preserved
loop-length-preserved c =
    let l = c.loop-length in
    elim c.match-pop_front.branch [
      | in-Some w ↦
          let more = one-more c.args.queue.now.items c.args.lengths.now l.length-index c.args.queue.now.capacity _ w.in-Some.buffer l.queue
          c.pop_front.new.self l.parts c.match-pop_front.parts c.loop-length-test.true c.requires.enough l.invariant.queue
          c.pop_front.ensures.items (sym w.in-Some.is ∙ c.pop_front.ensures.value) refl l.invariant.buffers l.invariant.lengths
          (w.parts-is ∙ w.push.ensures) in
          record { queue = more.left; buffers = more.buffers; lengths = more.lengths_are }
      | in_default w ↦ absurd (some-first c.args.queue.now.items l.length-index l.queue c.args.queue.now.capacity
          (omega (arith, c.loop-length-test.true, c.requires.enough)) l.invariant.queue
          (sym c.pop_front.ensures.value ∙ w.in_default.is))
    ]

pub push-requires : goal.push-requires
push-requires c =
    let l = c.loop-length in
    omega (
      arith,
      ap length l.invariant.lengths,
      length-map l.parts (λ (part : Part). part.length),
      length-take l.length-index c.args.lengths.now,
      c.loop-length-test.true,
      c.requires.few,
    )

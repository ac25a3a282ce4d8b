use Rattle.std.proofs.Common.{◌≡◌, ◌<◌, ◌≤◌, ◌+◌, ◌-◌, ◌++◌, ◌∙◌}
use Rattle.std.proofs.Common.{rules, ℕ, List, length, sum, take, drop, refl, sym, ap, subst, arith}
use Rattle.std.proofs.lemmas.List.{length-map, take_all}
use Rattle.std.proofs.lemmas.Slice.{drop-put_mid, take-put_mid}
use Rattle.adapter.proofs.Keeping.{keeps-here, keeps-on}
use Rattle.dma_memory.specs.Layout.{receive_buffer_bytes}
use Rattle.adapter.proofs.DriverAccesses.{ran_by-stays}
use Rattle.adapter.specs.Calls.{Ran, at, only}
use Rattle.adapter.specs.DriverState.{buffer_at, frame_of, holding}
use Rattle.driver.specs.Parts.{lengths_in, part_loads, part_of}
use Rattle.driver.specs.declared.parts.Part.{Part}
use Rattle.driver.proofs.ReadFrames.{all-values, bytes-next, copied-long, frame-next}
use Rattle.driver.proofs.ReadFrames.{is-next, part-long, read-fits, reads-next, rest-next}
use Rattle.driver.proofs.driver.Driver.read.Goals as goal

pub loop-part-init : goal.loop-part-init
loop-part-init g c = record {
  few = omega arith;
  read_is = refl;
  room = search rules;
  rest = refl;
  keeps = keeps-here g.B.Bus g.met.B.Bus.composes.lent_stays_here c.args.bus.now;
  ran = λ up held is. ran_by-stays g.B.Bus g.met.B.Bus.composes.stays c.args.bus.now (holding held c.args.self.now) is.ready;
  frame = λ up first pieces later is are. refl;
}

pub overflow_add-end : goal.overflow_add-end
overflow_add-end g c =
    let i = c.loop-part.invariant in
    let next = is-next c.args.received.now.parts c.loop-part.index c.in-Some.part.now c.in-Some.ensures.some c.in-Some.ensures.part in
    omega (
      arith,
      read-fits c.args.received.now c.loop-part.index c.loop-part.read c.from.result c.in-Some.part.now c.requires.whole next
          i.read_is c.from.ensures,
    )

pub receive_buffer-buffer-requires : goal.receive_buffer-buffer-requires
receive_buffer-buffer-requires g c =
    let next = is-next c.args.received.now.parts c.loop-part.index c.in-Some.part.now c.in-Some.ensures.some c.in-Some.ensures.part in
    let known = rw (← c.self.view_is) at c.requires.known in
    let below = all-values (λ (number : ℕ). number < c.self.inside.layout.buffers) (λ (part : Part). part.buffer)
    c.args.received.now.parts c.loop-part.index c.in-Some.part.now next known in
    omega (arith, c.number.ensures, below)

pub slice_bounds-load-end : goal.slice_bounds-load-end
slice_bounds-load-end g c =
    let i = c.loop-part.invariant in
    let next = is-next c.args.received.now.parts c.loop-part.index c.in-Some.part.now c.in-Some.ensures.some c.in-Some.ensures.part in
    let fits = read-fits c.args.received.now c.loop-part.index c.loop-part.read c.from.result c.in-Some.part.now c.requires.whole next
    i.read_is c.from.ensures in
    omega (arith, fits)

pub load-requires : goal.load-requires
load-requires g c =
    let i = c.loop-part.invariant in
    let parts = c.args.received.now.parts in
    let next = is-next parts c.loop-part.index c.in-Some.part.now c.in-Some.ensures.some c.in-Some.ensures.part in
    let fits = read-fits c.args.received.now c.loop-part.index c.loop-part.read c.from.result c.in-Some.part.now c.requires.whole next
    i.read_is c.from.ensures in
    let long = part-long c.loop-part.into c.loop-part.read c.from.result (omega (arith, fits, i.room)) in
    let short = all-values (λ (size : ℕ). size ≤ receive_buffer_bytes) (λ (part : Part). part.length) parts c.loop-part.index
    c.in-Some.part.now next c.requires.whole.fits in
    let memory = rw (← c.self.view_is) at c.requires.memory in
    omega (arith, long, short, c.from.ensures, c.receive_buffer-buffer.ensures.below_size, memory, i.keeps.extent)

pub overflow_add-index : goal.overflow_add-index
overflow_add-index g c = omega (arith, c.in-Some.ensures.some, c.in-Some.ensures.most)

pub loop-part-preserved : goal.loop-part-preserved
loop-part-preserved g c =
    let i = c.loop-part.invariant in
    let parts = c.args.received.now.parts in
    let part = c.in-Some.part.now in
    let index = c.loop-part.index in
    let read = c.loop-part.read in
    let n = c.from.result in
    let into = c.loop-part.into in
    let loaded = c.load.new.into in
    let below = c.in-Some.ensures.some in
    let next = is-next parts index part below c.in-Some.ensures.part in
    let fits = read-fits c.args.received.now index read n part c.requires.whole next i.read_is c.from.ensures in
    let long : length (take (read + n - read) (drop read into)) ≡ n = part-long into read n (omega (arith, fits, i.room)) in
    let size : length loaded ≡ n = c.load.ensures.length ∙ long in
    let place : c.receive_buffer-buffer.result ≡ buffer_at c.args.self.now.layout part.buffer =
    rw (← c.self.view_is) (c.receive_buffer-buffer.ensures.start ∙ ap (buffer_at c.self.inside.layout) c.number.ensures) in
    record {
      few = omega (arith, below);
      read_is = omega (arith, i.read_is, bytes-next parts index part next, c.from.ensures);
      room = copied-long into loaded read (read + n - read) (omega (arith, fits, i.room)) (omega (arith, size)) ∙ i.room;
      rest = rest-next into _ c.args.into.now read n
          (drop-put_mid read (read + n - read) into loaded (read + n) (omega arith) (omega (arith, fits, i.room)) (omega (arith, size)))
          i.rest;
      keeps = keeps-on g.B.Bus g.met.B.Bus.composes.lent_stays_on _ _ _ i.keeps c.load.ensures.keeps;
      ran = λ up held is. reads-next g.B.Bus g.met.B.Bus.composes.joins (holding held c.args.self.now) parts index
          c.receive_buffer-buffer.result (length (take (read + n - read) (drop read into))) part loaded c.args.bus.now c.loop-part.bus
          c.load.new.self next place (long ∙ c.from.ensures) (c.load.ensures.acts (i.keeps.honest is.honest)) (i.ran up held is);
      frame = λ up first pieces later is are.
          take-put_mid read (read + n - read) into loaded (read + n) (omega (arith, size)) (omega (arith, fits, i.room))
          ∙ frame-next g.B.Bus (holding (first ++ (pieces ++ later)) c.args.self.now) first pieces later parts index
          c.receive_buffer-buffer.result (length (take (read + n - read) (drop read into))) part loaded (take read into) c.loop-part.bus
          c.load.new.self refl are below c.in-Some.ensures.part place (long ∙ c.from.ensures)
          (c.load.ensures.acts (i.keeps.honest is.honest)) (i.ran up (first ++ (pieces ++ later)) is).goes.flows.ready
          (i.frame up first pieces later is are);
    }

pub returns-clause-ran : goal.returns-clause-ran
returns-clause-ran g c up held is =
    let parts = c.args.received.now.parts in
    subst (λ (list : List Part). Ran g.B.Bus up (only (part_loads c.args.self.now.layout list))
    (at c.args.bus.now (holding held c.args.self.now)) (at c.loop-part.bus (holding held c.args.self.now)))
    (take_all c.loop-part.index parts c.in_default.ensures.none) (c.loop-part.invariant.ran up held is)

pub returns-clause-frame : goal.returns-clause-frame
returns-clause-frame g c up first pieces later is are =
    let all : length pieces ≤ c.loop-part.index =
    omega (arith, c.in_default.ensures.none, ap length are, length-map pieces part_of) in
    c.loop-part.invariant.frame up first pieces later is are ∙ ap frame_of (take_all c.loop-part.index pieces all)

pub loop-part-smaller : goal.loop-part-smaller
loop-part-smaller g c = omega (arith, c.in-Some.ensures.some)

pub returns-clause-keeps : goal.returns-clause-keeps
returns-clause-keeps g c = c.loop-part.invariant.keeps

pub returns-clause-length : goal.returns-clause-length
returns-clause-length g c =
    let parts = c.args.received.now.parts in
    c.loop-part.invariant.read_is
    ∙ ap (λ (list : List Part). sum (lengths_in list)) (take_all c.loop-part.index parts c.in_default.ensures.none)
    ∙ sym c.requires.whole.sum

pub returns-clause-rest : goal.returns-clause-rest
returns-clause-rest g c = c.loop-part.invariant.rest

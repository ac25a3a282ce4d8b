use Rattle.std.proofs.Common.{◌≡◌, ◌<◌, ◌^◌, ◌++◌, ◌∷◌, [], ℕ, List, sym, ap, subst, ◌∙◌, arith}
use Rattle.dma_memory.specs.Owners.{copies}
use Rattle.adapter.specs.Calls.{Ran, at, ether_type_load, only}
use Rattle.adapter.specs.DriverState.{DriverState, holding, piece_numbers, owners}
use Rattle.driver.specs.HandlerSteps.{Shows}
use Rattle.driver.specs.Parts.{buffers_in}
use Rattle.driver.specs.declared.receiver.Received.{Received}
use Rattle.driver.proofs.ShownRuns.{hands-bad, hands-shown, known-all}
use Rattle.driver.proofs.TakenRuns.{buffers-pieces, received-same}
use Rattle.driver.proofs.driver.Driver.pass_on.Goals as goal

pub returns-then-not-run-clause-hands : goal.returns-then-not-run-clause-hands
returns-then-not-run-clause-hands g c =
    let d = c.args.self.now in
    let after = c.self.inside in
    let same : after.bad ≡ d.bad = ap (λ (s : DriverState). s.bad) c.self.view_is
    ∙ ap (λ (s : DriverState). s.bad) c.put_back.ensures.others in
    let pool : c.put_back.new.self.pool ≡ after.pool.free = ap (λ (s : DriverState). s.pool) (sym c.self.view_is) in
    let is = c.saturating_add-self-inside.ensures in
    let below : after.bad < 2 ^ 64 = omega arith in
    hands-bad g.R.Receiver.took g.met.R.Receiver.stays c.args.receiver.now c.args.parts d _
    (record {
      least = omega (arith, same, is, below);
      most = omega (arith, same, is);
      exactly = λ below_greatest. omega (arith, same, is, below_greatest);
    })
    (λ k. c.put_back.ensures.back k ∙ ap (copies k) pool)

pub ether_type-ether_type-requires-clause-known : goal.ether_type-ether_type-requires-clause-known
ether_type-ether_type-requires-clause-known g c =
    known-all c.args.self.now.layout.buffers (buffers_in c.args.parts) (owners c.args.self.now) c.requires.one_owner

-- The run is whole. The frame that is shown has the parts and the length of the run, which are those of a frame by the precondition
-- `parts`.
pub returns-clause-hands : goal.returns-clause-hands
returns-clause-hands g c =
    let whole = c.if-not-run.false in
    hands-shown g.R.Receiver.took c.args.receiver.now c.show.new.receiver _ c.args.self.now c.show.new.self
    (record {
      size = c.requires.parts.size whole;
      sum = c.requires.parts.length_is;
      fits = c.requires.parts.fits whole;
    }) c.show.ensures.shows (ap (λ (s : DriverState). s.bad) c.show.ensures.others)

pub returns-clause-over : goal.returns-clause-over
returns-clause-over g c up held [] whole same long is = absurd long
returns-clause-over g c up held (first ∷ later) whole same long is =
    let d = holding (held ++ first ∷ later) c.args.self.now in
    let new = c.ether_type-ether_type.new.bus in
    let read = c.ether_type-ether_type.ensures.shows up held later first is same long in
    let received = received-same first later c.args.parts _ _ same c.requires.parts.length_is read long in
    let numbers : buffers_in c.args.parts ≡ piece_numbers (first ∷ later) = ap buffers_in (sym same) ∙ buffers-pieces (first ∷ later) in
    record {
      shows = subst (λ (one : Received). Shows g.R.Receiver.took c.args.receiver.now c.show.new.receiver one d.pool
          c.show.new.self.pool) (sym received) c.show.ensures.shows;
      bad = ap (λ (s : DriverState). s.bad) c.show.ensures.others;
      ran = subst (λ (list : List ℕ). Ran g.B.Bus up (only (ether_type_load d.layout list)) (at c.args.bus.now d) (at new d)) numbers
          (c.ether_type-ether_type.ensures.ran up (held ++ first ∷ later) is);
    }

use Rattle.std.proofs.Common.{◌∷◌, [], sym, subst, ◌∙◌}
use Rattle.adapter.specs.bus_types.event.Access.TheVariants.{Writes}
use Rattle.adapter.proofs.ReceiveAccesses.{ran_by-offers}
use Rattle.adapter.specs.Calls.{Ran, at, only}
use Rattle.adapter.specs.DriverState.{DriverState, holding, next_receive}
use Rattle.driver.specs.InsideDriver.{driver_state_of}
use Rattle.driver.proofs.BufferQueue.{no_second-inside, none-staged, offered-inside, owners-offered, queue-split}
use Rattle.driver.proofs.driver.Driver.offer_all.Goals as goal

pub returns-clause-ran : goal.returns-clause-ran
returns-clause-ran g c =
    let d = c.self.inside in
    let old = c.args.bus.now in
    let new = c.write.new.self in
    let receives = c.self.invariant.receives in
    let split = queue-split d receives in
    let last = next_receive (driver_state_of d) in
    rw (← c.self.view_is) (λ up held is.
    subst (λ (s : DriverState). Ran g.B.Bus up (only (Writes 0x2818 last ∷ [])) (at old (holding held (driver_state_of d)))
    (at new (holding held s))) (sym (offered-inside d receives))
    (ran_by-offers g.B.Bus old new (holding held (driver_state_of d)) c.from.result (c.from.ensures
    ∙ split.next) (c.write.ensures.acts is.honest) is.ready))

pub returns-clause-one_owner : goal.returns-clause-one_owner
returns-clause-one_owner g c =
    let d = c.self.inside in
    no_second-inside (record d { staged = 0 }) (none-staged d c.self.invariant.receives)

pub returns-clause-owners : goal.returns-clause-owners
returns-clause-owners g c = rw (← c.self.view_is) (owners-offered c.self.inside c.self.invariant.receives)

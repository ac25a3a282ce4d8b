use Rattle.std.proofs.Common.{ℕ, List, ap, ◌∙◌}
use Rattle.adapter.specs.DriverState.{holding}
use Rattle.driver.specs.InsideDriver.{driver_state_of}
use Rattle.driver.proofs.MappedResults.{on_err-map, on_ok-map}
use Rattle.driver.proofs.driver.Driver.join.Goals as goal

pub returns-clause-joins : goal.returns-clause-joins
returns-clause-joins g c = rw (← c.self.view_is) (λ up held is.
    c.join.ensures.changes up (holding held (driver_state_of c.self.inside)) (record { honest = is.honest; ready = is.ready }))

pub returns-clause-joined : goal.returns-clause-joined
returns-clause-joined g c = rw (← c.self.view_is) c.join.ensures.joined

pub returns-clause-full : goal.returns-clause-full
returns-clause-full g c = rw (← c.self.view_is) c.join.ensures.full

pub returns-clause-refused : goal.returns-clause-refused
returns-clause-refused g c =
    on_err-map c.join.result
    (λ same. (ap (λ (groups : List (List ℕ)). driver_state_of (record c.self.inside { groups = groups })) same.0 ∙ c.self.view_is, same.1))
    c.join.ensures.refused

pub returns-clause-others : goal.returns-clause-others
returns-clause-others g c = rw (← c.self.view_is) (
    on_ok-map c.join.result (ap (λ (groups : List (List ℕ)). driver_state_of (record c.self.inside { groups = groups })))
    c.join.ensures.list)

use Rattle.std.proofs.Common.{ℕ, List, ap, ◌∙◌}
use Rattle.adapter.specs.DriverState.{holding}
use Rattle.driver.specs.InsideDriver.{driver_state_of}
use Rattle.driver.proofs.MappedResults.{on_err-map}
use Rattle.driver.proofs.driver.Driver.leave.Goals as goal

pub returns-clause-leaves : goal.returns-clause-leaves
returns-clause-leaves g c = rw (← c.self.view_is) (λ up held is.
    c.leave.ensures.changes up (holding held (driver_state_of c.self.inside)) (record { honest = is.honest; ready = is.ready }))

pub returns-clause-not_joined : goal.returns-clause-not_joined
returns-clause-not_joined g c = rw (← c.self.view_is) c.leave.ensures.not_joined

pub returns-clause-left : goal.returns-clause-left
returns-clause-left g c = rw (← c.self.view_is) c.leave.ensures.list

pub returns-clause-refused : goal.returns-clause-refused
returns-clause-refused g c =
    on_err-map c.leave.result
    (λ same. (ap (λ (groups : List (List ℕ)). driver_state_of (record c.self.inside { groups = groups })) same.0 ∙ c.self.view_is, same.1))
    c.leave.ensures.refused

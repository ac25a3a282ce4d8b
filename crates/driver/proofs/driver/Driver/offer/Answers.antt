use Rattle.std.proofs.Common.{◌≡◌, ◌∷◌, [], ℕ, List, length, refl, sym, ap, subst, ◌∙◌}
use Rattle.adapter.proofs.Keeping.{keeps-here}
use Rattle.adapter.specs.bus_types.event.Access.{Access}
use Rattle.adapter.specs.bus_types.event.Access.TheVariants.{Writes}
use Rattle.adapter.proofs.DriverAccesses.{ran_by-stays}
use Rattle.adapter.specs.Calls.{Ran, at, only, tail_write}
use Rattle.adapter.specs.DriverState.{DriverState, holding, next_receive}
use Rattle.driver.specs.InsideDriver.{driver_state_of}
use Rattle.driver.proofs.BufferQueue.{no_second-inside, offered-inside, queue-split, tail_write-none}
use Rattle.driver.proofs.BufferQueue.{tail_write-some}
use Rattle.driver.proofs.driver.Driver.offer.Goals as goal

pub returns-then-self-eq0-clause-ran : goal.returns-then-self-eq0-clause-ran
returns-then-self-eq0-clause-ran g c up held is =
    let d = c.args.self.now in
    let bus = c.args.bus.now in
    let none : length d.staged ≡ 0 = ap (λ (s : DriverState). length s.staged) (sym c.self.view_is)
    ∙ (queue-split c.self.inside c.self.invariant.receives).staged ∙ c.if-self-eq0.true in
    subst (λ (list : List Access). Ran g.B.Bus up (only list) (at bus (holding held d)) (at bus (holding held d)))
    (sym (tail_write-none (next_receive d) d.staged none))
    (ran_by-stays g.B.Bus g.met.B.Bus.composes.stays bus (holding held d) is.ready)

pub returns-clause-ran : goal.returns-clause-ran
returns-clause-ran g c up held is =
    let d = c.args.self.now in
    let some : tail_write (next_receive d) d.staged ≡ Writes 0x2818 (next_receive d) ∷ [] =
    tail_write-some (next_receive d) d.staged (λ none. c.if-self-eq0.false (sym (queue-split c.self.inside c.self.invariant.receives).staged
    ∙ ap (λ (s : DriverState). length s.staged) c.self.view_is ∙ none)) in
    subst (λ (list : List Access). Ran g.B.Bus up (only list) (at c.args.bus.now (holding held d))
    (at c.offer_all.new.bus (holding held c.offer_all.new.self))) (sym some) (c.offer_all.ensures.ran up held is)

pub returns-then-self-eq0-clause-one_owner : goal.returns-then-self-eq0-clause-one_owner
returns-then-self-eq0-clause-one_owner g c = rw (← c.self.view_is) (no_second-inside c.self.inside c.self.invariant.receives)

pub returns-then-self-eq0-clause-keeps : goal.returns-then-self-eq0-clause-keeps
returns-then-self-eq0-clause-keeps g c = keeps-here g.B.Bus g.met.B.Bus.composes.lent_stays_here c.args.bus.now

pub returns-then-self-eq0-clause-others : goal.returns-then-self-eq0-clause-others
returns-then-self-eq0-clause-others g c = rw (← c.self.view_is) (
    ap (λ (staged : ℕ). driver_state_of (record c.self.inside { staged = staged })) c.if-self-eq0.true
    ∙ offered-inside c.self.inside c.self.invariant.receives)

pub returns-then-self-eq0-clause-owners : goal.returns-then-self-eq0-clause-owners
returns-then-self-eq0-clause-owners g c k = refl

use Rattle.std.proofs.Common.{◌∙◌, sym, arith}
use Rattle.std.proofs.lemmas.Bool.{false≢true}
use Rattle.std.proofs.lemmas.Result.{err_from_is_err_and}
use Rattle.adapter.proofs.Keeping.{keeps-here, keeps-on}
use Rattle.bring_up.proofs.LinkTicks.{NotBoth, not-both}
use Rattle.bring_up.proofs.Negotiations.{awaits-late, awaits-none, awaits-on, awaits-up, begins}
use Rattle.bring_up.proofs.link.await_link.Goals as goal

pub loop-init : goal.loop-init
loop-init g c = record {
  keeps = keeps-here g.B.Bus g.met.B.Bus.composes.lent_stays_here c.args.bus.now;
  awaits = λ honest. begins g.B.Bus g.met.B.Bus.composes.stays c.args.bus.now;
}

pub loop-preserved : goal.loop-preserved
loop-preserved g c =
    let before = c.loop.invariant in
    let down : NotBoth c.in_ok-status.status =
    not-both c.in_ok-status.status (λ both. absurd (false≢true (sym c.if-shows_link.false ∙ c.shows_link.ensures.1 both))) in
    record {
      keeps = keeps-on g.B.Bus g.met.B.Bus.composes.lent_stays_on _ _ _ before.keeps c.in_ok-status.ensures.keeps;
      awaits = λ honest.
          awaits-on g.B.Bus g.met.B.Bus.composes.joins c.args.bus.now c.loop.bus c.command.new.bus
          c.loop.counter c.in_ok-status.status
          before.keeps.lively (before.awaits honest) (c.in_ok-status.ensures.commands (before.keeps.honest honest)) down;
    }

pub returns-in_err-status-clause-awaits : goal.returns-in_err-status-clause-awaits
returns-in_err-status-clause-awaits g c honest =
    let before = c.loop.invariant in
    let told = err_from_is_err_and c.from_residual.result c.from_residual.ensures.1 in
    rw told.1
    (awaits-late g.B.Bus g.met.B.Bus.composes.joins c.args.bus.now c.loop.bus c.command.new.bus c.loop.counter
    c.in_err-status.field-0.0 told.0 (told.2 ∙ c.in_err-status.ensures.error)
    before.keeps.lively (before.awaits honest) (c.in_err-status.ensures.commands (before.keeps.honest honest)))

pub returns-then-shows_link-clause-awaits : goal.returns-then-shows_link-clause-awaits
returns-then-shows_link-clause-awaits g c honest =
    let before = c.loop.invariant in
    let both = c.shows_link.ensures.0 c.if-shows_link.true in
    awaits-up g.B.Bus g.met.B.Bus.composes.joins c.args.bus.now c.loop.bus c.command.new.bus c.loop.counter
    c.in_ok-status.status tt
    (before.awaits honest) (c.in_ok-status.ensures.commands (before.keeps.honest honest)) (λ unset. absurd (omega (arith, both.1, unset)))

pub returns-clause-awaits : goal.returns-clause-awaits
returns-clause-awaits g c honest =
    awaits-none g.B.Bus c.args.bus.now c.loop.bus c.loop.counter (omega arith)
    (c.loop.invariant.awaits honest)

use Rattle.std.proofs.Common.{[], rules, subst}
use Rattle.played_adapter.specs.Order.{Tells}
use Rattle.played_adapter.specs.Playing.{Prepares}
use Rattle.played_adapter.specs.declared.player.PlayedAdapter.{PlayedAdapter}
use Rattle.played_adapter.proofs.Quiet.{quiet_prepares}
use Rattle.played_adapter.proofs.player.PlayedAdapter.prepare.Goals as goal

pub returns-then-count_if_quiet : goal.returns-then-count_if_quiet
returns-then-count_if_quiet g c =
    let quiet = c.count_if_quiet.ensures.quiet (search rules) in
    record {
      told = [];
      holds = quiet_prepares c.args.self.now c.count_if_quiet.new.self quiet.0 quiet.1 quiet.2 quiet.3;
      hears = g.met.O.Observer.composes.stays c.args.observer.now;
    }

pub returns : goal.returns
returns g c =
    subst (λ (a : PlayedAdapter). Tells g.O.Observer.heard c.args.observer.now c.prepare_steps.new.observer
    (Prepares a c.prepare_steps.new.self)) (c.count_if_quiet.ensures.busy (search rules)) c.prepare_steps.ensures

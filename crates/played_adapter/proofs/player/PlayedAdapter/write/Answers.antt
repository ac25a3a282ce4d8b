use Rattle.std.proofs.Common.{rules, subst}
use Rattle.adapter.specs.bus_types.event.Access.TheVariants.{Writes}
use Rattle.played_adapter.specs.Order.{Tells}
use Rattle.played_adapter.specs.Playing.{Accessed}
use Rattle.played_adapter.specs.declared.player.PlayedAdapter.{PlayedAdapter}
use Rattle.played_adapter.proofs.Quiet.{quiet_access}
use Rattle.played_adapter.proofs.player.PlayedAdapter.write.Goals as goal

pub returns-then-count_if_quiet : goal.returns-then-count_if_quiet
returns-then-count_if_quiet g c =
    let quiet = c.count_if_quiet.ensures.quiet (search rules) in
    quiet_access g.O.Observer.heard _ c.args.self.now c.count_if_quiet.new.self c.write_now.new.self
    c.args.observer.now c.write_now.new.observer quiet.0 quiet.1 quiet.2 quiet.3 c.write_now.ensures

pub returns : goal.returns
returns g c =
    subst (λ (a : PlayedAdapter). Tells g.O.Observer.heard c.args.observer.now c.write_after_steps.new.observer
    (Accessed (Writes c.args.offset c.args.value) a c.write_after_steps.new.self))
    (c.count_if_quiet.ensures.busy (search rules)) c.write_after_steps.ensures

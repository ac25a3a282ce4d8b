use Rattle.std.proofs.Common.{◌/◌, ◌%◌, List, ℕ, ap, length, sym, ◌∙◌}
use Rattle.scenario_bench.specs.EventLists.{event_of_kind, late_frame}
use Rattle.scenario_bench.proofs.EventsOfCommands.{event_drawn-there}
use Rattle.scenario_bench.proofs.events.Drawn.new.Goals as goal

pub returns : goal.returns
returns c =
    let host = c.args.word / 8 % length c.args.plans.now in
    ap (λ (frame : List ℕ). event_of_kind (c.args.word % 8) host frame (late_frame host)) c.broadcast_of.ensures
    ∙ sym (event_drawn-there c.args.plans.now c.args.word c.index-plans-host.result c.requires)

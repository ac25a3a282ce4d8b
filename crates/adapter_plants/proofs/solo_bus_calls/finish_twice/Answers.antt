use Rattle.std.proofs.Common.{[], sym, subst}
use Rattle.adapter_plants.specs.OneSoloEnd.{solo_end_one}
use Rattle.adapter.specs.TickGroups.{without_go}
use Rattle.adapter.specs.SoloBuses.{PlaysSoloTicks, SoloState, is_solo_go}
use Rattle.adapter_plants.proofs.solo_bus_calls.finish_twice.Goals as goal

pub returns : goal.returns
returns c =
    let again = subst (λ (s : SoloState). PlaysSoloTicks (without_go is_solo_go s.waiting) [] s c.finish-2.new.self) (sym c.requires)
    c.finish-2.ensures in
    solo_end_one (without_go is_solo_go c.args.one.now.waiting) [] c.args.one.now c.finish.new.self c.finish-2.new.self c.finish.ensures
    again

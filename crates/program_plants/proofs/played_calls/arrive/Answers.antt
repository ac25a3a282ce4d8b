use Rattle.std.proofs.Common.{subst, sym}
use Rattle.played_adapter.specs.Order.{Tells}
use Rattle.played_adapter.specs.Playing.{Arrives}
use Rattle.played_adapter.specs.declared.player.PlayedAdapter.{PlayedAdapter}
use Rattle.rx_engine.specs.declared.arrival.Fate.{Fate}
use Rattle.program_plants.proofs.OnePlay.{arrival_one, arrives_one, one_told}
use Rattle.program_plants.proofs.played_calls.arrive.Goals as goal

pub returns : goal.returns
returns g c =
    let heard = g.O.Observer.heard in
    let frame = c.args.frame.now in
    let a = c.args.one.now in
    let another = c.args.another.now in
    let end = c.arrive-2.new.observer in
    let again = subst (λ (s : PlayedAdapter). Tells heard another end (Arrives frame c.arrive-2.result s c.arrive-2.new.self)) (sym
    c.requires)
    c.arrive-2.ensures in
    let fates = arrives_one frame a c.arrive.new.self c.arrive-2.new.self c.arrive.result c.arrive-2.result c.arrive.ensures.told
    again.told c.arrive.ensures.holds again.holds in
    let same = one_told heard (Arrives frame c.arrive.result) (arrival_one frame c.arrive.result) a c.arrive.new.self c.arrive-2.new.self
    c.args.observer.now c.arrive.new.observer another end c.arrive.ensures
    (subst (λ (fate : Fate). Tells heard another end (Arrives frame fate a c.arrive-2.new.self)) (sym fates) again) in
    record { fate = fates; state = same.0; told = same.1 }

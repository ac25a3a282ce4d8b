use Rattle.std.proofs.Common.{subst, sym}
use Rattle.played_adapter.specs.Playing.{AllArrive}
use Rattle.played_adapter.specs.declared.player.PlayedAdapter.{PlayedAdapter}
use Rattle.played_adapter.specs.Order.{Tells}
use Rattle.program_plants.proofs.OnePlay.{all_one, one_told}
use Rattle.program_plants.proofs.played_calls.deliver_all.Goals as goal

pub returns : goal.returns
returns g c =
    let heard = g.O.Observer.heard in
    let again = subst (λ (s : PlayedAdapter). Tells heard c.args.another.now c.deliver_all-2.new.observer (AllArrive s
    c.deliver_all-2.new.self))
    (sym c.requires) c.deliver_all-2.ensures in
    let same = one_told heard (AllArrive) all_one c.args.one.now c.deliver_all.new.self c.deliver_all-2.new.self c.args.observer.now
    c.deliver_all.new.observer c.args.another.now c.deliver_all-2.new.observer c.deliver_all.ensures again in
    record { state = same.0; told = same.1 }

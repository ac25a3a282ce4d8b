use Rattle.std.proofs.Common.{subst, sym}
use Rattle.adapter.specs.bus_types.event.Access.TheVariants.{Writes}
use Rattle.played_adapter.specs.Order.{Tells}
use Rattle.played_adapter.specs.Playing.{Accessed}
use Rattle.played_adapter.specs.declared.player.PlayedAdapter.{PlayedAdapter}
use Rattle.program_plants.proofs.OnePlay.{accessed_one, one_told}
use Rattle.program_plants.proofs.played_calls.write.Goals as goal

pub returns : goal.returns
returns g c =
    let heard = g.O.Observer.heard in
    let writes = Writes c.args.offset c.args.value in
    let again = subst (λ (s : PlayedAdapter). Tells heard c.args.another.now c.write-2.new.observer (Accessed writes s
    c.write-2.new.self))
    (sym c.requires) c.write-2.ensures in
    let same = one_told heard (Accessed writes) (accessed_one writes) c.args.one.now c.write.new.self c.write-2.new.self
    c.args.observer.now
    c.write.new.observer c.args.another.now c.write-2.new.observer c.write.ensures again in
    record { state = same.0; told = same.1 }

use Rattle.std.proofs.Common.{true, length, rules}
use Rattle.adapter.specs.bus_types.event.Access.TheVariants.{Stores}
use Rattle.played_adapter.specs.Playing.{Accessed, AnswersStore}
use Rattle.played_adapter.proofs.Happening.{accessed}
use Rattle.played_adapter.proofs.Playing.{still_fits}
use Rattle.played_adapter.proofs.Telling.{tells_so}
use Rattle.played_adapter.proofs.player.PlayedAdapter.store.Goals as goal

pub store_now-requires : goal.store_now-requires
store_now-requires g c =
    still_fits c.args.self.now c.prepare.new.self c.prepare.ensures.told c.args.address (length c.args.bytes.now) (search rules)
    c.prepare.ensures.holds

pub returns : goal.returns
returns g c =
    let heard = g.O.Observer.heard in
    let a = c.args.self.now in
    let end = c.store_now.new.self in
    let stores = Stores c.args.address c.args.bytes.now in
    tells_so heard (Accessed stores a end) (AnswersStore c.args.address c.args.bytes.now true a end) c.args.observer.now
    c.store_now.new.observer
    (λ told happens. record { range = search rules; accessed = λ yes. happens; refused = λ no. absurd (cc) })
    (accessed heard g.met.O.Observer.composes stores a c.prepare.new.self end c.args.observer.now c.prepare.new.observer
    c.store_now.new.observer c.prepare.ensures c.store_now.ensures)

use Rattle.std.proofs.Common.{true, length, rules}
use Rattle.adapter.specs.bus_types.event.Access.TheVariants.{Loads}
use Rattle.played_adapter.specs.Playing.{Accessed, AnswersLoad}
use Rattle.played_adapter.proofs.Happening.{accessed, not_loaded}
use Rattle.played_adapter.proofs.Playing.{still_fits}
use Rattle.played_adapter.proofs.Telling.{tells_so}
use Rattle.played_adapter.proofs.player.PlayedAdapter.load.Goals as goal

pub returns-then-not-has_bytes : goal.returns-then-not-has_bytes
returns-then-not-has_bytes g c =
    not_loaded g.O.Observer.heard g.met.O.Observer.composes c.args.address c.args.into.now c.args.self.now c.args.observer.now
    (search rules)

pub load_now-requires : goal.load_now-requires
load_now-requires g c =
    still_fits c.args.self.now c.prepare.new.self c.prepare.ensures.told c.args.address (length c.args.into.now) (search rules)
    c.prepare.ensures.holds

pub returns : goal.returns
returns g c =
    let heard = g.O.Observer.heard in
    let a = c.args.self.now in
    let end = c.load_now.new.self in
    let loads = Loads c.args.address (length c.args.into.now) in
    tells_so heard (Accessed loads a end) (AnswersLoad c.args.address c.args.into.now c.load_now.new.into true a end)
    c.args.observer.now c.load_now.new.observer (λ told happens. record {
      range = search rules;
      accessed = λ yes. happens;
      loaded = λ yes. c.load_now.ensures.loaded;
      refused = λ no. absurd (cc);
    })
    (accessed heard g.met.O.Observer.composes loads a c.prepare.new.self end c.args.observer.now c.prepare.new.observer
    c.load_now.new.observer c.prepare.ensures c.load_now.ensures.tells)

use Rattle.std.proofs.Common.{◌∙◌, ◌∷◌, List, ap, sym, ℕ}
use Rattle.played_adapter.proofs.Choosing.{none_arrives, oldest_arrives}
use Rattle.played_adapter.proofs.player.PlayedAdapter.deliver_next.Goals as goal

pub returns-in_default : goal.returns-in_default
returns-in_default g c =
    let none = c.in_default.ensures.none in
    none_arrives g.O.Observer.heard g.met.O.Observer.composes c.pop.new.self c.args.self.now c.args.observer.now none.0 none.1

pub returns : goal.returns
returns g c =
    let later = c.pop.new.self in
    oldest_arrives g.O.Observer.heard g.met.O.Observer.composes c.as_slice-bytes.result.now later c.arrive-fate.result c.args.self.now
    c.report.new.self _ c.args.observer.now c.offered_arrived.new.self c.report.new.observer
    (c.in-Some.ensures.some ∙ ap (λ (frame : List ℕ). frame ∷ later) (sym c.as_slice-bytes.ensures)) c.arrive-fate.ensures.occurs
    c.arrive-fate.ensures.state c.offered_arrived.ensures c.report.ensures

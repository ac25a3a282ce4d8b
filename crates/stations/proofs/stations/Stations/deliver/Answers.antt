use Rattle.std.proofs.Common.{◌≡◌, Bor, IfSome, List, Option, ℕ, Some, length, slice_get, ap, arith, sym, subst, ◌∙◌}
use Rattle.std.proofs.lemmas.List.{length-set}
use Rattle.stations.specs.Ends.{EndState}
use Rattle.stations.specs.Stations.{backlog_of}
use Rattle.stations.specs.declared.tick.Tick.TheVariants.{Deliver}
use Rattle.stations.proofs.Hosts.{as-long, is-there, no-station, shows}
use Rattle.stations.proofs.PlayedTicks.{noted, plays-nothing}
use Rattle.stations.proofs.Spreading.{delivers-frame, delivers-none}
use Rattle.stations.proofs.stations.Stations.deliver.Goals as goal

pub returns-then-host-len : goal.returns-then-host-len
returns-then-host-len g c = noted
    (plays-nothing c.args.self.now (Deliver c.args.host) (ap backlog_of (no-station c.self.view_is c.self.invariant (omega arith))))
    c.note.ensures.heard c.note.ensures.room

pub returns-in_default : goal.returns-in_default
returns-in_default g c = noted
    (delivers-none c.self.view_is c.self.invariant (omega arith) (λ end is. (c.front.ensures.none end is).0 (cc c.in_default.is)))
    c.note-in_default.ensures.heard c.note-in_default.ensures.room

pub invariant_of-self : goal.invariant_of-self
invariant_of-self g c =
    let there = is-there c.args.host c.self.invariant (omega arith) in
    record {
      ends =
          ap (λ (list : List EndState). length list) (c.pop.ensures there.end there.has_end)
          ∙ length-set c.self.inside.wires c.args.host _
          ∙ c.self.invariant.ends
          ∙ sym (length-set c.self.inside.machines.items c.args.host c.arrive-fate.new.self);
    }

pub returns : goal.returns
returns g c = noted
    (delivers-frame c.pop.new.self c.self.view_is
    (shows c.self.view_is c.self.invariant (omega (arith, as-long c.self.view_is c.self.invariant)) c.index_mut.ensures.value)
    (λ end is. subst (λ (found : Option (Bor (List ℕ))). IfSome found (λ frame. slice_get end.backlog 0 ≡ Some frame.now))
    c.in-Some.is (c.front.ensures.oldest end is)) c.arrive-fate.ensures.occurs c.arrive-fate.ensures.state c.pop.ensures)
    c.note-2.ensures.heard c.note-2.ensures.room

use Rattle.std.proofs.Common.{◌≡◌, ◌∷◌, [], Bor, IfSome, List, Option, ℕ, arith, sym, subst, ◌∙◌}
use Rattle.adapter.specs.Outcomes.{oldest_queued}
use Rattle.std.proofs.lemmas.List.{get_or_default, length-set}
use Rattle.stations.specs.Ends.{end_after_put}
use Rattle.stations.proofs.Hosts.{below-machines, is-there}
use Rattle.stations.proofs.PlayedTicks.{noted, not-none}
use Rattle.stations.proofs.Spreading.{finds-no_frame, finds-wire, finds-wire_full, puts-frame, same-length}
use Rattle.stations.proofs.stations.Stations.put.Goals as goal

pub have_room-wire_free-requires : goal.have_room-wire_free-requires
have_room-wire_free-requires g c =
    record {
      there = omega (arith, c.self.invariant.ends, below-machines c.self.view_is c.self.invariant c.requires.there);
    }

pub index-requires : goal.index-requires
index-requires g c = omega (arith, below-machines c.self.view_is c.self.invariant c.requires.there)

pub returns-in_default : goal.returns-in_default
returns-in_default g c = noted
    (finds-no_frame
    (finds-wire c.self.view_is c.self.invariant c.requires.there c.index.ensures c.have_room-wire_free.ensures
    c.to_put.ensures.adapter) (c.to_put.ensures.none.0 (cc c.in_default.is)))
    c.note.ensures.heard c.note.ensures.room

pub returns-then-not-wire_free : goal.returns-then-not-wire_free
returns-then-not-wire_free g c = noted
    (finds-wire_full
    (finds-wire c.self.view_is c.self.invariant c.requires.there c.index.ensures c.have_room-wire_free.ensures
    c.to_put.ensures.adapter)
    (λ empty. not-none _ _ c.in-Some.is (c.to_put.ensures.none.1 empty)) (cc c.if-not-wire_free.true))
    c.note-then-not-wire_free.ensures.heard c.note-then-not-wire_free.ensures.room

pub put-requires-clause-there : goal.put-requires-clause-there
put-requires-clause-there g c =
    omega (arith, c.self.invariant.ends, below-machines c.self.view_is c.self.invariant c.requires.there)

pub put-requires-clause-room : goal.put-requires-clause-room
put-requires-clause-room g c = λ end is. (c.have_room-wire_free.ensures end is).0 (cc c.if-not-wire_free.false)

pub index_mut-requires : goal.index_mut-requires
index_mut-requires g c = omega (arith, below-machines c.self.view_is c.self.invariant c.requires.there)

pub invariant_of-self : goal.invariant_of-self
invariant_of-self g c =
    let there = is-there c.args.host c.self.invariant (below-machines c.self.view_is c.self.invariant c.requires.there) in
    record {
      ends =
          same-length (λ (k : ℕ). end_after_put c.args.host there.end.wire (c.in-Some.frame.now ∷ []) k) c.self.inside.wires c.put.new.self
          (c.put.ensures there.end there.has_end)
          ∙ c.self.invariant.ends ∙ sym (length-set c.self.inside.machines.items c.args.host c.step.new.self);
    }

pub returns : goal.returns
returns g c = noted
    (puts-frame c.put.new.self c.step.result
    (finds-wire c.self.view_is c.self.invariant c.requires.there c.index.ensures c.have_room-wire_free.ensures
    c.to_put.ensures.adapter)
    (cc c.if-not-wire_free.false)
    (c.index.ensures ∙ get_or_default c.self.inside.machines.items c.args.host c.index.result.now c.index_mut.result.now
    (below-machines c.self.view_is c.self.invariant c.requires.there) ∙ sym c.index_mut.ensures.value)
    (λ empty. not-none _ _ c.in-Some.is (c.to_put.ensures.none.1 empty))
    (subst (λ (found : Option (Bor (List ℕ))).
    IfSome found (λ one. one.now ≡ oldest_queued c.index.result.now.world.adapter.transmitter.buffer)) c.in-Some.is c.to_put.ensures.oldest)
    c.step.ensures.occurs c.step.ensures.state c.put.ensures)
    c.note-2.ensures.heard c.note-2.ensures.room

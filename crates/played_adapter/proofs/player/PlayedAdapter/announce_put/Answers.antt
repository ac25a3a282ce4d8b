use Rattle.std.proofs.Common.{◌≡◌, ◌∷◌, [], None, ap, rules, subst, sym, true≢false, ◌∙◌}
use Rattle.adapter.specs.Outcomes.{FrameOutcome}
use Rattle.adapter.specs.model_types.outcome.Outcome.TheVariants.{Put}
use Rattle.adapter.specs.model_types.step.StepKind.TheVariants.{TxPut}
use Rattle.played_adapter.specs.Playing.{has_room}
use Rattle.played_adapter.specs.Told.{Stepped}
use Rattle.played_adapter.proofs.Putting.{expects_full, expects_none, expects_put, kept_full, kept_none, kept_not}
use Rattle.played_adapter.proofs.player.PlayedAdapter.announce_put.Goals as goal

pub returns-in_default-clause-reported : goal.returns-in_default-clause-reported
returns-in_default-clause-reported g c =
    let a = c.args.self.now in
    let buffer = a.machine.world.adapter.transmitter.buffer in
    let none : buffer ≡ [] = search rules in
    subst (λ (o : FrameOutcome). g.O.Observer.heard c.args.observer.now c.stepped.new.self (Stepped TxPut o None ∷ []))
    (expects_none (has_room a) buffer none) c.stepped.ensures

pub returns-in_default-clause-kept : goal.returns-in_default-clause-kept
returns-in_default-clause-kept g c = kept_none c.args.self.now (search rules)

pub returns-then-not-has_room-clause-kept : goal.returns-then-not-has_room-clause-kept
returns-then-not-has_room-clause-kept g c =
    kept_full c.args.self.now (sym c.has_room-has_room.ensures ∙ c.if-not-has_room.true)

pub returns-then-not-has_room-clause-reported : goal.returns-then-not-has_room-clause-reported
returns-then-not-has_room-clause-reported g c =
    let a = c.args.self.now in
    let buffer = a.machine.world.adapter.transmitter.buffer in
    subst
    (λ (o : FrameOutcome). g.O.Observer.heard c.args.observer.now c.stepped-then-not-has_room.new.self (Stepped TxPut o None ∷ []))
    (expects_full (has_room a) buffer (λ none. true≢false (c.in-Some.ensures.none.1 none))
    (sym c.has_room-has_room.ensures ∙ c.if-not-has_room.true)) c.stepped-then-not-has_room.ensures

pub returns-then-self-clause-reported : goal.returns-then-self-clause-reported
returns-then-self-clause-reported g c =
    let a = c.args.self.now in
    let buffer = a.machine.world.adapter.transmitter.buffer in
    subst (λ (o : FrameOutcome). g.O.Observer.heard c.args.observer.now c.stepped-2.new.self (Stepped TxPut o None ∷ []))
    (ap Put c.in-Some.ensures.oldest
    ∙ expects_put (has_room a) buffer (λ none. true≢false (c.in-Some.ensures.none.1 none))
    (sym c.has_room-has_room.ensures ∙ c.if-not-has_room.false)) c.stepped-2.ensures

pub returns-else-self-clause-reported : goal.returns-else-self-clause-reported
returns-else-self-clause-reported g c =
    let a = c.args.self.now in
    let buffer = a.machine.world.adapter.transmitter.buffer in
    subst (λ (o : FrameOutcome). g.O.Observer.heard c.args.observer.now c.stepped-2.new.self (Stepped TxPut o None ∷ []))
    (ap Put c.in-Some.ensures.oldest
    ∙ expects_put (has_room a) buffer (λ none. true≢false (c.in-Some.ensures.none.1 none))
    (sym c.has_room-has_room.ensures ∙ c.if-not-has_room.false)) c.stepped-2.ensures

pub returns-else-self-clause-kept : goal.returns-else-self-clause-kept
returns-else-self-clause-kept g c = kept_not c.args.self.now (search rules)

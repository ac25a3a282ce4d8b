use Rattle.std.proofs.Common.{◌≡◌, ◌↔◌, IsNone, [], subst}
use Rattle.std.proofs.lemmas.Option.{IfSome_then}
use Rattle.tx_engine.specs.Transmitter.{Transmitter}
use Rattle.tx_engine.specs.Steps.{IfFront}
use Rattle.tx_engine.specs.BufferLaws.{side_by_side-none, side_by_side-front}
use Rattle.tx_engine.proofs.engine.TxEngine.front.Goals as goal

pub returns-clause-none : goal.returns-clause-none
returns-clause-none c =
    let engine = c.self.inside in
    let none = side_by_side-none engine.frames.frames engine.reports.items c.self.invariant.same in
    subst (λ (t : Transmitter). IsNone c.front.result ↔ (t.buffer ≡ [])) c.self.view_is
    (λ empty. none.0 (c.front.ensures.none.0 empty), λ empty. c.front.ensures.none.1 (none.1 empty))

pub returns-clause-oldest : goal.returns-clause-oldest
returns-clause-oldest c =
    let engine = c.self.inside in
    IfSome_then c.front.result c.front.ensures.oldest
    (λ frame front. subst (λ (t : Transmitter). IfFront t.buffer (λ queued. queued.frame ≡ frame.now)) c.self.view_is
    (side_by_side-front engine.frames.frames engine.reports.items frame.now c.self.invariant.same front))

use Rattle.std.proofs.Common.{◌≡◌, ◌↔◌, IsTrue, [], subst}
use Rattle.tx_engine.specs.Transmitter.{Transmitter}
use Rattle.tx_engine.specs.BufferLaws.{side_by_side-none}
use Rattle.tx_engine.proofs.engine.TxEngine.is_empty.Goals as goal

pub returns : goal.returns
returns c =
    let engine = c.self.inside in
    let none = side_by_side-none engine.frames.frames engine.reports.items c.self.invariant.same in
    subst (λ (t : Transmitter). IsTrue c.is_empty.result
    ↔ (t.buffer ≡ [])) c.self.view_is (λ empty. none.0 (c.is_empty.ensures.0 empty), λ empty. c.is_empty.ensures.1 (none.1 empty))

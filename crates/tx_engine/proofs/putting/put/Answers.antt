use Rattle.std.proofs.Common.{rules, ◌≡◌, ◌∷◌, Bool, List, ℕ, drop, subst, sym}
use Rattle.std.specs.List.{All}
use Rattle.dma_memory.specs.Areas.{area_at}
use Rattle.descriptors.specs.declared.ring.Ring.{Ring}
use Rattle.descriptors.specs.Ring.{address_of, offered_places}
use Rattle.tx_engine.specs.Transmitter.{Transmitter}
use Rattle.tx_engine.specs.Steps.{IfFront, status_place, written_back}
use Rattle.tx_engine.specs.ToSend.{to_send, IsAwayFrom}
use Rattle.tx_engine.specs.StatusLaws.{to_send-gone}
use Rattle.tx_engine.proofs.putting.put.Goals as goal

popped : (engine engine' : Transmitter) (memory changed : List ℕ) → engine' ≡ record engine { buffer = drop 1 engine.buffer }
    → IfFront engine.buffer (λ queued. changed ≡ written_back memory queued)
    → IfFront engine.buffer (λ queued. (ring : Ring) (pad : Bool)
    → All (λ slot. IsAwayFrom memory (area_at (status_place queued) 1) (address_of ring slot)) (offered_places ring)
    → to_send memory ring pad engine.buffer ≡ queued.frame ∷ to_send changed ring pad engine'.buffer)
popped engine engine' memory changed rest written =
    subst (λ (t : Transmitter). IfFront engine.buffer (λ queued. (ring : Ring) (pad : Bool)
    → All (λ slot. IsAwayFrom memory (area_at (status_place queued) 1) (address_of ring slot)) (offered_places ring)
    → to_send memory ring pad engine.buffer ≡ queued.frame ∷ to_send changed ring pad t.buffer)) (sym rest)
    (to_send-gone memory changed engine.buffer written)

pub returns-then-report-clause-to_send : goal.returns-then-report-clause-to_send
returns-then-report-clause-to_send c =
    popped c.args.engine.now c.pop.new.self c.args.memory.now c.store.new.self c.pop.ensures.rest (search rules)

pub returns-else-report-clause-to_send : goal.returns-else-report-clause-to_send
returns-else-report-clause-to_send c =
    popped c.args.engine.now c.pop.new.self c.args.memory.now c.args.memory.now c.pop.ensures.rest (search rules)

-- The result of `Receiver::take`.
use Rattle.std.specs.Prelude.{◌≡◌, ◌⊎◌, ◌∷◌, [], List}
use Rattle.driver.specs.declared.parts.Part.{Part}
use Rattle.driver.specs.declared.receiver.Received.{Received}

-- Between `before` and `after`, the receiver was shown the frame `received`. The receiver kept the frame and returned no buffer, or didn't
-- keep the frame and returned all buffers of the frame.
abbrev pub ReceiverAnswers : {R : Type 0} → (R → R → List Received → List Received → Type 0) → (before after : R) → Received
    → (answer : List Part)
    → Type 0
ReceiverAnswers took before after received answer =
    ((answer ≡ []) × took before after (received ∷ []) (received ∷ []))
    ⊎ ((answer ≡ received.parts) × took before after (received ∷ []) [])

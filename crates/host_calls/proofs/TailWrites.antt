-- The counts after writes of RDT and TDT, and after writes that enable or disable neither side.
use Rattle.std.proofs.Common.{◌≡◌, ◌<◌, ℕ, Option, Some, None, [], ◌∷◌, refl, ap, ◌∙◌, arith}
use Rattle.std.specs.List.{All}
use Rattle.std.specs.Prelude.{IfSome, bit_and}
use Rattle.std.proofs.lemmas.Nat.{and_mask}
use Rattle.adapter.specs.Outcomes.{FrameOutcome}
use Rattle.adapter.specs.Rings.{ring_kept}
use Rattle.adapter.specs.Table.{register_at}
use Rattle.adapter.specs.TableLaws.{register_at-there}
use Rattle.adapter.specs.model_types.outcome.Outcome.TheVariants.{Done, Moved, Part, Put, Ticked, Took}
use Rattle.adapter.specs.model_types.register.Register.{Register}
use Rattle.adapter.specs.model_types.register.Register.TheVariants.{Ctrl, Eerd, Rctl, Receive, Tctl, Transmit}
use Rattle.adapter.specs.model_types.register.RingRegister.TheVariants.{Tail}
use Rattle.adapter.specs.model_types.step.StepKind.{StepKind}
use Rattle.adapter.specs.model_types.step.StepKind.TheVariants.{EepromTick, PhyTick}
use Rattle.adapter.proofs.Lists.{all-head, all-left, all-right}
use Rattle.adapter.specs.Trails.{past_of, past_of_event}
use Rattle.adapter.specs.bus_types.event.Access.TheVariants.{Loads, Reads, Stores, Writes}
use Rattle.adapter.specs.bus_types.event.Event.{Event}
use Rattle.adapter.specs.bus_types.event.Event.TheVariants.{Accesses, Arrives, Steps}
use Rattle.host_calls.specs.AnswersLaws.{ReceiveTailWritesAreCounted, SidesStayEnabled, TransmitTailWritesAreCounted}
use Rattle.host_calls.specs.CountedHosts.{IsNotControl, LeavesEnabled}
use Rattle.host_calls.specs.Counts.{HostCounts, after_outcome, counts_after_write, counts_after}

tail-is : (value : ℕ) → value < 65536 → bit_and value (ring_kept Tail) ≡ value
tail-is value below = and_mask value 16 ∙ omega (arith, below)

abbrev with-receive-tail : HostCounts → ℕ → HostCounts
with-receive-tail counts tail = record counts { receive = record counts.receive { ring = record counts.receive.ring { tail = tail } } }

abbrev with-transmit-tail : HostCounts → ℕ → HostCounts
with-transmit-tail counts tail = record counts { transmit = record counts.transmit { ring = record counts.transmit.ring { tail = tail } } }

pub receive-tail-counted : ReceiveTailWritesAreCounted
receive-tail-counted value counts slot fits =
    ap (λ (found : Option Register). counts_after_write found value counts) (register_at-there (Receive Tail) tt)
    ∙ ap (with-receive-tail counts) (tail-is value (omega (arith, slot, fits)))

pub transmit-tail-counted : TransmitTailWritesAreCounted
transmit-tail-counted value counts slot fits =
    ap (λ (found : Option Register). counts_after_write found value counts) (register_at-there (Transmit Tail) tt)
    ∙ ap (with-transmit-tail counts) (tail-is value (omega (arith, slot, fits)))

-- Each side remains enabled or disabled

record StaysEnabled (counts new : HostCounts) : Type 0 where
  receives : new.receive.is_enabled ≡ counts.receive.is_enabled
  transmits : new.transmit.is_enabled ≡ counts.transmit.is_enabled

outcome-stays : (kind : StepKind) (answer : FrameOutcome) (counts : HostCounts) → StaysEnabled counts (after_outcome kind answer counts)
outcome-stays kind Took counts = record { receives = refl; transmits = refl }
outcome-stays kind (Put frame) counts = record { receives = refl; transmits = refl }
outcome-stays kind Part counts = record { receives = refl; transmits = refl }
outcome-stays kind Moved counts = record { receives = refl; transmits = refl }
outcome-stays kind Done counts = record { receives = refl; transmits = refl }
outcome-stays EepromTick Ticked counts = record { receives = refl; transmits = refl }
outcome-stays PhyTick Ticked counts = record { receives = refl; transmits = refl }
outcome-stays kind _ counts = record { receives = refl; transmits = refl }

register-stays : (register : Register) (value : ℕ) (counts : HostCounts) → IsNotControl register
    → StaysEnabled counts (counts_after_write (Some register) value counts)
register-stays Ctrl value counts leaves = absurd leaves
register-stays Rctl value counts leaves = absurd leaves
register-stays Tctl value counts leaves = absurd leaves
register-stays (Receive part) value counts leaves = record { receives = refl; transmits = refl }
register-stays (Transmit part) value counts leaves = record { receives = refl; transmits = refl }
register-stays Eerd value counts leaves = record { receives = refl; transmits = refl }
register-stays _ value counts leaves = record { receives = refl; transmits = refl }

write-stays : (found : Option Register) (value : ℕ) (counts : HostCounts) → IfSome found IsNotControl
    → StaysEnabled counts (counts_after_write found value counts)
write-stays None value counts leaves = record { receives = refl; transmits = refl }
write-stays (Some register) value counts leaves = register-stays register value counts leaves

event-stays : (event : Event) (counts : HostCounts) → All LeavesEnabled (past_of_event event).accesses
    → StaysEnabled counts (counts_after event counts)
event-stays (Steps kind wire_free answer) counts leaves = outcome-stays kind answer counts
event-stays (Arrives frame fate) counts leaves = record { receives = refl; transmits = refl }
event-stays (Accesses (Reads offset value)) counts leaves = record { receives = refl; transmits = refl }
event-stays (Accesses (Writes offset value)) counts leaves =
    write-stays (register_at offset) value counts (all-head LeavesEnabled (Writes offset value) [] leaves)
event-stays (Accesses (Loads address size)) counts leaves = record { receives = refl; transmits = refl }
event-stays (Accesses (Stores address bytes)) counts leaves = record { receives = refl; transmits = refl }

pub sides-stay : SidesStayEnabled
sides-stay [] counts leaves = (refl, refl)
sides-stay (event ∷ later) counts leaves =
    let first = event-stays event counts (all-left LeavesEnabled (past_of_event event).accesses (past_of later).accesses leaves) in
    let rest = sides-stay later (counts_after event counts)
    (all-right LeavesEnabled (past_of_event event).accesses (past_of later).accesses leaves) in
    (rest.0 ∙ first.receives, rest.1 ∙ first.transmits)

-- The meaning of each reason, and laws of the reasons that `fault_if_any` returns.
use Rattle.std.specs.Prelude.{◌≡◌, ◌<◌, ◌⊎◌, ℕ, Bool, List, IsSomeAnd}
use Rattle.adapter.specs.Receiving.{piece_size}
use Rattle.adapter.specs.Steps.{Answers}
use Rattle.adapter.specs.World.{World, receive_ring, transmit_ring}
use Rattle.adapter.specs.model_types.outcome.Outcome.TheVariants.{Fault}
use Rattle.adapter.specs.model_types.step.StepKind.{StepKind}
use Rattle.adapter.specs.StepsAndArrivals.{world_after_step}
use Rattle.descriptors.specs.Frames.{longest_frame}
use Rattle.descriptors.specs.Ring.{HasValidIndices, address_of}
use Rattle.descriptors.specs.TxFields.{command_bits, tx_dext, tx_eop}
use Rattle.descriptors.specs.declared.ring.Ring.{Ring as DescriptorRing}
use Rattle.descriptors.specs.declared.tx_desc.TxDesc.{TxDesc}
use Rattle.dma_memory.specs.HostMemory.{LiesIn}
use Rattle.registers.specs.Bits.{HasBit}
use Rattle.registers.specs.Places.{rctl_bsex}
use Rattle.rx_engine.specs.Descriptors.{named_address}
use Rattle.tx_engine.specs.Fetching.{transmit_descriptor_at}
use Rattle.access_names.specs.Faults.{fault_if_any}
use Rattle.access_names.specs.declared.engine_fault.Engine.{Engine}
use Rattle.access_names.specs.declared.engine_fault.Engine.TheVariants.{Transmit, Receive}
use Rattle.access_names.specs.declared.engine_fault.Reason.{Reason}
use Rattle.access_names.specs.declared.engine_fault.Reason.TheVariants.{Ring, Descriptor, Dext, Eop, Length, Buffer}
use Rattle.access_names.specs.declared.engine_fault.Reason.TheVariants.{Bsex}

-- what a reason means for a transmit ring whose descriptor at the head is `desc`, at this address; `Bsex` never applies
abbrev pub HoldsOfTransmit : Reason → List ℕ → DescriptorRing → (address : ℕ) → TxDesc → Type 0
HoldsOfTransmit Ring memory ring address desc = ¬ (HasValidIndices ring)
HoldsOfTransmit Descriptor memory ring address desc = ¬ (LiesIn memory address 16)
HoldsOfTransmit Dext memory ring address desc = HasBit (command_bits desc.command) tx_dext
HoldsOfTransmit Eop memory ring address desc = ¬ (HasBit (command_bits desc.command) tx_eop)
HoldsOfTransmit Length memory ring address desc = (desc.length ≡ 0) ⊎ (longest_frame < desc.length)
HoldsOfTransmit Buffer memory ring address desc = ¬ (LiesIn memory desc.address desc.length)
HoldsOfTransmit Bsex memory ring address desc = ⊥

-- What a reason means for a value of RCTL, a receive ring whose descriptor at the head is at this address, and a piece of `size` bytes. The
-- reasons `Dext`, `Eop` and `Length` never apply.
abbrev pub HoldsOfReceive : Reason → (control : ℕ) → List ℕ → DescriptorRing → (address size : ℕ) → Type 0
HoldsOfReceive Ring control memory ring address size = ¬ (HasValidIndices ring)
HoldsOfReceive Bsex control memory ring address size = HasBit control rctl_bsex
HoldsOfReceive Descriptor control memory ring address size = ¬ (LiesIn memory address 16)
HoldsOfReceive Buffer control memory ring address size = ¬ (LiesIn memory (named_address memory address) size)
HoldsOfReceive reason control memory ring address size = ⊥

-- the address of the descriptor at the head
abbrev pub head_address : DescriptorRing → ℕ
head_address ring = address_of ring ring.head

-- what a reason means for an engine in this world
abbrev pub HoldsOf : Engine → Reason → World → Type 0
HoldsOf Transmit reason world =
    let address = head_address (transmit_ring world) in
    HoldsOfTransmit reason world.memory (transmit_ring world) address (transmit_descriptor_at world.memory address)
HoldsOf Receive reason world =
    let ring = receive_ring world in
    HoldsOfReceive reason world.adapter.filter.rctl world.memory ring (head_address ring) (piece_size world.adapter)

-- If the outcome of a step is a fault, `fault_if_any` returns a fault for the world before the step. The reason of this fault applies
-- there.
abbrev pub ReasonsHold : Type 0
ReasonsHold =
    (kind : StepKind) (wire_free : Bool) (world : World)
    → Answers kind wire_free world.memory world.adapter Fault
    → IsSomeAnd (fault_if_any kind world) (λ fault. HoldsOf fault.engine fault.reason world)

-- A step with the outcome Fault doesn't change the fault, or `None`, that `fault_if_any` returns.
abbrev pub ReasonsStay : Type 0
ReasonsStay =
    (kind : StepKind) (world : World)
    → fault_if_any kind (world_after_step kind Fault world) ≡ fault_if_any kind world
